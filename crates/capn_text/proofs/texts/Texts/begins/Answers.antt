use Rattle.capn_text.proofs.texts.Texts.begins.Goals as goal

pub returns-in-Err-clause-other : goal.returns-in-Err-clause-other
returns-in-Err-clause-other c = λ e. rw (← c.self.view_is) c.in-Err.ensures.other
