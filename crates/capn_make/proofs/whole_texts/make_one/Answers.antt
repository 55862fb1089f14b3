use Rattle.std.proofs.Common.{◌++◌, arith}
use Rattle.capn_make.proofs.NextTexts.{end_tells}
use Rattle.capn_make.proofs.OneText.{ends_for_a_reason, ends_so}
use Rattle.capn_make.proofs.whole_texts.make_one.Goals as goal

pub returns-clause-made : goal.returns-clause-made
returns-clause-made g c = λ input written h.
    ends_so input c.args.texts.now (written ++ c.args.made.now.items) h c.end_of_one.result (λ e.
    let line = c.line.ensures in
    let later = c.if-line-eq1.false in
    absurd (omega arith)) c.end_of_one.ensures.end

pub returns-clause-memory : goal.returns-clause-memory
returns-clause-memory g c = λ refused.
    absurd (ends_for_a_reason c.args.texts.now c.end_of_one.result c.end_of_one.ensures.end refused)

pub returns-clause-cut : goal.returns-clause-cut
returns-clause-cut g c =
    end_tells c.args.texts.now c.end_of_one.new.cut c.end_of_one.result (λ e.
    let line = c.line.ensures in
    let later = c.if-line-eq1.false in
    absurd (omega arith)) c.end_of_one.ensures.cut
