use Rattle.std.proofs.Common.{[], ◌∙◌, sym}
use Rattle.std.proofs.lemmas.List.{append-nil}
use Rattle.capn_value.specs.Text.{show_text}
use Rattle.capn_text.proofs.ShowableValues.{showable-fit}
use Rattle.capn_text.proofs.TreeOfText.{apart}
use Rattle.capn_text.proofs.laws.texts.Goals as goal

pub returns-clause-apart : goal.returns-clause-apart
returns-clause-apart c level v w x y sv sw e = apart level v w x y sv sw e

pub returns-clause-showable : goal.returns-clause-showable
returns-clause-showable c v f r = showable-fit v f r

pub returns-clause-one : goal.returns-clause-one
returns-clause-one c v w fv rv fw rw_ e =
    (apart 0 v w [] [] (showable-fit v fv rv) (showable-fit w fw rw_)
    (append-nil (show_text v) ∙ e ∙ sym (append-nil (show_text w)))).0
