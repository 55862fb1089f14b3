use Rattle.std.proofs.Common.{◌≡◌, ◌++◌, length}
use Rattle.capn_text.specs.PlainForm.{plain}
use Rattle.capn_text.proofs.plain_form.plain_text.Given as goal

abbrev pub invariant-loop-line : goal.invariant-loop-line
invariant-loop-line g l = l.out.items ++ plain l.rest ≡ plain l.text

abbrev pub decreases-loop-line : goal.decreases-loop-line
decreases-loop-line g l = length l.rest
