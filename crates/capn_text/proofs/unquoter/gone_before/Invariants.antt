use Rattle.std.proofs.Common.{◌≡◌, ◌≤◌, ℕ, take}
use Rattle.capn_text.specs.PlainForm.{count_to}
use Rattle.capn_text.proofs.unquoter.gone_before.Given as goal

abbrev pub invariant-loop-i : goal.invariant-loop-i
invariant-loop-i l = (n : ℕ) → l.line ≤ n → count_to n (take l.i l.digits) ≡ l.i
