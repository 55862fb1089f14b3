-- `length_of` returns the length that `first` returns.
use Rattle.std.proofs.Common.{rules}
use Rattle.capn_c.proofs.first_call.length_of.Goals as goal

pub returns-in_err-taken-clause-only : goal.returns-in_err-taken-clause-only
returns-in_err-taken-clause-only c m n h = let e = c.in_err-taken.ensures.only m n h in search (rules, e)

pub returns-clause-only : goal.returns-clause-only
returns-clause-only c m n h = (c.in_ok-taken.ensures.only m n h).1
