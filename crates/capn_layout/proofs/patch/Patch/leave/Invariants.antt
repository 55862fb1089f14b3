use Rattle.std.proofs.Common.{◌≡◌, ◌-◌, ◌++◌, replicate, Some, None}
use Rattle.capn_layout.proofs.patch.Patch.leave.Given as goal

abbrev pub invariant-loop-i : goal.invariant-loop-i
invariant-loop-i g l = l.self ≡ l.fn.self ++ (replicate (l.i - l.at) None ++ replicate (l.n - (l.i - l.at)) (Some 0))
