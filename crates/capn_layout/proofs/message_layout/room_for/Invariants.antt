use Rattle.std.proofs.Common.{◌+◌, ◌*◌, ◌≤◌}
use Rattle.capn_layout.proofs.message_layout.room_for.Given as goal

abbrev pub invariant-loop-segment : goal.invariant-loop-segment
invariant-loop-segment g l = record { reads : l.reads ≤ l.fn.reads + 1 + 2 * l.segment }
