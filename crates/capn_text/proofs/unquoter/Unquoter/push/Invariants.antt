use Rattle.std.proofs.Common.{length}
use Rattle.capn_text.proofs.Unquotings.{HasPushed}
use Rattle.capn_text.proofs.unquoter.Unquoter.push.Given as goal

abbrev pub invariant-loop-line : goal.invariant-loop-line
invariant-loop-line g l = HasPushed l.fn.self l.self l.fn.piece l.rest l.fn.out.items l.out.items

abbrev pub decreases-loop-line : goal.decreases-loop-line
decreases-loop-line g l = length l.rest
