use Rattle.std.proofs.Common.{◌≡◌, length}
use Rattle.capn_args.specs.MessageNumber.{number_from, number_of}
use Rattle.capn_args.proofs.message_number.message_number.Given as goal

abbrev pub invariant-loop-rest : goal.invariant-loop-rest
invariant-loop-rest l = number_from l.begun l.rest ≡ number_of l.text

abbrev pub decreases-loop-rest : goal.decreases-loop-rest
decreases-loop-rest l = length l.rest
