use Rattle.std.proofs.Common.{◌≡◌, length}
use Rattle.capn_quoted.specs.Reading.{preceded, read_from, unquoted, wrong_from, wrong_at}
use Rattle.capn_quoted.proofs.reading.unquoted.Given as goal

abbrev pub invariant-loop-rest : goal.invariant-loop-rest
invariant-loop-rest g l = record {
  read : preceded l.bytes.items (read_from l.stage l.rest) ≡ unquoted l.text;
  wrong : wrong_from l.stage l.rest ≡ wrong_at l.text;
}

abbrev pub decreases-loop-rest : goal.decreases-loop-rest
decreases-loop-rest g l = length l.rest
