use Rattle.std.proofs.Common.{arith}
use Rattle.capn_pack.proofs.shared.SpreadLemmas.{ones_half}
use Rattle.capn_scratch.proofs.group.byte_of.Goals as goal

pub byte-requires : goal.byte-requires
byte-requires g c = omega (arith, ones_half c.args.left)
