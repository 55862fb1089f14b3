use Rattle.std.proofs.Common.{arith}
use Rattle.capn_pack.proofs.TagLemmas.{mask_eight}
use Rattle.capn_pack.proofs.signs.eight_tags.Goals as goal

pub returns : goal.returns
returns c = mask_eight c.args.bytes.now (omega arith)
