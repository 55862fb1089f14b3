use Rattle.std.proofs.Common.{arith}
use Rattle.capn_pack.proofs.TagLemmas.{mask_tag, tag_lt}
use Rattle.capn_pack.proofs.signs.tag.Goals as goal

pub overflow_cast-result : goal.overflow_cast-result
overflow_cast-result c = omega (arith, mask_tag c.args.bytes.now (omega arith), tag_lt c.args.bytes.now (omega arith))

pub returns : goal.returns
returns c = mask_tag c.args.bytes.now (omega arith)
