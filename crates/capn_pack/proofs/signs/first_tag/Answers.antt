use Rattle.std.proofs.Common.{arith, ap, ◌∙◌, ◌%◌}
use Rattle.capn_pack.proofs.TagLemmas.{mask_two, tag_first}
use Rattle.capn_pack.proofs.signs.first_tag.Goals as goal

pub returns : goal.returns
returns c =
    ap (λ k. k % 256) (mask_two c.args.bytes.now (omega arith)) ∙ tag_first c.args.bytes.now (omega arith)
