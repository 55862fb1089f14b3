use Rattle.std.proofs.Common.{arith, ap, ◌∙◌, ◌++◌, ◌∷◌, take}
use Rattle.capn_pack.specs.Packed.{tag_of, named_bytes}
use Rattle.capn_pack.proofs.PutLemmas.{puts_named}
use Rattle.capn_pack.proofs.pack_block.store_group.Goals as goal

pub returns-in-1-to-254-clause-some : goal.returns-in-1-to-254-clause-some
returns-in-1-to-254-clause-some c =
    let tag = c.tag-tag.result in
    let front = take c.args.fill c.args.block.now in
    puts_named c.args.bytes.now c.args.at tag front _ c.requires.inside (c.tag-tag.ensures
    ∙ ap tag_of c.word_at-word.ensures) (omega arith) (omega arith)
    (c.store_named.ensures.text ∙ ap (λ w. front ++ (tag ∷ named_bytes tag w)) c.word_at-word.ensures)
