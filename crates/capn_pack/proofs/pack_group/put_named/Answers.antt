use Rattle.std.proofs.Common.{ap, ◌∙◌, ◌++◌, ◌∷◌}
use Rattle.capn_pack.proofs.PutLemmas.{puts_named}
use Rattle.capn_pack.specs.Packed.{named_bytes}
use Rattle.capn_pack.proofs.pack_group.put_named.Goals as goal

pub returns : goal.returns
returns g c =
    puts_named c.args.bytes.now c.args.at c.args.tag c.args.out.now.items c.push_named.new.out.items c.requires.inside
    c.requires.tag c.requires.above c.requires.below
    (c.in_ok-push_named.ensures.ok
    ∙ ap (λ l. c.args.out.now.items ++ (c.args.tag ∷ named_bytes c.args.tag l)) c.word_at.ensures)
