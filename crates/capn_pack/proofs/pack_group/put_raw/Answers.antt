use Rattle.std.proofs.Common.{ap, ◌∙◌, ◌++◌, ◌∷◌, []}
use Rattle.capn_pack.proofs.PutLemmas.{puts_raw, raw_text}
use Rattle.capn_pack.proofs.pack_group.put_raw.Goals as goal

pub returns : goal.returns
returns g c =
    let run = c.long_run-more.ensures.run in
    puts_raw c.args.bytes.now c.args.at c.long_run-more.result c.args.out.now.items c.extend_from_slice-4.new.self.items
    c.requires.inside c.requires.tag run.most run.inside run.dense c.long_run-more.ensures.last
    (raw_text c.args.bytes.now c.args.at c.long_run-more.result _ c.args.out.now.items _ _ _ _
    (c.in_ok-extend_from_slice.ensures.items ∙ ap (λ l. l ++ 255 ∷ []) c.reserve.ensures.items)
    c.in_ok-extend_from_slice-2.ensures.items c.in_ok-extend_from_slice-3.ensures.items
    c.in_ok-extend_from_slice-4.ensures.items)
