use Rattle.std.proofs.Common.{ap, ◌∙◌, ◌++◌, take}
use Rattle.capn_pack.proofs.PutLemmas.{puts_more, puts_join, puts_all}
use Rattle.capn_pack.proofs.packed_text.pack_words.Goals as goal

pub loop-at-preserved-then-at-bytes : goal.loop-at-preserved-then-at-bytes
loop-at-preserved-then-at-bytes g c =
    puts_more _ _ _ _ _ _ _
    (puts_join _ _ _ _ _ _ _ _ c.loop-at.invariant c.store_groups-stored.ensures.row
    (c.in_ok-extend_from_slice.ensures.items
    ∙ ap (λ l. l ++ take c.store_groups-stored.result.fill c.store_groups-stored.new.block) c.reserve.ensures.items))
    c.in_ok-at.ensures

pub loop-at-preserved : goal.loop-at-preserved
loop-at-preserved g c =
    puts_join _ _ _ _ _ _ _ _ c.loop-at.invariant c.store_groups-stored.ensures.row
    (c.in_ok-extend_from_slice.ensures.items
    ∙ ap (λ l. l ++ take c.store_groups-stored.result.fill c.store_groups-stored.new.block) c.reserve.ensures.items)

pub returns-clause-chosen : goal.returns-clause-chosen
returns-clause-chosen g c = puts_all _ _ _ c.loop-at.invariant c.loop-at-test.false
