use Rattle.std.proofs.Common.{◌∷◌, List, length, replicate, ap, ◌∙◌}
use Rattle.std.proofs.lemmas.List.{length-replicate}
use Rattle.capn_words.specs.Message.{total}
use Rattle.capn_walk.specs.Accepted.{root}
use Rattle.capn_cover.specs.declared.covered.Covered.{Covered}
use Rattle.capn_cover.specs.Covers.{unreached, whole}
use Rattle.capn_cover.specs.inner.Laid.{cover_below}
use Rattle.capn_cover.proofs.Belonging.{unmarked}
use Rattle.capn_cover.proofs.LaidItems.{laid-length}
use Rattle.capn_cover.proofs.message_cover.cut_covered.Goals as goal

pub cut_words-requires-clause-each : goal.cut_words-requires-clause-each
cut_words-requires-clause-each g c =
    let m = g.S.Space.message c.args.space.now in
    ap (λ (xs : List Covered). length xs) c.requires.covered
    ∙ laid-length m (whole ∷ cover_below m c.args._depth root) (replicate (total m) unreached)
    ∙ length-replicate (total m) unreached

pub cut_words-requires-clause-fresh : goal.cut_words-requires-clause-fresh
cut_words-requires-clause-fresh g c =
    let m = g.S.Space.message c.args.space.now in
    let e = c.requires.covered in
    rw e (unmarked m c.args._depth c.requires.place)

pub returns : goal.returns
returns g c =
    let e = c.requires.covered in
    rw e at c.cut_words.ensures
