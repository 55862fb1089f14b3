use Rattle.std.proofs.Common.{◌≡◌, ◌∙◌, ap, false, slice_index_or, slice_set}
use Rattle.std.proofs.lemmas.List.{get_or_default}
use Rattle.capn_cover.specs.declared.covered.Covered.{Covered}
use Rattle.capn_cover.specs.declared.covered.Role.TheVariants as roles
use Rattle.capn_cover.specs.Covers.{unreached}
use Rattle.capn_cover.proofs.KnownWords.{known-again}
use Rattle.capn_cover.proofs.repeated.repeat_word.Goals as goal

pub returns : goal.returns
returns g c =
    let m = g.S.Space.message c.args._space.now in
    let x : Covered = slice_index_or c.args.cells.now c.args.word (record {
      times = 0;
      slot = 0;
      holder = 0;
      role = roles.Root;
      overlap = false;
      is_followed = false;
      cut = false;
    }) in
    let n : x ≡ slice_index_or c.args.cells.now c.args.word unreached =
    get_or_default c.args.cells.now c.args.word _ unreached c.requires.within in
    let e = rw n at c.cover_again.ensures in
    let k = known-again m c.args.slot c.args.role (slice_index_or c.args.cells.now c.args.word unreached)
    c.requires.known in
    ap (λ (y : Covered). slice_set c.args.cells.now c.args.word y) (e ∙ k)
