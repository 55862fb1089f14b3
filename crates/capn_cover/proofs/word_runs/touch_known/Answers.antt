use Rattle.std.proofs.Common.{◌≡◌, ℕ, ◌∙◌, ap, sym}
use Rattle.capn_cover.specs.Parts.{differs}
use Rattle.capn_cover.specs.declared.covered.Covered.{Covered}
use Rattle.capn_cover.specs.declared.covered.Role.TheVariants as roles
use Rattle.std.proofs.Common.{rules, slice_index_or, false}
use Rattle.std.proofs.lemmas.List.{get_or_default}
use Rattle.capn_cover.specs.Covers.{unreached}
use Rattle.capn_cover.proofs.Knowing.{differs-as}
use Rattle.capn_cover.proofs.word_runs.touch_known.Goals as goal

pub returns-then-is_of_object-2 : goal.returns-then-is_of_object-2
returns-then-is_of_object-2 g c =
    let m = g.S.Space.message c.args._space.now in
    let k = c.args.known in
    let x : Covered = slice_index_or c.args.cells.now c.args.word (record {
      times = 0;
      slot = 0;
      holder = 0;
      role = roles.Root;
      overlap = false;
      is_followed = false;
      cut = false;
    }) in
    let d = c.requires.known.is
    ∙ differs-as m k.slot k.role x.role c.args.slot c.args.role (sym c.is_of_object.ensures ∙ c.if-is_of_object.true)
    (sym c.is_of_object-then-is_of_object.ensures ∙ c.if-is_of_object-2.true)
    ∙ ap (λ (o : ℕ). differs m o x.role c.args.slot c.args.role) c.if-known-cell.false in
    let n : x ≡ slice_index_or c.args.cells.now c.args.word unreached =
    get_or_default c.args.cells.now c.args.word _ unreached c.requires.within in
    let e = rw n at d in
    search (rules, e, n, d)
