use Rattle.std.proofs.Common.{ap, sym, ◌∙◌, arith}
use Rattle.std.proofs.lemmas.List.{get_or_default}
use Rattle.capn_cover.specs.declared.covered.Covered.{Covered}
use Rattle.capn_cover.specs.Covers.{unreached}
use Rattle.capn_cover.proofs.MarksTo.{slots-next, slots-none, slots-skip}
use Rattle.capn_cover.proofs.cut_words.cut_words.Goals.{then-cells-number+in-Some, then-cells-number+in_default}
use Rattle.capn_cover.proofs.cut_words.cut_words.Goals.{else-cells-number}
use Rattle.capn_cover.proofs.cut_words.cut_words.Goals as goal

pub loop-number-preserved : goal.loop-number-preserved
loop-number-preserved g c =
    let m = g.S.Space.message c.args.space.now in
    let old = c.args.cells.now in
    let cells = c.loop-number.cells in
    let fresh = c.requires.fresh in
    let n = c.loop-number.number in
    let v = c.loop-number.invariant in
    let t = c.loop-number-test.true in
    let k = v.count in
    elim c.if-cells-number.branch [
      | then-cells-number+in-Some w ↦ let e = w.cells-is in
          rw e (slots-next m old fresh n cells v _ w.cut_object.ensures)
      | then-cells-number+in_default w ↦ let e = w.cells-is in
          rw e (slots-none m old fresh n cells v (sym w.place_of.ensures.place ∙ w.in_default.is))
      | else-cells-number w ↦ let e = w.cells-is in
          rw e (slots-skip m old fresh n cells v (omega arith)
          (ap (λ (x : Covered). x.is_followed) (get_or_default cells n unreached _ (omega arith))
          ∙ w.if-cells-number.false))
    ]
