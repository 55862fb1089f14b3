use Rattle.std.proofs.Common.{◌≡◌, ◌+◌, ◌*◌, refl, ap, sym, ◌∙◌, ◌++◌, arith, ℕ}
use Rattle.capn_cover.specs.declared.covered.Role.TheVariants as roles
use Rattle.capn_cover.specs.Covers.{run, rows_run}
use Rattle.capn_cover.proofs.Runs.{rows-next, row_run}
use Rattle.capn_cover.proofs.Knowing.{knows-as}
use Rattle.capn_cover.proofs.LaidItems.{room-less}
use Rattle.capn_cover.proofs.Rooms.{rows-room, after-run, laid-next}
use Rattle.capn_cover.proofs.object_words.cover_rows.Goals as goal

pub cover_words-requires-clause-room : goal.cover_words-requires-clause-room
cover_words-requires-clause-room g c =
    let m = g.S.Space.message c.args.space.now in
    let i = c.loop-row.invariant in
    let r = rows-room m c.args.slot c.args.first c.args.words c.args.slots c.loop-row.row c.args.count c.args.cells.now
    c.loop-row.cells c.loop-row-test.true i.cells c.requires.room in
    room-less c.args.words (c.args.words + c.args.slots) c.loop-row.cells (omega arith) r

pub cover_words-requires-in-loop-row-clause-room : goal.cover_words-requires-in-loop-row-clause-room
cover_words-requires-in-loop-row-clause-room g c =
    let m = g.S.Space.message c.args.space.now in
    let i = c.loop-row.invariant in
    let r = rows-room m c.args.slot c.args.first c.args.words c.args.slots c.loop-row.row c.args.count c.args.cells.now
    c.loop-row.cells c.loop-row-test.true i.cells c.requires.room in
    after-run m c.args.slot roles.Data c.loop-row.next c.args.words c.args.slots (c.args.words + c.args.slots)
    c.loop-row.cells _ (omega arith) c.cover_words.ensures.cells r

pub cover_words-requires-in-loop-row-clause-known : goal.cover_words-requires-in-loop-row-clause-known
cover_words-requires-in-loop-row-clause-known g c =
    let m = g.S.Space.message c.args.space.now in
    knows-as m c.args.slot roles.Data roles.Slot _ refl refl c.cover_words.ensures.known

pub loop-row-preserved : goal.loop-row-preserved
loop-row-preserved g c =
    let m = g.S.Space.message c.args.space.now in
    let i = c.loop-row.invariant in
    let n = i.next in
    let d : (c.loop-row.row + 1) * (c.args.words + c.args.slots)
    ≡ c.loop-row.row * (c.args.words + c.args.slots) + (c.args.words + c.args.slots) = omega arith in
    let one = laid-next m (row_run c.args.slot c.args.words c.args.slots c.loop-row.next)
    (run c.args.slot roles.Data c.loop-row.next c.args.words)
    (run c.args.slot roles.Slot (c.loop-row.next + c.args.words) c.args.slots) c.loop-row.cells _ _ refl
    c.cover_words.ensures.cells c.cover_words-in-loop-row.ensures.cells in
    record {
      next = omega arith;
      cells = laid-next m _ (rows_run c.args.slot c.args.first c.args.words c.args.slots c.loop-row.row)
          (row_run c.args.slot c.args.words c.args.slots c.loop-row.next) c.args.cells.now c.loop-row.cells _
          (rows-next c.args.slot c.args.words c.args.slots c.args.first c.loop-row.row
          ∙ ap (λ (k : ℕ). rows_run c.args.slot c.args.first c.args.words c.args.slots c.loop-row.row
          ++ row_run c.args.slot c.args.words c.args.slots k) (sym n))
          i.cells one;
      known = knows-as m c.args.slot roles.Slot roles.Data _ refl refl c.cover_words-in-loop-row.ensures.known;
    }
