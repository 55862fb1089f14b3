use Rattle.std.proofs.Common.{◌≡◌, ◌+◌, ◌*◌, refl, ap, sym, ◌∙◌, ◌++◌, arith, ℕ}
use Rattle.capn_cover.specs.declared.covered.Role.TheVariants as roles
use Rattle.capn_cover.specs.Covers.{run, rows_run}
use Rattle.capn_cover.proofs.KnownWords.{all-stay, known-first, known-second, known-row}
use Rattle.capn_cover.proofs.LaidItems.{room-less}
use Rattle.capn_cover.proofs.Rooms.{rows-room, after-run, laid-next}
use Rattle.capn_cover.proofs.Runs.{rows-next, row_run}
use Rattle.capn_cover.proofs.repeated.repeat_rows.Goals as goal

pub repeat_words-requires-clause-room : goal.repeat_words-requires-clause-room
repeat_words-requires-clause-room g c =
    let m = g.S.Space.message c.args.space.now in
    let i = c.loop-row.invariant in
    let r = rows-room m c.args.slot c.args.first c.args.words c.args.slots c.loop-row.row c.args.count c.args.cells.now
    c.loop-row.cells c.loop-row-test.true i.cells c.requires.room in
    room-less c.args.words (c.args.words + c.args.slots) c.loop-row.cells (omega arith) r

pub repeat_words-requires-in-loop-row-clause-room : goal.repeat_words-requires-in-loop-row-clause-room
repeat_words-requires-in-loop-row-clause-room g c =
    let m = g.S.Space.message c.args.space.now in
    let i = c.loop-row.invariant in
    let r = rows-room m c.args.slot c.args.first c.args.words c.args.slots c.loop-row.row c.args.count c.args.cells.now
    c.loop-row.cells c.loop-row-test.true i.cells c.requires.room in
    after-run m c.args.slot roles.Data c.loop-row.next c.args.words c.args.slots (c.args.words + c.args.slots)
    c.loop-row.cells _ (omega arith) c.repeat_words.ensures.cells r

pub repeat_words-requires-clause-known : goal.repeat_words-requires-clause-known
repeat_words-requires-clause-known g c =
    let m = g.S.Space.message c.args.space.now in
    let i = c.loop-row.invariant in
    let n = i.next in
    let row = known-row m c.args.slot c.args.first c.args.words c.args.slots c.loop-row.row c.args.count
    c.args.cells.now c.loop-row.cells c.loop-row-test.true c.requires.known i.cells in
    let here = rw (← n) at row in
    known-first m (run c.args.slot roles.Data c.loop-row.next c.args.words)
    (run c.args.slot roles.Slot (c.loop-row.next + c.args.words) c.args.slots) c.loop-row.cells here

pub repeat_words-requires-in-loop-row-clause-known : goal.repeat_words-requires-in-loop-row-clause-known
repeat_words-requires-in-loop-row-clause-known g c =
    let m = g.S.Space.message c.args.space.now in
    let i = c.loop-row.invariant in
    let n = i.next in
    let row = known-row m c.args.slot c.args.first c.args.words c.args.slots c.loop-row.row c.args.count
    c.args.cells.now c.loop-row.cells c.loop-row-test.true c.requires.known i.cells in
    let here = rw (← n) at row in
    let own = run c.args.slot roles.Data c.loop-row.next c.args.words in
    let slots = run c.args.slot roles.Slot (c.loop-row.next + c.args.words) c.args.slots in
    let e = c.repeat_words.ensures.cells in
    rw e (all-stay m slots own c.loop-row.cells (known-second m own slots c.loop-row.cells here))

pub loop-row-preserved : goal.loop-row-preserved
loop-row-preserved g c =
    let m = g.S.Space.message c.args.space.now in
    let i = c.loop-row.invariant in
    let n = i.next in
    let d : (c.loop-row.row + 1) * (c.args.words + c.args.slots)
    ≡ c.loop-row.row * (c.args.words + c.args.slots) + (c.args.words + c.args.slots) = omega arith in
    let one = laid-next m (row_run c.args.slot c.args.words c.args.slots c.loop-row.next)
    (run c.args.slot roles.Data c.loop-row.next c.args.words)
    (run c.args.slot roles.Slot (c.loop-row.next + c.args.words) c.args.slots) c.loop-row.cells _ _ refl
    c.repeat_words.ensures.cells c.repeat_words-in-loop-row.ensures.cells in
    record {
      next = omega arith;
      cells = laid-next m _ (rows_run c.args.slot c.args.first c.args.words c.args.slots c.loop-row.row)
          (row_run c.args.slot c.args.words c.args.slots c.loop-row.next) c.args.cells.now c.loop-row.cells _
          (rows-next c.args.slot c.args.words c.args.slots c.args.first c.loop-row.row
          ∙ ap (λ (k : ℕ). rows_run c.args.slot c.args.first c.args.words c.args.slots c.loop-row.row
          ++ row_run c.args.slot c.args.words c.args.slots k) (sym n))
          i.cells one;
      followed = c.repeat_words-in-loop-row.ensures.followed;
    }
