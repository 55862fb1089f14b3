use Rattle.std.proofs.Common.{◌+◌, ◌*◌, ◌-◌, refl, ◌++◌, arith}
use Rattle.capn_cover.specs.declared.covered.Role.TheVariants as roles
use Rattle.capn_cover.specs.Covers.{run, rows_run}
use Rattle.capn_cover.proofs.KnownWords.{all-stay, known-first, known-second}
use Rattle.capn_cover.proofs.LaidItems.{room-less}
use Rattle.capn_cover.proofs.Rooms.{after-run, after-rows, laid-next}
use Rattle.capn_cover.proofs.repeated.repeat_content.Goals as goal

pub repeat_words-requires-clause-known : goal.repeat_words-requires-clause-known
repeat_words-requires-clause-known g c =
    let m = g.S.Space.message c.args.space.now in
    let h = rw c.in-Node.is at c.requires.known in
    known-first m (run c.args.slot roles.Data c.args.first c.in-Node.words)
    (run c.args.slot roles.Slot (c.args.first + c.in-Node.words) c.in-Node.slots) c.args.cells.now h

pub repeat_words-requires-clause-room : goal.repeat_words-requires-clause-room
repeat_words-requires-clause-room g c =
    let m = g.S.Space.message c.args.space.now in
    let h = rw c.in-Node.is at c.requires.room in
    room-less c.in-Node.words (c.in-Node.words + c.in-Node.slots) c.args.cells.now (omega arith) h

pub repeat_words-requires-in-Node-clause-known : goal.repeat_words-requires-in-Node-clause-known
repeat_words-requires-in-Node-clause-known g c =
    let m = g.S.Space.message c.args.space.now in
    let h = rw c.in-Node.is at c.requires.known in
    let own = run c.args.slot roles.Data c.args.first c.in-Node.words in
    let slots = run c.args.slot roles.Slot (c.args.first + c.in-Node.words) c.in-Node.slots in
    let e = c.repeat_words.ensures.cells in
    rw e (all-stay m slots own c.args.cells.now (known-second m own slots c.args.cells.now h))

pub repeat_words-requires-in-Node-clause-room : goal.repeat_words-requires-in-Node-clause-room
repeat_words-requires-in-Node-clause-room g c =
    let m = g.S.Space.message c.args.space.now in
    let h = rw c.in-Node.is at c.requires.room in
    after-run m c.args.slot roles.Data c.args.first c.in-Node.words c.in-Node.slots (c.in-Node.words + c.in-Node.slots)
    c.args.cells.now _ (omega arith) c.repeat_words.ensures.cells h

pub repeat_rows-requires-clause-known : goal.repeat_rows-requires-clause-known
repeat_rows-requires-clause-known g c =
    let m = g.S.Space.message c.args.space.now in
    let x = c.in-Rows in
    let h = rw x.is at c.requires.known in
    let tag = run c.args.slot roles.Tag c.args.first 1 in
    let rows = rows_run c.args.slot (c.args.first + 1) x.words x.slots x.count in
    let slack = run c.args.slot roles.Slack (c.args.first + 1 + x.count * (x.words + x.slots))
    (x.span - x.count * (x.words + x.slots)) in
    let e = c.repeat_words-in-Rows.ensures.cells in
    rw e (all-stay m rows tag c.args.cells.now
    (known-first m rows slack c.args.cells.now (known-second m tag (rows ++ slack) c.args.cells.now h)))

pub repeat_words-requires-in-Rows-2-clause-known : goal.repeat_words-requires-in-Rows-2-clause-known
repeat_words-requires-in-Rows-2-clause-known g c =
    let m = g.S.Space.message c.args.space.now in
    let x = c.in-Rows in
    let h = rw x.is at c.requires.known in
    let tag = run c.args.slot roles.Tag c.args.first 1 in
    let rows = rows_run c.args.slot (c.args.first + 1) x.words x.slots x.count in
    let slack = run c.args.slot roles.Slack (c.args.first + 1 + x.count * (x.words + x.slots))
    (x.span - x.count * (x.words + x.slots)) in
    let e = c.repeat_words-in-Rows.ensures.cells in
    let f = c.repeat_rows.ensures.cells in
    rw f (all-stay m slack rows _ (rw e (all-stay m slack tag c.args.cells.now
    (known-second m rows slack c.args.cells.now (known-second m tag (rows ++ slack) c.args.cells.now h)))))

pub repeat_words-requires-in-Rows-2-clause-room : goal.repeat_words-requires-in-Rows-2-clause-room
repeat_words-requires-in-Rows-2-clause-room g c =
    let m = g.S.Space.message c.args.space.now in
    let x = c.in-Rows in
    let fits = rw c.in-Rows.is at c.requires.fits in
    let room = rw c.in-Rows.is at c.requires.room in
    let one = after-run m c.args.slot roles.Tag c.args.first 1 x.span (1 + x.span) c.args.cells.now _ (omega arith)
    c.repeat_words-in-Rows.ensures.cells room in
    after-rows m c.args.slot (c.args.first + 1) x.words x.slots x.count (x.span - x.count * (x.words + x.slots)) x.span
    _ _ (omega arith) c.repeat_rows.ensures.cells one

pub returns-in-Node : goal.returns-in-Node
returns-in-Node g c =
    let m = g.S.Space.message c.args.space.now in
    rw c.in-Node.is (laid-next m _ (run c.args.slot roles.Data c.args.first c.in-Node.words)
    (run c.args.slot roles.Slot (c.args.first + c.in-Node.words) c.in-Node.slots) c.args.cells.now _ _ refl
    c.repeat_words.ensures.cells c.repeat_words-in-Node.ensures.cells)

pub returns-in-Rows : goal.returns-in-Rows
returns-in-Rows g c =
    let m = g.S.Space.message c.args.space.now in
    let x = c.in-Rows in
    let rows = rows_run c.args.slot (c.args.first + 1) x.words x.slots x.count in
    let slack = run c.args.slot roles.Slack (c.args.first + 1 + x.count * (x.words + x.slots))
    (x.span - x.count * (x.words + x.slots)) in
    rw c.in-Rows.is (laid-next m _ (run c.args.slot roles.Tag c.args.first 1) (rows ++ slack) c.args.cells.now _ _ refl
    c.repeat_words-in-Rows.ensures.cells (laid-next m _ rows slack _ _ _ refl c.repeat_rows.ensures.cells
    c.repeat_words-in-Rows-2.ensures.cells))
