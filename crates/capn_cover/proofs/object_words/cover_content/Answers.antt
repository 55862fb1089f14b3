use Rattle.std.proofs.Common.{◌+◌, ◌*◌, ◌-◌, refl, ◌++◌, arith}
use Rattle.capn_cover.specs.declared.covered.Role.TheVariants as roles
use Rattle.capn_cover.specs.Covers.{run, rows_run}
use Rattle.capn_cover.proofs.Knowing.{knows-as}
use Rattle.capn_cover.proofs.LaidItems.{room-less}
use Rattle.capn_cover.proofs.Rooms.{after-run, after-rows, laid-next}
use Rattle.capn_cover.proofs.object_words.cover_content.Goals as goal

pub cover_words-requires-clause-room : goal.cover_words-requires-clause-room
cover_words-requires-clause-room g c =
    let m = g.S.Space.message c.args.space.now in
    let h = rw c.in-Node.is at c.requires.room in
    room-less c.in-Node.words (c.in-Node.words + c.in-Node.slots) c.args.cells.now (omega arith) h

pub cover_words-requires-in-Node-clause-room : goal.cover_words-requires-in-Node-clause-room
cover_words-requires-in-Node-clause-room g c =
    let m = g.S.Space.message c.args.space.now in
    let h = rw c.in-Node.is at c.requires.room in
    after-run m c.args.slot roles.Data c.args.first c.in-Node.words c.in-Node.slots (c.in-Node.words + c.in-Node.slots)
    c.args.cells.now _ (omega arith) c.cover_words.ensures.cells h

pub cover_words-requires-in-Node-clause-known : goal.cover_words-requires-in-Node-clause-known
cover_words-requires-in-Node-clause-known g c =
    knows-as (g.S.Space.message c.args.space.now) c.args.slot roles.Data roles.Slot _ refl refl
    c.cover_words.ensures.known

pub cover_rows-requires-clause-known : goal.cover_rows-requires-clause-known
cover_rows-requires-clause-known g c =
    knows-as (g.S.Space.message c.args.space.now) c.args.slot roles.Tag roles.Data _ refl refl
    c.cover_words-in-Rows.ensures.known

pub cover_words-requires-in-Rows-2-clause-known : goal.cover_words-requires-in-Rows-2-clause-known
cover_words-requires-in-Rows-2-clause-known g c =
    knows-as (g.S.Space.message c.args.space.now) c.args.slot roles.Data roles.Slack _ refl refl
    c.cover_rows.ensures.known

pub cover_run-requires-clause-room : goal.cover_run-requires-clause-room
cover_run-requires-clause-room g c =
    let m = g.S.Space.message c.args.space.now in
    rw (c.in-Many.is, c.in-Link.is) at c.requires.room

pub cover_run-requires-in_default : goal.cover_run-requires-in_default
cover_run-requires-in_default g c =
    let m = g.S.Space.message c.args.space.now in
    let e = c.content_words.ensures in
    let within = rw c.in-Many.is at c.requires.within in
    let room = rw c.in-Many.is at c.requires.room in
    record {
      message = c.requires.message;
      counts = c.requires.counts;
      within = omega arith;
      by = c.requires.by;
      few = c.requires.few;
      room = rw e room;
    }

pub cover_words-requires-in-Rows-2-clause-room : goal.cover_words-requires-in-Rows-2-clause-room
cover_words-requires-in-Rows-2-clause-room g c =
    let m = g.S.Space.message c.args.space.now in
    let x = c.in-Rows in
    let fits = rw c.in-Rows.is at c.requires.fits in
    let room = rw c.in-Rows.is at c.requires.room in
    let one = after-run m c.args.slot roles.Tag c.args.first 1 x.span (1 + x.span) c.args.cells.now _ (omega arith)
    c.cover_words-in-Rows.ensures.cells room in
    after-rows m c.args.slot (c.args.first + 1) x.words x.slots x.count (x.span - x.count * (x.words + x.slots)) x.span
    _ _ (omega arith) c.cover_rows.ensures.cells one

pub returns-in-Node : goal.returns-in-Node
returns-in-Node g c =
    let m = g.S.Space.message c.args.space.now in
    rw c.in-Node.is (laid-next m _ (run c.args.slot roles.Data c.args.first c.in-Node.words)
    (run c.args.slot roles.Slot (c.args.first + c.in-Node.words) c.in-Node.slots) c.args.cells.now _ _ refl
    c.cover_words.ensures.cells c.cover_words-in-Node.ensures.cells)

pub returns-in-Rows : goal.returns-in-Rows
returns-in-Rows g c =
    let m = g.S.Space.message c.args.space.now in
    let x = c.in-Rows in
    let rows = rows_run c.args.slot (c.args.first + 1) x.words x.slots x.count in
    let slack = run c.args.slot roles.Slack (c.args.first + 1 + x.count * (x.words + x.slots))
    (x.span - x.count * (x.words + x.slots)) in
    rw c.in-Rows.is (laid-next m _ (run c.args.slot roles.Tag c.args.first 1) (rows ++ slack) c.args.cells.now _ _ refl
    c.cover_words-in-Rows.ensures.cells (laid-next m _ rows slack _ _ _ refl c.cover_rows.ensures.cells
    c.cover_words-in-Rows-2.ensures.cells))
