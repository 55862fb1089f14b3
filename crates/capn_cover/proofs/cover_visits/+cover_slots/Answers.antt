use Rattle.std.proofs.Common.{rules, suc, ◌≡◌, ◌+◌, ◌*◌, ◌-◌, Ok, refl, ap, sym, ◌∙◌, arith}
use Rattle.capn_target.specs.declared.target.Target.TheVariants as targets
use Rattle.capn_target.specs.Shapes.{IsContent}
use Rattle.capn_target.proofs.shared.Inside.{found-inside}
use Rattle.capn_walk.specs.Visits.{places, row_places, slots}
use Rattle.capn_walk.proofs.shared.Walks.{slot}
use Rattle.capn_walk.proofs.shared.RowWalks.{row-inside}
use Rattle.capn_cover.specs.Covers.{covers}
use Rattle.capn_cover.specs.inner.Laid.{cover_below, cover_of}
use Rattle.capn_cover.proofs.BelowSlots.{slots-split, slots-next, slots_to, rows-split, rows-next, rows_to, row_slots}
use Rattle.capn_cover.proofs.BelowSlots.{below-zero, below-null, below-target, below-fault}
use Rattle.capn_cover.proofs.NearTargets.{near-struct, near-list}
use Rattle.capn_cover.proofs.Rooms.{laid-next, room-first, room-second, room-part}
use Rattle.capn_cover.proofs.cover_visits.+cover_slots.Goals as goal

pub cover_found-returns-then-depth-eq0-clause-cells : goal.cover_found-returns-then-depth-eq0-clause-cells
cover_found-returns-then-depth-eq0-clause-cells g t c =
    let m = g.S.Space.message c.args.space.now in
    let e = below-zero m c.args.at c.args.depth c.if-depth-eq0.true in
    rw e refl

pub cover_found-returns-in-Err-clause-cells : goal.cover_found-returns-in-Err-clause-cells
cover_found-returns-in-Err-clause-cells g t c =
    let m = g.S.Space.message c.args.space.now in
    let e = sym c.requires.found ∙ c.in-Err.is in
    let b = below-fault m c.args.at c.args.depth c.in-Err.field-0 e in
    rw b refl

pub cover_found-returns-in-Nil-clause-cells : goal.cover_found-returns-in-Nil-clause-cells
cover_found-returns-in-Nil-clause-cells g t c =
    let m = g.S.Space.message c.args.space.now in
    let e = sym c.requires.found ∙ c.in-Ok.is ∙ ap Ok c.in-Nil.is in
    let b = below-target m c.args.at c.args.depth targets.Nil e c.if-depth-eq0.false in
    rw b refl

pub cover_found-returns-in-Cap-clause-cells : goal.cover_found-returns-in-Cap-clause-cells
cover_found-returns-in-Cap-clause-cells g t c =
    let m = g.S.Space.message c.args.space.now in
    let e = sym c.requires.found ∙ c.in-Ok.is ∙ ap Ok c.in-Cap.is in
    let b = below-target m c.args.at c.args.depth (targets.Cap c.in-Cap.field-0) e c.if-depth-eq0.false in
    rw b refl

pub cover_found-returns-in-Content-clause-cells : goal.cover_found-returns-in-Content-clause-cells
cover_found-returns-in-Content-clause-cells g t c =
    let m = g.S.Space.message c.args.space.now in
    let x = c.in-Content in
    let found = targets.Content x.segment x.start x.shape x.pads in
    let e = sym c.requires.found ∙ c.in-Ok.is ∙ ap Ok x.is in
    let b = below-target m c.args.at c.args.depth found e c.if-depth-eq0.false in
    laid-next m _ (covers m c.args.at (Ok found)) (cover_of m (c.args.depth - 1) (slots x.segment x.start x.shape))
    c.args.cells.now _ _ b c.cover_object.ensures.cells c.cover_object_slots.ensures.cells

pub cover_found-cover_object-requires-clause-room : goal.cover_found-cover_object-requires-clause-room
cover_found-cover_object-requires-clause-room g t c =
    let m = g.S.Space.message c.args.space.now in
    let x = c.in-Content in
    let found = targets.Content x.segment x.start x.shape x.pads in
    let e = sym c.requires.found ∙ c.in-Ok.is ∙ ap Ok x.is in
    let b = below-target m c.args.at c.args.depth found e c.if-depth-eq0.false in
    room-first (cover_below m c.args.depth c.args.at) (covers m c.args.at (Ok found))
    (cover_of m (c.args.depth - 1) (slots x.segment x.start x.shape)) c.args.cells.now b c.requires.room

pub cover_found-cover_object_slots-requires : goal.cover_found-cover_object_slots-requires
cover_found-cover_object_slots-requires g t c κs within =
    let m = g.S.Space.message c.args.space.now in
    let x = c.in-Content in
    let found = targets.Content x.segment x.start x.shape x.pads in
    let e = sym c.requires.found ∙ c.in-Ok.is ∙ ap Ok x.is in
    let b = below-target m c.args.at c.args.depth found e c.if-depth-eq0.false in
    let inside = found-inside m c.args.at found c.requires.place e in
    let content = inside.0 in
    let fits = inside.1 in
    let each = c.requires.each in
    let some = c.if-depth-eq0.false in
    let room = room-second m (cover_below m c.args.depth c.args.at) (covers m c.args.at (Ok found))
    (cover_of m (c.args.depth - 1) (slots x.segment x.start x.shape)) c.args.cells.now _ b c.cover_object.ensures.cells
    c.requires.room in
    search rules

pub cover_object_slots-returns-then-slots-eq0-clause-cells : goal.cover_object_slots-returns-then-slots-eq0-clause-cells
cover_object_slots-returns-then-slots-eq0-clause-cells g t c = rw (c.in-Node.is, c.if-slots-eq0.true) refl

pub cover_pointer-near_target-found-requires-clause-pointer
    : goal.cover_pointer-near_target-found-requires-clause-pointer
cover_pointer-near_target-found-requires-clause-pointer g t c =
    let m = g.S.Space.message c.args.space.now in
    let p = c.split-pointer in
    let x = c.in-Node in
    near-struct m c.args.at c.args.word p.result x.offset x.words x.slots c.requires.word p.ensures.read x.is

pub cover_pointer-near_target-found-requires-in-Many-clause-pointer
    : goal.cover_pointer-near_target-found-requires-in-Many-clause-pointer
cover_pointer-near_target-found-requires-in-Many-clause-pointer g t c =
    let m = g.S.Space.message c.args.space.now in
    let p = c.split-pointer in
    let x = c.in-Many in
    near-list m c.args.at c.args.word p.result x.offset x.width x.count c.requires.word p.ensures.read x.is

pub cover_slots-cover_pointer-requires : goal.cover_slots-cover_pointer-requires
cover_slots-cover_pointer-requires g t c κs within =
    let m = g.S.Space.message c.args.space.now in
    let s = c.args.first.segment in
    let w = c.args.first.word in
    let d = c.args.depth in
    let i = c.loop-i.i in
    let room = room-part m (slots_to m d s w c.args.count) (slots_to m d s w i) (cover_below m d (slot s (w + i)))
    (cover_of m d (places s (w + i + 1) (c.args.count - suc i))) c.args.cells.now c.loop-i.cells
    (slots-split m d s w i c.args.count c.loop-i-test.true) c.loop-i.invariant.cells c.requires.room in
    search rules

pub cover_slots-loop-i-preserved-then-word-eq0 : goal.cover_slots-loop-i-preserved-then-word-eq0
cover_slots-loop-i-preserved-then-word-eq0 g t c =
    let m = g.S.Space.message c.args.space.now in
    let s = c.args.first.segment in
    let w = c.args.first.word in
    let d = c.args.depth in
    let i = c.loop-i.i in
    let null = below-null m (slot s (w + i)) d (sym c.word-word.ensures ∙ c.if-word-eq0.true) in
    record {
      cells = laid-next m _ (slots_to m d s w i) (cover_below m d (slot s (w + i))) c.args.cells.now c.loop-i.cells _
          (slots-next m d s w i) c.loop-i.invariant.cells (rw null refl);
      known = c.loop-i.invariant.known;
    }

pub cover_slots-loop-i-preserved : goal.cover_slots-loop-i-preserved
cover_slots-loop-i-preserved g t c =
    let m = g.S.Space.message c.args.space.now in
    let s = c.args.first.segment in
    let w = c.args.first.word in
    let d = c.args.depth in
    let i = c.loop-i.i in
    record {
      cells = laid-next m _ (slots_to m d s w i) (cover_below m d (slot s (w + i))) c.args.cells.now c.loop-i.cells _
          (slots-next m d s w i) c.loop-i.invariant.cells c.cover_pointer.ensures.cells;
      known = c.cover_pointer.ensures.known;
    }

pub cover_row_slots-cover_slots-requires : goal.cover_row_slots-cover_slots-requires
cover_row_slots-cover_slots-requires g t c κs within =
    let m = g.S.Space.message c.args.space.now in
    let s = c.args.first.segment in
    let w = c.args.first.word in
    let a = c.args.words in
    let b = c.args.slots in
    let d = c.args.depth in
    let i = c.loop-row.row in
    let v = c.loop-row.invariant in
    let n = v.next in
    let all = row-inside w c.args.count i (a + b) c.loop-row.next _ c.loop-row-test.true n c.requires.content.within in
    let room = room-part m (rows_to m d s w a b c.args.count) (rows_to m d s w a b i) (row_slots m d s w a b i)
    (cover_of m d (row_places s (w + i * (a + b) + a + b) a b (c.args.count - suc i))) c.args.cells.now
    c.loop-row.cells (rows-split m d s w a b i c.args.count c.loop-row-test.true) v.cells c.requires.room in
    let here = rw (← n) at room in
    let content : IsContent m (record { segment = s; word = c.loop-row.next + a }) b =
    record { exists = c.requires.content.exists; within = omega arith } in
    search rules

pub cover_row_slots-loop-row-preserved : goal.cover_row_slots-loop-row-preserved
cover_row_slots-loop-row-preserved g t c =
    let m = g.S.Space.message c.args.space.now in
    let s = c.args.first.segment in
    let w = c.args.first.word in
    let a = c.args.words in
    let b = c.args.slots in
    let d = c.args.depth in
    let i = c.loop-row.row in
    let v = c.loop-row.invariant in
    let n = v.next in
    let k : (i + 1) * (a + b) ≡ i * (a + b) + (a + b) = omega arith in
    let one = rw n at c.cover_slots.ensures.cells in
    record {
      next = omega arith;
      cells = laid-next m _ (rows_to m d s w a b i) (row_slots m d s w a b i) c.args.cells.now c.loop-row.cells _
          (rows-next m d s w a b i) v.cells one;
      known = c.cover_slots.ensures.known;
    }
