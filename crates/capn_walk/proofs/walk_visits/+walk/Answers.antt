use Rattle.std.proofs.Common.{rules, ◌≡◌, inl, ℕ, suc, ◌+◌, ◌*◌, ◌^◌, ◌≤◌, Ok, Err, arith, ap, sym, subst, ◌∙◌, refl}
use Rattle.capn_value.specs.TreeOf.{tree_of, trees_of, rows_of}
use Rattle.capn_value.specs.Views.{tree_of-Nil, tree_of-Cap}
use Rattle.capn_words.specs.declared.pointer.Width.{Width}
use Rattle.capn_target.specs.declared.target.Shape.TheVariants as shapes
use Rattle.capn_words.specs.Message.{word_at}
use Rattle.capn_target.specs.Target.{target_of_pointer, target_from, target}
use Rattle.capn_walk.specs.Visits.{visits}
use Rattle.capn_walk.specs.View.{stepped, IsEntered}
use Rattle.capn_target.specs.declared.target.Target.{Target}
use Rattle.capn_target.specs.declared.target.Target.TheVariants as targets
use Rattle.capn_walk.specs.declared.walk_answer.Stopped.{Stopped}
use Rattle.capn_target.specs.Shapes.{IsContent, extent, slot_count}
use Rattle.capn_target.proofs.shared.Inside.{inside}
use Rattle.capn_walk.proofs.shared.SlotPrices.{slots-price}
use Rattle.capn_target.proofs.shared.Present.{present}
use Rattle.capn_target.proofs.shared.Segments.{segment-room}
use Rattle.capn_walk.proofs.shared.Walks.{gives-next, refuses-next, at-next, count-next, visits-null, visits-cap}
use Rattle.capn_walk.proofs.shared.Walks.{visits-fault, gives-object, refuses-object, refuses-here, gives-nothing}
use Rattle.capn_walk.proofs.shared.Walks.{inside-struct, inside-links, inside-rows, is-inside}
use Rattle.capn_walk.proofs.shared.RowWalks.{one-more, row-inside, rows-give, rows-refuse, rows_at-step}
use Rattle.capn_walk.proofs.shared.RowWalks.{count_rows-next}
use Rattle.capn_walk.proofs.Near.{by-pointer, near-struct, near-list}
use Rattle.capn_walk.proofs.Room.{room-of}
use Rattle.capn_walk.proofs.Stepped.{stepped-memory, step-refuses, content-taken}
use Rattle.capn_walk.proofs.OwnReads.{own-reads-price}
use Rattle.capn_walk.proofs.walk_visits.+walk.Goals as goal

-- ---- a slot

pub walk_slot-returns-in-Nil-clause-answer : goal.walk_slot-returns-in-Nil-clause-answer
walk_slot-returns-in-Nil-clause-answer g t c =
    let m = c.args.space.now in
    let e = sym (by-pointer m c.args.at c.pointer_at-pointer.result c.pointer_at-pointer.ensures.pointer)
    ∙ ap (target_of_pointer m c.args.at.segment c.args.at.word) c.in-Nil.is in
    let none = c.without_content.ensures in (
      rw (none.paid, none.visits)
          (gives-nothing m c.args.base c.args.at c.args.left c.args.depth
          (visits-null m c.args.base c.args.at c.args.depth e)),
      rw (none.value, tree_of-Nil) e,
    )

pub walk_slot-walk_near-requires : goal.walk_slot-walk_near-requires
walk_slot-walk_near-requires g t c κs within =
    let m = c.args.space.now in
    let p = c.pointer_at-pointer in
    let x = c.in-Node in
    let e = near-struct m c.args.at (word_at m c.args.at) p.result x.offset x.words x.slots refl p.ensures.pointer x.is
    in
    search rules

pub walk_slot-walk_near-requires-in-Many : goal.walk_slot-walk_near-requires-in-Many
walk_slot-walk_near-requires-in-Many g t c κs within =
    let m = c.args.space.now in
    let p = c.pointer_at-pointer in
    let x = c.in-Many in
    let e = ap (target_from m c.args.at.segment c.args.at.word 0) x.is
    ∙ near-list m c.args.at (word_at m c.args.at) p.result x.offset x.width x.count refl p.ensures.pointer x.is in
    search rules

pub walk_near-returns-in-Err-clause-answer : goal.walk_near-returns-in-Err-clause-answer
walk_near-returns-in-Err-clause-answer g t c =
    let m = c.args.space.now in
    let e : target c.args.space.now c.args.at ≡ Err c.in-Err.fault = cc in
    refuses-here m c.args.base c.args.at c.args.left c.args.depth c.in-Err.fault c.stop.result
    (visits-fault m c.args.base c.args.at c.args.depth c.in-Err.fault e) c.stop.ensures

pub walk_elsewhere-returns-in-Err-clause-answer : goal.walk_elsewhere-returns-in-Err-clause-answer
walk_elsewhere-returns-in-Err-clause-answer g t c =
    let m = c.args.space in
    let e : target c.args.space c.args.at ≡ Err c.in-Err.fault = cc in
    refuses-here m c.args.base c.args.at c.args.left c.args.depth c.in-Err.fault c.stop.result
    (visits-fault m c.args.base c.args.at c.args.depth c.in-Err.fault e) c.stop.ensures

-- ---- a slot whose target is known

pub walk_target-returns-in-Nil-clause-answer : goal.walk_target-returns-in-Nil-clause-answer
walk_target-returns-in-Nil-clause-answer g t c =
    let m = c.args.space.now in
    let e = c.requires.target ∙ ap Ok c.in-Nil.is in
    let none = c.without_content.ensures in (
      rw (none.paid, none.visits)
          (gives-nothing m c.args.base c.args.at c.args.left c.args.depth
          (visits-null m c.args.base c.args.at c.args.depth e)),
      rw (none.value, tree_of-Nil) e,
    )

pub walk_target-returns-in-Cap-clause-answer : goal.walk_target-returns-in-Cap-clause-answer
walk_target-returns-in-Cap-clause-answer g t c =
    let m = c.args.space.now in
    let e = c.requires.target ∙ ap Ok c.in-Cap.is in
    let none = c.without_content-in-Cap.ensures in (
      rw (none.paid, none.visits)
          (gives-nothing m c.args.base c.args.at c.args.left c.args.depth
          (visits-cap m c.args.base c.args.at c.args.depth c.in-Cap.index e)),
      rw (none.value, tree_of-Cap) e,
    )

pub walk_target-returns-in-Err-clause-answer : goal.walk_target-returns-in-Err-clause-answer
walk_target-returns-in-Err-clause-answer g t c =
    let x = c.in-Content in
    step-refuses c.args.space.now c.args.base c.args.at c.args.depth c.args.left
    (targets.Content x.segment x.start x.shape x.pads) c.in-Err.fault c.stop.result
    (c.requires.target ∙ ap Ok x.is) c.in-Err.ensures.found c.stop.ensures

pub walk_target-returns-in-Err-clause-memory : goal.walk_target-returns-in-Err-clause-memory
walk_target-returns-in-Err-clause-memory g t c m =
    let x = c.in-Content in
    let e = ap (λ (s : Stopped). s.fault) (sym c.stop.ensures) ∙ m in
    absurd (stepped-memory c.args.base c.args.depth c.args.left (targets.Content x.segment x.start x.shape x.pads)
    (c.in-Err.ensures.found ∙ ap Err e))

pub walk_target-object-requires : goal.walk_target-object-requires
walk_target-object-requires g t c κs within =
    let m = c.args.space.now in
    let x = c.in-Content in
    let e = c.requires.target ∙ ap Ok x.is in
    let i = inside m c.args.at x.segment x.start x.pads x.shape e in
    let rows = i.1 in
    let n = slots-price c.args.base x.shape rows in
    let p = c.in-Ok.ensures.price in
    let k = content-taken c.args.base c.args.depth c.args.left x.segment x.start x.pads x.shape c.in-Ok.ensures.found in
    let deep = k.0 in
    let room = k.1 in
    let small : slot_count x.shape ≤ 2 ^ 28 = omega arith in
    let content : IsContent m (record { segment = x.segment; word = x.start }) (extent x.shape) =
    record { exists = present m c.args.at x.segment x.start x.pads x.shape c.requires.place e; within = i.0 } in
    search rules

pub walk_target-overflow_add-result-in-Ok-object : goal.walk_target-overflow_add-result-in-Ok-object
walk_target-overflow_add-result-in-Ok-object g t c =
    let m = c.args.space.now in
    let x = c.in-Content in
    let i = inside m c.args.at x.segment x.start x.pads x.shape (c.requires.target ∙ ap Ok x.is) in
    let n = slots-price c.args.base x.shape i.1 in
    let p = c.in-Ok.ensures.price in
    let k = content-taken c.args.base c.args.depth c.args.left x.segment x.start x.pads x.shape c.in-Ok.ensures.found in
    let room = k.1 in
    let r = c.in-Ok-object.ensures.answer.0 in
    let a = r.within in
    let b = r.few in
    omega arith

pub walk_target-behind-requires-clause-visits : goal.walk_target-behind-requires-clause-visits
walk_target-behind-requires-clause-visits g t c =
    let m = c.args.space.now in
    let x = c.in-Content in
    let i = inside m c.args.at x.segment x.start x.pads x.shape (c.requires.target ∙ ap Ok x.is) in
    let n = slots-price c.args.base x.shape i.1 in
    let p = c.in-Ok.ensures.price in
    let k = content-taken c.args.base c.args.depth c.args.left x.segment x.start x.pads x.shape c.in-Ok.ensures.found in
    let room = k.1 in
    let r = c.in-Err-object.ensures.answer in
    let a = r.within in
    let b = r.few in
    omega arith

pub walk_target-returns-in-Ok-object-clause-answer : goal.walk_target-returns-in-Ok-object-clause-answer
walk_target-returns-in-Ok-object-clause-answer g t c =
    let m = c.args.space.now in
    let x = c.in-Content in
    let p = c.in-Ok.ensures.price in
    let e = c.requires.target ∙ ap Ok x.is in
    let found = c.in-Ok-object.found in
    let k = content-taken c.args.base c.args.depth c.args.left x.segment x.start x.pads x.shape c.in-Ok.ensures.found in
    let h = rw (c.place-start.ensures, p) at c.in-Ok-object.ensures.answer.0 in
    let v = rw c.place-start.ensures at c.in-Ok-object.ensures.answer.1 in (
      rw p
          (gives-object m c.args.base c.args.at x.segment x.start x.pads x.shape e c.args.left c.args.depth k.0 k.1
          found.paid found.visits h),
      is-inside m c.args.at x.segment x.start x.pads x.shape (tree_of found.value) e v,
    )

pub walk_target-returns-in-Ok-object-clause-reads : goal.walk_target-returns-in-Ok-object-clause-reads
walk_target-returns-in-Ok-object-clause-reads g t c =
    let x = c.in-Content in
    let i = inside c.args.space.now c.args.at x.segment x.start x.pads x.shape (c.requires.target ∙ ap Ok x.is) in
    let own = own-reads-price c.args.base x.shape i.1 in
    let p = c.in-Ok.ensures.price in
    let r = c.in-Ok-object.ensures.reads in
    omega arith

pub walk_target-returns-in-Err-object-clause-reads : goal.walk_target-returns-in-Err-object-clause-reads
walk_target-returns-in-Err-object-clause-reads g t c =
    let x = c.in-Content in
    let i = inside c.args.space.now c.args.at x.segment x.start x.pads x.shape (c.requires.target ∙ ap Ok x.is) in
    let own = own-reads-price c.args.base x.shape i.1 in
    let p = c.in-Ok.ensures.price in
    let r = c.in-Err-object.ensures.reads in
    rw c.behind.ensures (omega arith)

pub walk_target-returns-in-Err-object-clause-answer : goal.walk_target-returns-in-Err-object-clause-answer
walk_target-returns-in-Err-object-clause-answer g t c =
    let m = c.args.space.now in
    let x = c.in-Content in
    let p = c.in-Ok.ensures.price in
    let e = c.requires.target ∙ ap Ok x.is in
    let k = content-taken c.args.base c.args.depth c.args.left x.segment x.start x.pads x.shape c.in-Ok.ensures.found in
    let h = rw (c.place-start.ensures, p) at c.in-Err-object.ensures.answer in
    rw (c.behind.ensures, p)
    (refuses-object m c.args.base c.args.at x.segment x.start x.pads x.shape e c.args.left c.args.depth k.0 k.1
    c.in-Err-object.stopped h)

pub walk_target-returns-in-Err-object-clause-memory : goal.walk_target-returns-in-Err-object-clause-memory
walk_target-returns-in-Err-object-clause-memory g t c m =
    let h = ap (λ (r : Target). stepped c.args.base c.args.depth c.args.left (Ok r)) c.in-Content.is
    ∙ c.in-Ok.ensures.found in
    subst IsEntered (sym h) tt

-- ---- an object

pub object-returns-in_ok-below-in-Node-clause-answer : goal.object-returns-in_ok-below-in-Node-clause-answer
object-returns-in_ok-below-in-Node-clause-answer g t c =
    let made = c.into_struct.ensures in
    let b = c.in_ok-below-in-Node in
    let a = rw c.again.ensures at b.ensures.answer in (
      rw (c.in-Node.is, made.paid, made.visits) a.0,
      rw made.value
          (inside-struct c.args.space.now c.args.start.segment c.args.start.word c.args.shape
          c.in-Node.words c.in-Node.slots c.in-Ok.words (trees_of b.below.items)
          c.in-Node.is c.in-Ok.ensures.number c.in-Ok.ensures.words a.2 a.1),
    )

pub object-returns-in_ok-below-in-Node-clause-reads : goal.object-returns-in_ok-below-in-Node-clause-reads
object-returns-in_ok-below-in-Node-clause-reads g t c =
    let made = c.into_struct.ensures in
    let r = c.in_ok-below-in-Node.ensures.reads in
    let own = c.in-Ok.ensures.reads in
    rw (c.in-Node.is, made.paid, made.visits) (omega arith)

pub object-returns-in_ok-below-in-Link-clause-answer : goal.object-returns-in_ok-below-in-Link-clause-answer
object-returns-in_ok-below-in-Link-clause-answer g t c =
    let made = c.into_list.ensures in
    let b = c.in_ok-below-in-Link in
    let a = rw c.again-in-Link.ensures at b.ensures.answer in (
      rw (c.in-Many.is, c.in-Link.is, made.paid, made.visits) a.0,
      rw made.value
          (inside-links c.args.space.now c.args.start.segment c.args.start.word c.args.shape
          c.in-Many.count (trees_of b.below.items)
          (c.in-Many.is ∙ ap (λ (w : Width). shapes.Many w c.in-Many.count) c.in-Link.is) a.2 a.1),
    )

pub object-returns-in_ok-below-in-Link-clause-reads : goal.object-returns-in_ok-below-in-Link-clause-reads
object-returns-in_ok-below-in-Link-clause-reads g t c =
    let made = c.into_list.ensures in
    let r = c.in_ok-below-in-Link.ensures.reads in
    rw (c.in-Many.is, c.in-Link.is, made.paid, made.visits) (omega arith)

pub object-returns-in_ok-below-in-Rows-clause-reads : goal.object-returns-in_ok-below-in-Rows-clause-reads
object-returns-in_ok-below-in-Rows-clause-reads g t c =
    let made = c.into_list-in-Rows.ensures in
    let r = c.in_ok-below-in-Rows.ensures.reads in
    rw (c.in-Rows.is, made.paid, made.visits) (omega arith)

pub object-returns-in_ok-below-in-Rows-clause-answer : goal.object-returns-in_ok-below-in-Rows-clause-answer
object-returns-in_ok-below-in-Rows-clause-answer g t c =
    let made = c.into_list-in-Rows.ensures in
    let b = c.in_ok-below-in-Rows in
    let a = rw c.again-in-Rows.ensures at b.ensures.answer in
    let gives = rw c.place-first.ensures at a.0 in
    let at = rw c.place-first.ensures at a.1 in
    let e : suc c.args.start.word ≡ c.args.start.word + 1 = omega arith in (
      rw (c.in-Rows.is, made.paid, made.visits) gives,
      rw made.value
          (inside-rows c.args.space.now c.args.start.segment c.args.start.word c.args.shape
          c.in-Rows.count c.in-Rows.words c.in-Rows.slots c.in-Rows.span (rows_of b.below.rows)
          c.in-Rows.is a.2 (rw e at)),
    )

-- ---- slots

pub walk_slots-overflow_add-start : goal.walk_slots-overflow_add-start
walk_slots-overflow_add-start g t c =
    let room = room-of c.args.space c.args.segment c.requires.message in
    omega arith

pub walk_slots-returns-clause-answer : goal.walk_slots-returns-clause-answer
walk_slots-returns-clause-answer g t c =
    let e : c.loop-i.i ≡ c.args.count = omega arith in
    let i = c.loop-i.invariant in
    let same = c.from_vec.ensures in
    (rw (← e) i.pays, rw same i.value, rw same (i.number ∙ e))

pub walk_slots-behind-requires-clause-visits : goal.walk_slots-behind-requires-clause-visits
walk_slots-behind-requires-clause-visits g t c =
    let room = room-of c.args.space c.args.segment c.requires.message in
    let inside = c.requires.inside in
    let more = c.loop-i-test.true in
    let small = c.requires.left in
    let a = c.loop-i.invariant.pays in
    let b = c.in-Err.ensures.answer in
    let d = a.within in let e = a.few in let f = b.within in let h = b.few in
    omega arith

pub walk_slots-returns-in-Err-clause-answer : goal.walk_slots-returns-in-Err-clause-answer
walk_slots-returns-in-Err-clause-answer g t c =
    let r = rw c.place-at.ensures at c.in-Err.ensures.answer in
    rw c.behind.ensures
    (refuses-next (visits c.args.space c.args.base c.args.depth) c.args.segment c.args.start
    c.args.left c.loop-i.i c.args.count c.loop-i.paid c.loop-i.visits
    c.in-Err.stopped c.loop-i-test.true c.loop-i.invariant.pays r)

pub walk_slots-loop-i-preserved : goal.walk_slots-loop-i-preserved
walk_slots-loop-i-preserved g t c =
    let e = c.loop-i.invariant.number in
    let gives = rw c.place-at.ensures at c.in-Ok-walk_slot.ensures.answer.0 in
    let at = rw c.place-at.ensures at c.in-Ok-walk_slot.ensures.answer.1 in
    let pushed = c.push_reserved.ensures in
    record {
      pays = gives-next (visits c.args.space c.args.base c.args.depth) c.args.segment
          c.args.start c.args.left c.loop-i.i c.loop-i.paid c.loop-i.visits
          c.in-Ok-walk_slot.found.paid c.in-Ok-walk_slot.found.visits c.loop-i.invariant.pays gives;
      value = rw pushed.items
          (at-next c.args.space c.args.segment c.args.start c.loop-i.slots.items c.in-Ok-walk_slot.found.value
          c.loop-i.invariant.value (rw e at));
      number = rw pushed.items
          (count-next c.args.space c.loop-i.slots.items c.in-Ok-walk_slot.found.value
          ∙ ap (λ (n : ℕ). n + 1) e);
      filled = let a = pushed.len in let b = c.loop-i.invariant.filled in omega arith;
      room = pushed.capacity ∙ c.loop-i.invariant.room;
      reads = let n = c.in-Ok-walk_slot.ensures.reads in let so_far = c.loop-i.invariant.reads in omega arith;
    }

-- ---- rows

pub walk_rows-walk_slots-requires : goal.walk_rows-walk_slots-requires
walk_rows-walk_slots-requires g t c κs within =
    let inside = c.requires.content.within in
    let next = c.loop-i.invariant.next in
    let room = row-inside c.args.start.word c.args.count c.loop-i.i (c.args.words + c.args.slots) c.loop-i.next _
    c.loop-i-test.true next inside in
    search rules

pub walk_rows-overflow_add-visits : goal.walk_rows-overflow_add-visits
walk_rows-overflow_add-visits g t c =
    let a = c.loop-i.invariant.pays in
    let b = c.in-Ok-walk_slots.ensures.answer.0 in
    let d = a.within in let e = a.few in let f = b.within in let h = b.few in
    let k = one-more c.loop-i.i c.args.count c.args.slots c.loop-i-test.true in
    omega arith

pub walk_rows-behind-requires-in-Err-clause-visits : goal.walk_rows-behind-requires-in-Err-clause-visits
walk_rows-behind-requires-in-Err-clause-visits g t c =
    let a = c.loop-i.invariant.pays in
    let b = c.in-Err.ensures.answer in
    let d = a.within in let e = a.few in let f = b.within in let h = b.few in
    let k = one-more c.loop-i.i c.args.count c.args.slots c.loop-i-test.true in
    omega arith

pub walk_rows-returns-in_default-words_at-clause-answer : goal.walk_rows-returns-in_default-words_at-clause-answer
walk_rows-returns-in_default-words_at-clause-answer g t c =
    let o = c.out_of_memory-in_default-words_at in
    rw c.behind.ensures
    (rows-refuse (visits c.args.space c.args.base c.args.depth) c.args.start.segment
    c.args.start.word c.args.words c.args.slots c.args.left c.loop-i.i c.args.count c.loop-i.paid c.loop-i.visits
    o.result c.loop-i-test.true c.loop-i.invariant.pays
    (rw o.ensures (record { is = inl refl; within = omega arith; few = omega arith })))

pub walk_rows-returns-in_default-words_at-clause-reads : goal.walk_rows-returns-in_default-words_at-clause-reads
walk_rows-returns-in_default-words_at-clause-reads g t c =
    let k = one-more c.loop-i.i c.args.count (1 + c.args.words) c.loop-i-test.true in
    let words = c.in_default-words_at.ensures.reads in
    let so_far = c.loop-i.invariant.reads in
    rw c.behind.ensures (omega arith)

pub walk_rows-returns-clause-answer : goal.walk_rows-returns-clause-answer
walk_rows-returns-clause-answer g t c =
    let e : c.loop-i.i ≡ c.args.count = omega arith in
    let i = c.loop-i.invariant in
    let same = c.from_vec.ensures in
    (rw (← e) i.pays, rw same i.value, rw same (i.number ∙ e))

pub walk_rows-returns-in-Err-clause-answer : goal.walk_rows-returns-in-Err-clause-answer
walk_rows-returns-in-Err-clause-answer g t c =
    let e = c.loop-i.invariant.next in
    let r = rw (e, c.again.ensures) at c.in-Err.ensures.answer in
    rw c.behind-in-Err.ensures
    (rows-refuse (visits c.args.space c.args.base c.args.depth) c.args.start.segment
    c.args.start.word c.args.words c.args.slots c.args.left c.loop-i.i c.args.count c.loop-i.paid c.loop-i.visits
    c.in-Err.stopped c.loop-i-test.true c.loop-i.invariant.pays r)

pub walk_rows-overflow_add-next : goal.walk_rows-overflow_add-next
walk_rows-overflow_add-next g t c =
    let inside = c.requires.content.within in
    let next = c.loop-i.invariant.next in
    let room = row-inside c.args.start.word c.args.count c.loop-i.i (c.args.words + c.args.slots) c.loop-i.next _
    c.loop-i-test.true next inside in
    let all = segment-room c.args.space c.args.start.segment c.requires.message c.requires.content.exists in
    omega arith

pub walk_rows-loop-i-preserved : goal.walk_rows-loop-i-preserved
walk_rows-loop-i-preserved g t c =
    let e = c.loop-i.invariant.next in
    let n = c.loop-i.invariant.number in
    let ws = rw c.place-at.ensures at c.in-Ok-words_at.ensures.words in
    let x = c.in-Ok-walk_slots in
    let a = rw c.again.ensures at x.ensures.answer in
    let pushed = c.push_reserved.ensures in
    record {
      pays = rows-give (visits c.args.space c.args.base c.args.depth) c.args.start.segment
          c.args.start.word c.args.words c.args.slots c.args.left c.loop-i.i c.loop-i.paid c.loop-i.visits
          x.below.paid x.below.visits c.loop-i.invariant.pays (rw e at a.0);
      value = rw pushed.items
          (rows_at-step c.args.space c.args.words c.args.slots c.args.start.segment
          c.args.start.word c.loop-i.next c.loop-i.i c.loop-i.rows.items _
          c.loop-i.invariant.value n e c.in-Ok-words_at.ensures.number ws a.2 a.1);
      number = rw pushed.items (count_rows-next c.args.space c.loop-i.rows.items _
          ∙ ap (λ (k : ℕ). k + 1) n);
      filled = let a = pushed.len in let b = c.loop-i.invariant.filled in omega arith;
      room = pushed.capacity ∙ c.loop-i.invariant.room;
      next = let k : (c.loop-i.i + 1) * (c.args.words + c.args.slots) ≡ c.loop-i.i * (c.args.words + c.args.slots)
          + (c.args.words + c.args.slots) = omega arith in omega arith;
      reads = let k : (c.loop-i.i + 1) * (1 + c.args.words) ≡ c.loop-i.i * (1 + c.args.words) + (1 + c.args.words)
          = omega arith in
          let words = c.in-Ok-words_at.ensures.reads in
          let n = x.ensures.reads in
          let so_far = c.loop-i.invariant.reads in
          omega arith;
    }

pub walk_rows-returns-in-Err-clause-reads : goal.walk_rows-returns-in-Err-clause-reads
walk_rows-returns-in-Err-clause-reads g t c =
    let k = one-more c.loop-i.i c.args.count (1 + c.args.words) c.loop-i-test.true in
    let words = c.in-Ok-words_at.ensures.reads in
    let n = c.in-Err.ensures.reads in
    let so_far = c.loop-i.invariant.reads in
    rw c.behind-in-Err.ensures (omega arith)
