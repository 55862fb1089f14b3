use Rattle.std.proofs.Common.{rules, ◌≡◌, ℕ, ◌+◌, ◌*◌, Ok, refl, ap, sym, ◌∙◌, arith}
use Rattle.std.proofs.lemmas.Bool.{iff_false}
use Rattle.capn_value.specs.Tree.{tree_at}
use Rattle.capn_target.specs.declared.target.Shape.TheVariants as shapes
use Rattle.capn_layout.specs.LayoutSteps.{slots_at}
use Rattle.capn_layout.proofs.shared.Shaped.{found, inside-of}
use Rattle.capn_same.proofs.stepwise.Slots.{has-slot, has-value, same-next, weights-next, left-zero, right-zero}
use Rattle.capn_same.proofs.stepwise.Slots.{both-zero}
use Rattle.capn_same.proofs.stepwise.RowsApart.{words_at, is-row_in, has-row_in, row-next, row-weights, rows-end}
use Rattle.capn_same.proofs.stepwise.RowsApart.{rows-so_far, rows-count}
use Rattle.capn_same.proofs.stepwise.Kinds.{shape_count}
use Rattle.capn_same.proofs.stepwise.Contents.{no, zeros-at, has-content, lengths-apart}
use Rattle.capn_words.specs.declared.pointer.Width.TheVariants.{Link}
use Rattle.capn_same.proofs.stepwise.Verdicts.{says-links, says-rows, says-bits, bits-weigh, rows-there}
use Rattle.capn_same.proofs.objects.+sameness.Goals as goal

-- ---- a slot

pub is_same_slot-target_at-requires-in-Nil-clause-found :
    goal.is_same_slot-target_at-requires-in-Nil-clause-found
is_same_slot-target_at-requires-in-Nil-clause-found g t c =
    found c.args.b.now c.args.beside c.requires.two.value c.requires.two.is.at

pub is_same_slot-target_at-requires-in-Cap-clause-found :
    goal.is_same_slot-target_at-requires-in-Cap-clause-found
is_same_slot-target_at-requires-in-Cap-clause-found g t c =
    found c.args.b.now c.args.beside c.requires.two.value c.requires.two.is.at

pub is_same_slot-target_at-requires-in-Content-clause-found :
    goal.is_same_slot-target_at-requires-in-Content-clause-found
is_same_slot-target_at-requires-in-Content-clause-found g t c =
    found c.args.b.now c.args.beside c.requires.two.value c.requires.two.is.at

pub is_same_slot-target_at-requires-clause-found : goal.is_same_slot-target_at-requires-clause-found
is_same_slot-target_at-requires-clause-found g t c =
    found c.args.a.now c.args.at c.requires.one.value c.requires.one.is.at

pub is_same_slot-is_same_content-requires : goal.is_same_slot-is_same_content-requires
is_same_slot-is_same_content-requires g t c κs within =
    let x = c.in-Content in
    let y = c.in-Content-target_at in
    let one = has-content c.args.a.now c.args.at c.args.depth x.segment x.start x.pads x.shape c.requires.one
    (c.target_at.ensures.found ∙ ap Ok x.is) in
    let two = has-content c.args.b.now c.args.beside c.args.depth y.elsewhere y.begin y.pads y.form c.requires.two
    (c.target_at-in-Content.ensures.found ∙ ap Ok y.is) in
    (omega arith, (within.0, (within.1.0, (within.1.1.0, (within.1.1.1, (one, two))))))

pub is_same_slot-returns-in-Content-target_at-clause-same :
    goal.is_same_slot-returns-in-Content-target_at-clause-same
is_same_slot-returns-in-Content-target_at-clause-same g t c v w h j =
    let x = c.in-Content in
    let y = c.in-Content-target_at in
    c.is_same_content.ensures.same v w
    (inside-of c.args.a.now c.args.at x.segment x.start x.pads x.shape (c.target_at.ensures.found ∙ ap Ok x.is) v h.at)
    (inside-of c.args.b.now c.args.beside y.elsewhere y.begin y.pads y.form
    (c.target_at-in-Content.ensures.found ∙ ap Ok y.is) w j.at)

pub is_same_slot-returns-in-Content-target_at-clause-first :
    goal.is_same_slot-returns-in-Content-target_at-clause-first
is_same_slot-returns-in-Content-target_at-clause-first g t c v h =
    let x = c.in-Content in
    let r = c.is_same_content.ensures.first v
    (inside-of c.args.a.now c.args.at x.segment x.start x.pads x.shape (c.target_at.ensures.found ∙ ap Ok x.is) v h.at)
    in
    let o = c.target_at.ensures.reads in
    omega arith

pub is_same_slot-returns-in-Content-target_at-clause-second :
    goal.is_same_slot-returns-in-Content-target_at-clause-second
is_same_slot-returns-in-Content-target_at-clause-second g t c w j =
    let y = c.in-Content-target_at in
    let r = c.is_same_content.ensures.second w
    (inside-of c.args.b.now c.args.beside y.elsewhere y.begin y.pads y.form
    (c.target_at-in-Content.ensures.found ∙ ap Ok y.is) w j.at) in
    let o = c.target_at-in-Content.ensures.reads in
    omega arith

-- ---- content

pub is_same_content-returns-then-count-number-clause-same : goal.is_same_content-returns-then-count-number-clause-same
is_same_content-returns-then-count-number-clause-same g t c v w h j =
    let a = c.args in
    lengths-apart a.a.now a.b.now a.shape a.form a.at.segment a.at.word a.beside.segment a.beside.word v w h j
    (λ e. c.if-count-number.true (sym (ap shape_count c.in-Many.is) ∙ e ∙ ap shape_count c.in-Many-form.is))

pub is_same_content-returns-then-count-number-2-clause-same :
    goal.is_same_content-returns-then-count-number-2-clause-same
is_same_content-returns-then-count-number-2-clause-same g t c v w h j =
    let a = c.args in
    lengths-apart a.a.now a.b.now a.shape a.form a.at.segment a.at.word a.beside.segment a.beside.word v w h j
    (λ e. c.if-count-number-2.true (sym (ap shape_count c.in-Rows.is) ∙ e ∙ ap shape_count c.in-Rows-form.is))

pub is_same_content-returns-in-Link-clause-same : goal.is_same_content-returns-in-Link-clause-same
is_same_content-returns-in-Link-clause-same g t c v w h j =
    let a = c.args in
    let wide : c.in-Many.width ≡ c.in-Many-form.size = search rules in
    let one = c.in-Many.is ∙ ap (λ x. shapes.Many x c.in-Many.count) c.in-Link.is in
    let two = c.in-Many-form.is ∙ ap (λ x. shapes.Many x c.in-Many-form.number) (sym wide ∙ c.in-Link.is)
    ∙ ap (shapes.Many Link) (sym c.if-count-number.false) in
    says-links a.a.now a.b.now a.at a.beside a.depth c.are_same_slots.result a.shape a.form c.in-Many.count one two
    c.are_same_slots.ensures.same c.requires.one c.requires.two v w h j

pub is_same_content-returns-in_default-width : goal.is_same_content-returns-in_default-width
is_same_content-returns-in_default-width g t c =
    let a = c.args in
    let n = c.in-Many.count in
    let w = c.in-Many.width in
    let ne = c.in_default-width.not-Link in
    let wide : c.in-Many.width ≡ c.in-Many-form.size = search rules in
    let two = c.in-Many-form.is ∙ ap (λ x. shapes.Many x c.in-Many-form.number) (sym wide)
    ∙ ap (shapes.Many w) (sym c.if-count-number.false) in
    let eb = ap (λ (x : ℕ). x * n) c.bits_of.ensures in
    record {
      same = λ v x h j. says-bits a.a.now a.b.now a.at a.beside a.depth c.are_same_bits.result a.shape a.form w n
          (c.bits_of.result * n) c.in-Many.is two ne eb c.are_same_bits.ensures.same c.requires.one c.requires.two v x h
          j;
      first = λ v h.
          let r = c.are_same_bits.ensures.first in
          let k = bits-weigh a.a.now a.shape w n (c.bits_of.result * n) a.depth a.at v c.in-Many.is ne eb c.requires.one
          h in
          omega arith;
      second = λ x j.
          let r = c.are_same_bits.ensures.second in
          let k = bits-weigh a.b.now a.form w n (c.bits_of.result * n) a.depth a.beside x two ne eb c.requires.two j in
          omega arith;
    }

pub is_same_content-returns-else-count-number-2-clause-same :
    goal.is_same_content-returns-else-count-number-2-clause-same
is_same_content-returns-else-count-number-2-clause-same g t c v w h j =
    let a = c.args in
    says-rows a.a.now a.b.now a.at a.beside a.depth c.are_same_rows.result a.shape a.form c.in-Rows.count
    c.in-Rows.words c.in-Rows.slots c.in-Rows.span c.in-Rows-form.own c.in-Rows-form.below c.in-Rows-form.span
    c.in-Rows.is
    (c.in-Rows-form.is ∙ ap (λ (x : ℕ). shapes.Rows x c.in-Rows-form.own c.in-Rows-form.below c.in-Rows-form.span)
    (sym c.if-count-number-2.false))
    (rows-there a.a.now a.b.now _ _ _ _ c.in-Rows.count c.in-Rows.words c.in-Rows.slots c.in-Rows-form.own
    c.in-Rows-form.below c.are_same_rows.result c.behind.ensures c.behind-in-Rows-form.ensures
    c.are_same_rows.ensures.same) c.requires.one c.requires.two v w h j

-- ---- slots

pub are_same_slots-is_same_slot-requires : goal.are_same_slots-is_same_slot-requires
are_same_slots-is_same_slot-requires g t c κs within =
    let a = c.args in
    let i = c.loop-i.i in
    let lt = c.loop-i-test.true in
    let m = c.min-shared.ensures in
    let one = has-value a.a.now a.one.start a.one.count c.behind-at.result i a.depth c.requires.one (omega arith)
    c.behind-at.ensures in
    let two = has-value a.b.now a.two.start a.two.count c.behind-beside.result i a.depth c.requires.two (omega arith)
    c.behind-beside.ensures in
    (omega arith, (within.0, (within.1.0, (within.1.1.0, (within.1.1.1, (one, two))))))

pub are_same_slots-returns-then-not-is_same_slot-clause-same :
    goal.are_same_slots-returns-then-not-is_same_slot-clause-same
are_same_slots-returns-then-not-is_same_slot-clause-same g t c ss ts h j =
    let a = c.args in
    let i = c.loop-i.i in
    let lt = c.loop-i-test.true in
    let m = c.min-shared.ensures in
    let n = h.number in
    let k = j.number in
    let step = same-next ss ts i (i + 1) (omega arith) (omega arith) (omega arith) in
    no (λ q. iff_false (c.is_same_slot.ensures.same (tree_at ss i) (tree_at ts i)
    (has-slot a.a.now a.one.start a.one.count c.behind-at.result i ss h (omega arith) c.behind-at.ensures)
    (has-slot a.b.now a.two.start a.two.count c.behind-beside.result i ts j (omega arith) c.behind-beside.ensures))
    c.if-not-is_same_slot.true (step.0 ((c.loop-i.invariant.same ss ts h j).0 q)).0)

pub are_same_slots-returns-then-not-is_same_slot-clause-first :
    goal.are_same_slots-returns-then-not-is_same_slot-clause-first
are_same_slots-returns-then-not-is_same_slot-clause-first g t c ss h =
    let a = c.args in
    let i = c.loop-i.i in
    let lt = c.loop-i-test.true in
    let m = c.min-shared.ensures in
    let n = h.number in
    let r = c.is_same_slot.ensures.first (tree_at ss i)
    (has-slot a.a.now a.one.start a.one.count c.behind-at.result i ss h (omega arith) c.behind-at.ensures) in
    let v = c.loop-i.invariant.first ss h in
    let w = weights-next ss i (i + 1) (omega arith) (omega arith) in
    let o = c.tick.ensures in
    omega arith

pub are_same_slots-returns-then-not-is_same_slot-clause-second :
    goal.are_same_slots-returns-then-not-is_same_slot-clause-second
are_same_slots-returns-then-not-is_same_slot-clause-second g t c ts j =
    let a = c.args in
    let i = c.loop-i.i in
    let lt = c.loop-i-test.true in
    let m = c.min-shared.ensures in
    let n = j.number in
    let r = c.is_same_slot.ensures.second (tree_at ts i)
    (has-slot a.b.now a.two.start a.two.count c.behind-beside.result i ts j (omega arith) c.behind-beside.ensures) in
    let v = c.loop-i.invariant.second ts j in
    let w = weights-next ts i (i + 1) (omega arith) (omega arith) in
    let o = c.tick-in-loop-i.ensures in
    omega arith

pub are_same_slots-loop-i-preserved : goal.are_same_slots-loop-i-preserved
are_same_slots-loop-i-preserved g t c =
    let a = c.args in
    let i = c.loop-i.i in
    let lt = c.loop-i-test.true in
    let m = c.min-shared.ensures in
    record {
      same = λ ss ts h j.
          let n = h.number in
          let k = j.number in
          let step = same-next ss ts i (i + 1) (omega arith) (omega arith) (omega arith) in
          let v = c.loop-i.invariant.same ss ts h j in
          let yes = (c.is_same_slot.ensures.same (tree_at ss i) (tree_at ts i)
          (has-slot a.a.now a.one.start a.one.count c.behind-at.result i ss h (omega arith) c.behind-at.ensures)
          (has-slot a.b.now a.two.start a.two.count c.behind-beside.result i ts j (omega arith)
          c.behind-beside.ensures)).0 c.if-not-is_same_slot.false in
          ((λ q. (step.0 (v.0 q)).1), (λ q. v.1 (step.1 (yes, q))));
      first = λ ss h.
          let n = h.number in
          let r = c.is_same_slot.ensures.first (tree_at ss i)
          (has-slot a.a.now a.one.start a.one.count c.behind-at.result i ss h (omega arith) c.behind-at.ensures) in
          let v = c.loop-i.invariant.first ss h in
          let w = weights-next ss i (i + 1) (omega arith) (omega arith) in
          let o = c.tick.ensures in
          omega arith;
      second = λ ts j.
          let n = j.number in
          let r = c.is_same_slot.ensures.second (tree_at ts i)
          (has-slot a.b.now a.two.start a.two.count c.behind-beside.result i ts j (omega arith)
          c.behind-beside.ensures) in
          let v = c.loop-i.invariant.second ts j in
          let w = weights-next ts i (i + 1) (omega arith) (omega arith) in
          let o = c.tick-in-loop-i.ensures in
          omega arith;
    }

pub are_same_slots-returns-then-one-two-clause-same : goal.are_same_slots-returns-then-one-two-clause-same
are_same_slots-returns-then-one-two-clause-same g t c ss ts h j =
    let a = c.args in
    let i = c.loop-i.i in
    let ge = c.loop-i-test.false in
    let le = c.loop-i.auto.i-end in
    let m = c.min-shared.ensures in
    let e = c.if-one-two.true in (
      (λ o. both-zero a.a.now a.b.now a.one.start a.two.start a.one.count a.two.count c.min-shared.result i ss ts h j
          c.min-shared.ensures (omega arith) (c.loop-i.invariant.same ss ts h j) (λ k below. absurd (omega arith))
          (λ k below. absurd (omega arith))),
      (λ q. refl),
    )

pub are_same_slots-returns-then-not-are_zero-clause-same :
    goal.are_same_slots-returns-then-not-are_zero-clause-same
are_same_slots-returns-then-not-are_zero-clause-same g t c ss ts h j =
    let a = c.args in
    let i = c.loop-i.i in
    let ge = c.loop-i-test.false in
    let le = c.loop-i.auto.i-end in
    no (λ q. iff_false (zeros-at a.a.now _ _ _ _ c.behind.ensures c.are_zero.ensures.same) c.if-not-are_zero.true
    (left-zero a.a.now a.b.now a.one.start a.two.start a.one.count a.two.count c.min-shared.result i ss ts h j
    c.min-shared.ensures (omega arith) (c.loop-i.invariant.same ss ts h j) q))

pub are_same_slots-returns-clause-same : goal.are_same_slots-returns-clause-same
are_same_slots-returns-clause-same g t c ss ts h j =
    let a = c.args in
    let i = c.loop-i.i in
    let ge = c.loop-i-test.false in
    let le = c.loop-i.auto.i-end in
    let left = (zeros-at a.a.now _ _ _ _ c.behind.ensures c.are_zero.ensures.same).0 c.if-not-are_zero.false in
    let right = zeros-at a.b.now _ _ _ _ c.behind-2.ensures c.are_zero-2.ensures.same in (
      (λ o. both-zero a.a.now a.b.now a.one.start a.two.start a.one.count a.two.count c.min-shared.result i ss ts h j
          c.min-shared.ensures (omega arith) (c.loop-i.invariant.same ss ts h j) left (right.0 o)),
      (λ q. right.1 (right-zero a.a.now a.b.now a.one.start a.two.start a.one.count a.two.count c.min-shared.result i
          ss ts h j c.min-shared.ensures (omega arith) (c.loop-i.invariant.same ss ts h j) q)),
    )

-- ---- rows

pub are_same_rows-is_same_row-requires : goal.are_same_rows-is_same_row-requires
are_same_rows-is_same_row-requires g t c κs within =
    let a = c.args in
    let i = c.loop-row._row in
    let lt = c.loop-row-test.true in
    let one = has-row_in a.a.now a.one.start a.count a.one.words a.one.slots c.place.result c.loop-row.next i a.depth
    c.requires.one lt c.loop-row.invariant.next c.place.ensures in
    let two = has-row_in a.b.now a.two.start a.count a.two.words a.two.slots c.place-in-loop-row.result
    c.loop-row.beyond i a.depth c.requires.two lt c.loop-row.invariant.beyond c.place-in-loop-row.ensures in
    (omega arith, (within.0, (within.1.0, (within.1.1.0, (within.1.1.1, (one, two))))))

pub are_same_rows-returns-then-not-is_same_row-clause-same :
    goal.are_same_rows-returns-then-not-is_same_row-clause-same
are_same_rows-returns-then-not-is_same_row-clause-same g t c bs cs h j =
    let a = c.args in
    let i = c.loop-row._row in
    let lt = c.loop-row-test.true in
    let n = h.number in
    let k = j.number in
    let step = row-next bs cs i (i + 1) (omega arith) (omega arith) (omega arith) in
    no (λ q. iff_false (c.is_same_row.ensures.same (words_at bs i) (words_at cs i) (slots_at bs i) (slots_at cs i)
    (is-row_in a.a.now a.one.start a.count a.one.words a.one.slots _ c.loop-row.next i bs h lt
    c.loop-row.invariant.next c.place.ensures)
    (is-row_in a.b.now a.two.start a.count a.two.words a.two.slots _ c.loop-row.beyond i cs j lt
    c.loop-row.invariant.beyond c.place-in-loop-row.ensures))
    c.if-not-is_same_row.true (step.0 ((c.loop-row.invariant.same bs cs h j).0 q)).0)

pub are_same_rows-returns-then-not-is_same_row-clause-first :
    goal.are_same_rows-returns-then-not-is_same_row-clause-first
are_same_rows-returns-then-not-is_same_row-clause-first g t c bs h =
    let a = c.args in
    let i = c.loop-row._row in
    let lt = c.loop-row-test.true in
    let n = h.number in
    let r = c.is_same_row.ensures.first (words_at bs i) (slots_at bs i)
    (is-row_in a.a.now a.one.start a.count a.one.words a.one.slots _ c.loop-row.next i bs h lt
    c.loop-row.invariant.next c.place.ensures) in
    let v = c.loop-row.invariant.first bs h in
    let w = row-weights bs i (i + 1) (omega arith) (omega arith) in
    let o = c.tick.ensures in
    let f = rows-so_far a.a.now a.one.start a.count a.one.words a.one.slots i lt in
    let e = rows-count a.a.now a.one.start a.count a.one.words a.one.slots bs h in
    omega arith

pub are_same_rows-returns-then-not-is_same_row-clause-second :
    goal.are_same_rows-returns-then-not-is_same_row-clause-second
are_same_rows-returns-then-not-is_same_row-clause-second g t c cs j =
    let a = c.args in
    let i = c.loop-row._row in
    let lt = c.loop-row-test.true in
    let n = j.number in
    let r = c.is_same_row.ensures.second (words_at cs i) (slots_at cs i)
    (is-row_in a.b.now a.two.start a.count a.two.words a.two.slots _ c.loop-row.beyond i cs j lt
    c.loop-row.invariant.beyond c.place-in-loop-row.ensures) in
    let v = c.loop-row.invariant.second cs j in
    let w = row-weights cs i (i + 1) (omega arith) (omega arith) in
    let o = c.tick-in-loop-row.ensures in
    let f = rows-so_far a.b.now a.two.start a.count a.two.words a.two.slots i lt in
    let e = rows-count a.b.now a.two.start a.count a.two.words a.two.slots cs j in
    omega arith

pub are_same_rows-loop-row-preserved : goal.are_same_rows-loop-row-preserved
are_same_rows-loop-row-preserved g t c =
    let a = c.args in
    let i = c.loop-row._row in
    let lt = c.loop-row-test.true in
    let dx : (i + 1) * (a.one.words + a.one.slots) ≡ i * (a.one.words + a.one.slots) + (a.one.words + a.one.slots) =
    omega arith in
    let dy : (i + 1) * (a.two.words + a.two.slots) ≡ i * (a.two.words + a.two.slots) + (a.two.words + a.two.slots) =
    omega arith in
    let ex = c.loop-row.invariant.next in
    let ey = c.loop-row.invariant.beyond in
    record {
      next = omega arith;
      beyond = omega arith;
      same = λ bs cs h j.
          let n = h.number in
          let k = j.number in
          let step = row-next bs cs i (i + 1) (omega arith) (omega arith) (omega arith) in
          let v = c.loop-row.invariant.same bs cs h j in
          let yes = (c.is_same_row.ensures.same (words_at bs i) (words_at cs i) (slots_at bs i) (slots_at cs i)
          (is-row_in a.a.now a.one.start a.count a.one.words a.one.slots _ c.loop-row.next i bs h lt ex c.place.ensures)
          (is-row_in a.b.now a.two.start a.count a.two.words a.two.slots _ c.loop-row.beyond i cs j lt ey
          c.place-in-loop-row.ensures)).0 c.if-not-is_same_row.false in
          ((λ q. (step.0 (v.0 q)).1), (λ q. v.1 (step.1 (yes, q))));
      first = λ bs h.
          let n = h.number in
          let r = c.is_same_row.ensures.first (words_at bs i) (slots_at bs i)
          (is-row_in a.a.now a.one.start a.count a.one.words a.one.slots _ c.loop-row.next i bs h lt ex
          c.place.ensures) in
          let v = c.loop-row.invariant.first bs h in
          let w = row-weights bs i (i + 1) (omega arith) (omega arith) in
          let o = c.tick.ensures in
          omega arith;
      second = λ cs j.
          let n = j.number in
          let r = c.is_same_row.ensures.second (words_at cs i) (slots_at cs i)
          (is-row_in a.b.now a.two.start a.count a.two.words a.two.slots _ c.loop-row.beyond i cs j lt ey
          c.place-in-loop-row.ensures) in
          let v = c.loop-row.invariant.second cs j in
          let w = row-weights cs i (i + 1) (omega arith) (omega arith) in
          let o = c.tick-in-loop-row.ensures in
          omega arith;
    }

pub are_same_rows-returns-clause-same : goal.are_same_rows-returns-clause-same
are_same_rows-returns-clause-same g t c bs cs h j =
    let a = c.args in
    let i = c.loop-row._row in
    let ge = c.loop-row-test.false in
    let le = c.loop-row.auto._row-end in
    let n = h.number in
    let k = j.number in
    let all = (c.loop-row.invariant.same bs cs h j).1 (rows-end bs cs i (omega arith) (omega arith)) in
    ((λ o. all), (λ q. refl))

pub are_same_rows-returns-clause-first : goal.are_same_rows-returns-clause-first
are_same_rows-returns-clause-first g t c bs h =
    let a = c.args in
    let i = c.loop-row._row in
    let ge = c.loop-row-test.false in
    let le = c.loop-row.auto._row-end in
    let v = c.loop-row.invariant.first bs h in
    let same : i ≡ a.count = omega arith in
    let p = ap (λ (x : ℕ). x * (a.one.words + a.one.slots)) same in
    let e = rows-count a.a.now a.one.start a.count a.one.words a.one.slots bs h in
    omega arith

pub are_same_rows-returns-clause-second : goal.are_same_rows-returns-clause-second
are_same_rows-returns-clause-second g t c cs j =
    let a = c.args in
    let i = c.loop-row._row in
    let ge = c.loop-row-test.false in
    let le = c.loop-row.auto._row-end in
    let v = c.loop-row.invariant.second cs j in
    let same : i ≡ a.count = omega arith in
    let p = ap (λ (x : ℕ). x * (a.two.words + a.two.slots)) same in
    let e = rows-count a.b.now a.two.start a.count a.two.words a.two.slots cs j in
    omega arith
