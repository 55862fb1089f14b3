use Rattle.std.proofs.Common.{◌≡◌, inl, inr, ℕ, suc, ◌+◌, ◌-◌, ◌*◌, ◌^◌, ◌<◌, ◌≤◌, List, [], ◌∷◌, length}
use Rattle.std.proofs.Common.{refl, ◌%◌, Bool, not, nat_eq}
use Rattle.std.proofs.Common.{ap, sym, subst, ◌∙◌, arith}
use Rattle.capn_target.specs.declared.target.Shape.TheVariants as shapes
use Rattle.capn_walk.proofs.shared.RowWalks.{row-inside}
use Rattle.capn_target.proofs.shared.Segments.{segment-room}
use Rattle.capn_canon.specs.declared.progress.Progress.{Progress}
use Rattle.capn_canon.specs.declared.progress.Pass.{Pass}
use Rattle.capn_canon.specs.inner.InPlace.{FindsSlots, FindsRows, FindsFirst, Finds, HasObject, IsOpen, Leads}
use Rattle.capn_canon.specs.inner.Due.{Due, DueSlots, DueRows}
use Rattle.capn_canon.specs.inner.PassReads.{may_read}
use Rattle.capn_canon.proofs.check.DueObjects.{due-deep, due-near, due-price}
use Rattle.capn_canon.proofs.check.DueSlots.{due-first, goes-due, row-due, rows-due}
use Rattle.capn_canon.proofs.reading.OneSegment.{names-empty}
use Rattle.capn_canon.proofs.check.PassLeads.{if-some, behind, come, finds-none, finds-null, finds-empty}
use Rattle.capn_canon.proofs.check.PassLeads.{finds-bare-rows, finds-no-rows, finds-row, goes-behind, last-leads}
use Rattle.capn_canon.proofs.one_pass.+pass.Goals as goal

-- ---- slots

pub check_slots-returns : goal.check_slots-returns
check_slots-returns g t c =
    let p = c.args.pass in
    let r = c.loop-left.left in
    let v = c.loop-left.invariant in
    let deep = not (nat_eq g.row.DEEP 0) in
    let low = c.loop-left.least in
    let found = v.leads (come r) low
    (finds-none c.args.space.now c.args.base deep r low c.loop-left-test.false v.opened) in
    record {
      found = subst (λ (q : Progress). Finds c.args.space.now c.args.base deep p c.args.least.now q low)
          (sym c.here.ensures) found;
      only = λ h. refl;
      reads = let rest = ap (λ (q : Progress). q.left) c.here.ensures in let turns = v.reads in omega arith;
      most = let turns = v.reads in omega arith;
    }

pub check_slots-returns-in-None : goal.check_slots-returns-in-None
check_slots-returns-in-None g t c = record {
  found = tt;
  only = λ h. absurd (c.in-None.ensures.only (c.loop-left.invariant.due h));
  reads = tt;
  most = let turns = c.loop-left.invariant.reads in omega arith;
}

-- ---- a slot

-- The bound on the reads of the pass `r`, which is `p` without its first slot.
behind-reads : (p : Pass) (q : Progress) (r : Pass) → p.from < p.end → r ≡ behind p q
    → may_read r + 7 ≡ 7 * (p.end - p.from) + 10 * q.left
behind-reads p q r some e = let f = ap may_read e in omega arith

-- The pass `r` begins at a later slot than the pass `p`, and decides what `p` finds (`Leads`). If the pass `p` must
-- find values at all its slots, so must the pass `r` (`Due`).
record GoesOn (all : List ℕ) (base : ℕ) (deep : Bool) (p : Pass) (least : ℕ) (r : Pass) (here : ℕ) : Type 0 where
  found : (p.from < r.from) × IsOpen all r × Leads all base deep p least r here
  only : Due all base p → Due all base r

goes-on : (all : List ℕ) (base : ℕ) (deep : Bool) (p : Pass) (least here : ℕ) → p.from < p.end → IsOpen all p
    → (q : Progress) → FindsFirst all base deep p least q here → (r : Pass) → r ≡ behind p q
    → GoesOn all base deep p least r here
goes-on all base deep p least here some o q f r e = record {
  found = goes-behind all base deep p least here some o q f r e;
  only = λ h. goes-due all base p some o h q f r e;
}

pub check_slot-returns-then-word-eq0 : goal.check_slot-returns-then-word-eq0
check_slot-returns-then-word-eq0 g t c =
    let all = c.args.space.now in
    let p = c.args.pass in
    let o = c.requires.opened in
    let z = sym c.word_at-word.ensures.word ∙ c.if-word-eq0.true in
    let deep = not (nat_eq g.row.DEEP 0) in
    let least = c.args.least.now in
    let go = goes-on all c.args.base deep p least least c.requires.some o (come p)
    (finds-null all c.args.base deep p least o z) c.behind.result (c.behind.ensures ∙ ap (behind p) c.here.ensures) in
    let left = behind-reads p (come p) c.behind.result c.requires.some
    (c.behind.ensures ∙ ap (behind p) c.here.ensures) in
    let read = c.word_at-word.ensures.reads in
    let some = c.requires.some in
    let depth = ap (λ (x : Pass). x.depth) c.behind.ensures in
    record { found = go.found; low = omega (arith, depth); only = go.only; reads = omega arith; most = omega arith }

pub check_slot-returns-then-pass-eq0-clause-only : goal.check_slot-returns-then-pass-eq0-clause-only
check_slot-returns-then-pass-eq0-clause-only g t c h =
    let all = c.args.space.now in
    let p = c.args.pass in
    due-deep all c.args.base p.from p.next p.depth p.left
    (due-first all c.args.base p c.requires.some c.requires.opened h)
    (λ z. c.if-word-eq0.false (c.word_at-word.ensures.word ∙ z)) c.if-pass-eq0.true

pub check_slot-returns-in-Some : goal.check_slot-returns-in-Some
check_slot-returns-in-Some g t c =
    let all = c.args.space.now in
    let p = c.args.pass in
    let opened = c.requires.opened in
    let s = c.requires.some in
    let before = opened.before in
    let fits = opened.fits in
    let ne = c.if-pass-eq0.false in
    let o : HasObject all p = record { some = s; opened = opened; deep = omega arith } in
    let room = segment-room (all ∷ []) 0 c.requires.message (omega arith) in
    let small : length all ≤ 2 ^ 29 = omega arith in
    let h = c.in-Some.ensures.found in
    let deep = not (nat_eq g.row.DEEP 0) in
    let go = goes-on all c.args.base deep p c.args.least.now c.lower.new.least s opened c.in-Some.progress
    (finds-empty all c.args.base deep p o small (sym c.word_at-word.ensures.word ∙ c.if-word-eq-EMPTY.true)
    c.in-Some.progress h.0 h.1 h.2 c.args.least.now c.lower.new.least c.lower.ensures) c.behind-in-Some.result
    c.behind-in-Some.ensures in
    let left = behind-reads p c.in-Some.progress c.behind-in-Some.result s c.behind-in-Some.ensures in
    let read = c.word_at-word.ensures.reads in
    let pays = h.1 in
    let depth = ap (λ (x : Pass). x.depth) c.behind-in-Some.ensures in
    record { found = go.found; low = omega (arith, depth); only = go.only; reads = omega arith; most = omega arith }

pub check_slot-returns-in-None-clause-only : goal.check_slot-returns-in-None-clause-only
check_slot-returns-in-None-clause-only g t c h =
    let all = c.args.space.now in
    let p = c.args.pass in
    let s = c.requires.some in
    let before = c.requires.opened.before in
    let fits = c.requires.opened.fits in
    let ne = c.if-pass-eq0.false in
    let first = due-first all c.args.base p s c.requires.opened h in
    let named = names-empty all p.from (sym c.word_at-word.ensures.word ∙ c.if-word-eq-EMPTY.true) (omega arith) in
    let cheap = (due-price all c.args.base p.from p.next p.depth p.left first p.from (shapes.Node 0 0) named
    (omega arith)).0 in
    let e = c.in-None.ensures.only (omega arith) in
    absurd (cc)

pub check_slot-returns-clause-only : goal.check_slot-returns-clause-only
check_slot-returns-clause-only g t c h =
    let all = c.args.space.now in
    let p = c.args.pass in
    let s = c.requires.some in
    let before = c.requires.opened.before in
    let fits = c.requires.opened.fits in
    let room = segment-room (all ∷ []) 0 c.requires.message (omega arith) in
    let near = due-near all c.args.base p.from p.next p.depth p.left (due-first all c.args.base p s c.requires.opened h)
    (omega arith) (omega arith) (λ z. c.if-word-eq0.false (c.word_at-word.ensures.word ∙ z)) in
    let e = c.word_at-word.ensures.word in
    let m = ap (λ (x : ℕ). x % 2 ^ 32) e in
    elim near as (λ _. ⊥) [
      | inl x ↦ c.if-word-eq-EMPTY.false (e ∙ x)
      | inr y ↦ elim y as (λ _. ⊥) [ inl u ↦ c.if-low-near.false (m ∙ u) | inr u ↦ c.if-low-near-2.false (m ∙ u) ]
    ]

pub check_slot-returns-then-low-near-clause-reads : goal.check_slot-returns-then-low-near-clause-reads
check_slot-returns-then-low-near-clause-reads g t c =
    let read = c.word_at-word.ensures.reads in
    if-some c.check_struct.result (λ r h. omega arith) c.check_struct.ensures.reads

pub check_slot-returns-then-low-near-2-clause-reads : goal.check_slot-returns-then-low-near-2-clause-reads
check_slot-returns-then-low-near-2-clause-reads g t c =
    let read = c.word_at-word.ensures.reads in
    if-some c.check_list.result (λ r h. omega arith) c.check_list.ensures.reads

-- ---- a struct

pub check_struct-returns-in-None-clause-only : goal.check_struct-returns-in-None-clause-only
check_struct-returns-in-None-clause-only g t c nz h = c.in-None.ensures.only nz
    (due-first c.args.space.now c.args.base c.args.pass c.requires.object.some c.requires.object.opened h)

pub check_struct-returns-in-Some : goal.check_struct-returns-in-Some
check_struct-returns-in-Some g t c =
    let some = c.requires.object.some in
    let open_reads = c.in-Some.ensures.reads in
    let most_reads = c.check_below.ensures.most in
    record {
      found = c.check_below.ensures.found;
      low = c.check_below.ensures.low;
      only = λ nz h. c.check_below.ensures.only
          (c.in-Some.ensures.only nz
          (due-first c.args.space.now c.args.base c.args.pass c.requires.object.some c.requires.object.opened h)) h;
      reads = if-some c.check_below.result (λ r h. omega arith) c.check_below.ensures.reads;
      most = omega arith;
    }

-- ---- the slots of an object

pub check_below-returns-then-pass : goal.check_below-returns-then-pass
check_below-returns-then-pass g t c = record {
  found = (
    c.requires.later,
    c.requires.opened,
    (λ q low f. last-leads c.args.space.now c.args.base (not (nat_eq g.row.DEEP 0)) c.args.pass c.args.least.now
        c.if-pass.true c.requires.object.opened q low
        (c.requires.named (not (nat_eq g.row.DEEP 0)) c.args.least.now c.lower.new.least q low c.lower.ensures f)),
  );
  low = let deeper = c.requires.deeper in omega arith;
  only = λ d h. d;
  reads = let some = c.requires.object.some in omega arith;
  most = omega arith;
}

pub check_below-returns-in-None-clause-only : goal.check_below-returns-in-None-clause-only
check_below-returns-in-None-clause-only g t c d h =
    let e = c.in-None.ensures.only d in
    absurd (cc)

pub check_below-returns-in-Some : goal.check_below-returns-in-Some
check_below-returns-in-Some g t c =
    let q = c.in-Some.progress in
    let o = c.requires.object in
    let deep = not (nat_eq g.row.DEEP 0) in
    let low = c.check_first.new.least in
    let go = goes-on c.args.space.now c.args.base deep c.args.pass c.args.least.now low o.some o.opened q
    (c.requires.named deep c.args.least.now c.lower.new.least q low c.lower.ensures c.in-Some.ensures.found)
    c.behind.result c.behind.ensures in
    let left = behind-reads c.args.pass q c.behind.result o.some c.behind.ensures in
    let first_reads = c.in-Some.ensures.reads in
    let depth = ap (λ (x : Pass). x.depth) c.behind.ensures in
    record {
      found = go.found;
      low = omega (arith, depth);
      only = λ d. go.only;
      reads = omega arith;
      most = omega arith;
    }

pub check_first-returns-then-pass : goal.check_first-returns-then-pass
check_first-returns-then-pass g t c =
    let b = c.args.pass in
    let deep = not (nat_eq g.row.DEEP 0) in
    let le = c.if-pass.true in
    let found = finds-none c.args.space.now c.args.base deep b c.args.least.now (omega arith) c.requires.opened in
    record {
      found = subst (λ (q : Progress). Finds c.args.space.now c.args.base deep b c.args.least.now q c.args.least.now)
          (sym c.here.ensures) found;
      only = λ h. refl;
      reads = let rest = ap (λ (q : Progress). q.left) c.here.ensures in omega arith;
      most = omega arith;
    }

pub check_first-returns : goal.check_first-returns
check_first-returns g t c = rw c.again.ensures at c.check_object.ensures

-- ---- a list

pub check_list-returns-in-Some : goal.check_list-returns-in-Some
check_list-returns-in-Some g t c =
    let some = c.requires.object.some in
    let open_reads = c.in-Some.ensures.reads in
    let most_reads = c.check_below.ensures.most in
    record {
      found = c.check_below.ensures.found;
      low = c.check_below.ensures.low;
      only = λ h. c.check_below.ensures.only
          (c.in-Some.ensures.only
          (due-first c.args.space.now c.args.base c.args.pass c.requires.object.some c.requires.object.opened h)) h;
      reads = if-some c.check_below.result (λ r h. omega arith) c.check_below.ensures.reads;
      most = omega arith;
    }

pub check_list-returns-in-None-clause-only : goal.check_list-returns-in-None-clause-only
check_list-returns-in-None-clause-only g t c h = c.in-None.ensures.only
    (due-first c.args.space.now c.args.base c.args.pass c.requires.object.some c.requires.object.opened h)

pub check_list-returns-in-Some-check_composite : goal.check_list-returns-in-Some-check_composite
check_list-returns-in-Some-check_composite g t c =
    let o = c.requires.object in
    let go = goes-on c.args.space.now c.args.base (not (nat_eq g.row.DEEP 0)) c.args.pass c.args.least.now
    c.check_composite.new.least o.some o.opened c.in-Some-check_composite.progress
    c.in-Some-check_composite.ensures.found c.behind.result c.behind.ensures in
    let some = o.some in
    let left = behind-reads c.args.pass c.in-Some-check_composite.progress c.behind.result o.some c.behind.ensures in
    let list_reads = c.in-Some-check_composite.ensures.reads in
    let depth = ap (λ (x : Pass). x.depth) c.behind.ensures in
    record { found = go.found; low = omega (arith, depth); only = go.only; reads = omega arith; most = omega arith }

pub check_list-returns-in-Some-check_numbers : goal.check_list-returns-in-Some-check_numbers
check_list-returns-in-Some-check_numbers g t c =
    let o = c.requires.object in
    let deep = not (nat_eq g.row.DEEP 0) in
    let least = c.args.least.now in
    let low = c.lower.new.least in
    let go = goes-on c.args.space.now c.args.base deep c.args.pass least low o.some o.opened
    c.in-Some-check_numbers.progress
    (c.in-Some-check_numbers.ensures.found deep least low c.lower.ensures) c.behind-in-Some-check_numbers.result
    c.behind-in-Some-check_numbers.ensures in
    let some = o.some in
    let left = behind-reads c.args.pass c.in-Some-check_numbers.progress c.behind-in-Some-check_numbers.result o.some
    c.behind-in-Some-check_numbers.ensures in
    let list_reads = c.in-Some-check_numbers.ensures.reads in
    let pays = c.in-Some-check_numbers.ensures.pays in
    let depth = ap (λ (x : Pass). x.depth) c.behind-in-Some-check_numbers.ensures in
    record { found = go.found; low = omega (arith, depth); only = go.only; reads = omega arith; most = omega arith }

pub check_list-returns-in-None-check_composite-clause-only : goal.check_list-returns-in-None-check_composite-clause-only
check_list-returns-in-None-check_composite-clause-only g t c h =
    let e = c.in-None-check_composite.ensures.only
    (due-first c.args.space.now c.args.base c.args.pass c.requires.object.some c.requires.object.opened h) in
    absurd (cc)

pub check_list-returns-in-None-check_numbers-clause-only : goal.check_list-returns-in-None-check_numbers-clause-only
check_list-returns-in-None-check_numbers-clause-only g t c h =
    let e = c.in-None-check_numbers.ensures.only
    (due-first c.args.space.now c.args.base c.args.pass c.requires.object.some c.requires.object.opened h) in
    absurd (cc)

-- ---- the slots of rows

pub check_rows-loop-i-preserved : goal.check_rows-loop-i-preserved
check_rows-loop-i-preserved g t c =
    let all = c.args.space in
    let a = c.args in
    let b = c.args.base in
    let i = c.loop-i.i in
    let v = c.loop-i.invariant in
    let lt = c.loop-i-test.true in
    let order = v.order in
    let before = c.requires.opened.before in
    let fits = c.requires.opened.fits in
    let inside = row-inside a.pass.from a.count i (a.words + a.slots) c.loop-i.row a.pass.end lt v.place
    (let e = c.requires.inside in omega arith) in
    let e : c.loop-i.row + a.words + a.slots - (c.loop-i.row + a.words) ≡ a.slots = omega arith in
    let deep = not (nat_eq g.row.DEEP 0) in
    let least = c.loop-i.least in
    let here = c.check_slots.new.least in
    let found : FindsSlots all b deep (c.loop-i.row + a.words) a.slots c.loop-i.progress.next a.pass.depth
    c.loop-i.progress.left c.loop-i.progress.visits least c.in-Some.behind here =
    subst (λ (k : ℕ). FindsSlots all b deep (c.loop-i.row + a.words) k c.loop-i.progress.next a.pass.depth
    c.loop-i.progress.left c.loop-i.progress.visits least c.in-Some.behind here) e c.in-Some.ensures.found in
    let next_is = found.comes.next_is in
    let one : suc (a.count - (i + 1)) ≡ a.count - i = omega arith in
    record {
      place = let d : (i + 1) * (a.words + a.slots) ≡ i * (a.words + a.slots) + (a.words + a.slots) = omega arith in
          let p = v.place in omega arith;
      order = omega arith;
      fits = found.comes.fits;
      few = found.comes.few;
      leads = λ q low f. v.leads q low
          (subst (λ (k : ℕ). FindsRows all b deep a.words a.slots c.loop-i.row k c.loop-i.progress.next a.pass.depth
          c.loop-i.progress.left c.loop-i.progress.visits least q low) one
          (finds-row all b deep a.words a.slots c.loop-i.row (a.count - (i + 1)) a.pass.depth c.loop-i.progress.next
          c.loop-i.progress.left c.loop-i.progress.visits least c.in-Some.behind here q low (omega arith) found f));
      due = λ h. subst (λ (k : ℕ). DueRows all b a.words a.slots (c.loop-i.row + a.words + a.slots) k
          c.in-Some.behind.next a.pass.depth c.in-Some.behind.left) (omega arith)
          (rows-due all b a.words a.slots c.loop-i.row (a.count - i) c.loop-i.progress.next a.pass.depth
          c.loop-i.progress.left (v.due h) (omega arith) c.loop-i.progress.visits c.in-Some.behind found);
      reads =
          let rest = ap (λ (k : ℕ). k * a.slots) one in
          let before = v.reads in
          let turn = c.tick.ensures in
          let row = c.in-Some.ensures.reads in
          let some = c.requires.some in
          omega arith;
    }

pub check_rows-returns-in-None : goal.check_rows-returns-in-None
check_rows-returns-in-None g t c =
    let all = c.args.space in
    let a = c.args in
    let i = c.loop-i.i in
    let lt = c.loop-i-test.true in
    let v = c.loop-i.invariant in
    let e : a.slots ≡ c.loop-i.row + a.words + a.slots - (c.loop-i.row + a.words) = omega arith in
    let one : suc (a.count - (i + 1)) ≡ a.count - i = omega arith in
    record {
      found = tt;
      only = λ h.
          let f = c.in-None.ensures.only
          (subst (λ (k : ℕ). DueSlots all a.base (c.loop-i.row + a.words) k c.loop-i.progress.next a.pass.depth
          c.loop-i.progress.left) e
          (row-due all a.base a.words a.slots c.loop-i.row (a.count - i) c.loop-i.progress.next a.pass.depth
          c.loop-i.progress.left (v.due h) (omega arith))) in
          absurd (cc);
      reads = tt;
      most =
          let rest = ap (λ (k : ℕ). k * a.slots) one in
          let before = v.reads in
          let turn = c.tick.ensures in
          let row = c.in-None.ensures.most in
          let some = c.requires.some in
          omega arith;
    }

pub check_rows-returns : goal.check_rows-returns
check_rows-returns g t c =
    let all = c.args.space in
    let a = c.args in
    let v = c.loop-i.invariant in
    let q = c.loop-i.progress in
    let low = c.loop-i.least in
    let deep = not (nat_eq g.row.DEEP 0) in
    let le = c.loop-i-test.false in
    let e : 0 ≡ a.count - c.loop-i.i = omega arith in
    record {
      found = v.leads q low
          (subst (λ (k : ℕ). FindsRows all a.base deep a.words a.slots c.loop-i.row k q.next a.pass.depth q.left
          q.visits low q low) e
          (finds-no-rows all a.base deep a.words a.slots c.loop-i.row a.pass.depth low q v.fits v.few));
      only = λ h. refl;
      reads = let turns = v.reads in omega arith;
      most = let turns = v.reads in omega arith;
    }

-- ---- a list of structs

pub check_composite-returns-then-tag-eq0 : goal.check_composite-returns-then-tag-eq0
check_composite-returns-then-tag-eq0 g t c =
    let all = c.args.space.now in
    let b = c.args.base in
    let r = c.in-Some.opened in
    let e = rw c.again.ensures at c.in-Some.ensures.found in
    let open_of = e.1 in
    let before = open_of.before in
    let fits = open_of.fits in
    let inside = e.2 in
    let none = c.if-tag-eq0.true in
    let each : r.tag.count * (r.tag.words + r.tag.slots) ≡ r.tag.count * r.tag.words =
    ap (λ (k : ℕ). r.tag.count * k) (omega arith) in
    let deep = not (nat_eq g.row.DEEP 0) in
    let least = c.args.least.now in
    let low = c.lower.new.least in
    record {
      found = subst (λ (q : Progress). FindsFirst all b deep c.args.pass least q low) (sym c.here.ensures)
          (e.3 deep least low (come r.pass) low c.lower.ensures
          (finds-bare-rows all b deep r.tag.words r.tag.slots r.pass.from r.tag.count r.pass.depth low (come r.pass)
          none (omega arith) fits open_of.few));
      only = λ h. refl;
      reads =
          let rest = ap (λ (q : Progress). q.left) c.here.ensures in
          let open_reads = c.in-Some.ensures.reads in
          omega arith;
      most = let open_reads = c.in-Some.ensures.most in omega arith;
    }

pub check_composite-returns-else-tag-eq0 : goal.check_composite-returns-else-tag-eq0
check_composite-returns-else-tag-eq0 g t c =
    let open_reads = c.in-Some.ensures.reads in
    let row_reads = c.check_rows.ensures.most in
    let opened = rw c.again.ensures at c.in-Some.ensures.found in
    let due = rw c.again.ensures at c.in-Some.ensures.only in
    let rows = rw c.again-in-Some.ensures at c.check_rows.ensures.found in
    let rows_due = rw c.again-in-Some.ensures at c.check_rows.ensures.only in
    record {
      found = if-some c.check_rows.result
          (λ q. opened.3 (not (nat_eq g.row.DEEP 0)) c.args.least.now c.lower.new.least q c.check_rows.new.least
          c.lower.ensures) rows;
      only = λ h. rows_due (due h);
      reads = if-some c.check_rows.result (λ q h. omega arith) c.check_rows.ensures.reads;
      most = omega arith;
    }

pub check_composite-returns-in-None : goal.check_composite-returns-in-None
check_composite-returns-in-None g t c =
    let due = rw c.again.ensures at c.in-None.ensures.only in
    let read = c.in-None.ensures.most in
    record { found = tt; only = λ h. absurd (due h); reads = tt; most = omega arith }
