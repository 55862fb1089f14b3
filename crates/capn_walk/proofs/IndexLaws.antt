-- `IsReadable` is true of each entry of the index of an accepted message. (For `indexes`.)
use Rattle.std.proofs.Common.{◌≡◌, ◌⊎◌, inl, inr, ℕ, zero, suc, ◌+◌, ◌-◌, ◌*◌, ◌<◌, ◌≤◌, List, [], ◌∷◌, ◌++◌}
use Rattle.std.proofs.Common.{length, get_or, map}
use Rattle.std.proofs.Common.{Result, Ok, Err, refl, ap, ap₂, sym, subst, ◌∙◌, arith, length-append}
use Rattle.std.specs.Bool.{⊤}
use Rattle.std.proofs.lemmas.List.{get_or_append_left, get_or-append-add, map-append}
use Rattle.capn_words.specs.declared.space.Place.{Place}
use Rattle.capn_words.specs.Message.{segment_at, IsPlace}
use Rattle.capn_words.specs.declared.pointer.Width.TheVariants.{W0, W1, W8, W16, W32, W64, Link, Rows}
use Rattle.capn_value.specs.Cost.{base}
use Rattle.capn_walk.specs.declared.entry.Entry.{Entry}
use Rattle.capn_target.specs.declared.target.Target.{Target}
use Rattle.capn_target.specs.declared.target.Target.TheVariants as targets
use Rattle.capn_target.specs.declared.target.Shape.TheVariants as shapes
use Rattle.capn_target.specs.declared.target.Fault.{Fault}
use Rattle.capn_target.specs.Target.{target}
use Rattle.capn_walk.specs.Visits.{Visit, pays, price, places, row_places, visits, visits_of}
use Rattle.capn_walk.specs.Accepted.{AllPay, root, visits_at_root, root_visits, IsAccepted}
use Rattle.capn_walk.specs.View.{slots_below}
use Rattle.capn_target.specs.Shapes.{IsInMessage}
use Rattle.capn_walk.specs.Limits.{Bounds}
use Rattle.capn_walk.specs.Index.{entry_of, entry_target, kept, kept_of, entered, entries, entries_of, index_of}
use Rattle.capn_walk.specs.Index.{entry_at, beside, IndexesAreReadable}
use Rattle.capn_walk.specs.Index.{place_of, IndexesFollowVisits}
use Rattle.capn_walk.proofs.shared.Costs.{all-front, all-back}
use Rattle.capn_walk.proofs.shared.Walks.{visits-null, visits-cap, visits-fault, visits-deep, visits-object}
use Rattle.capn_walk.proofs.FilledRoom.{entries-leaf, entries-object}
use Rattle.capn_walk.proofs.Answering.{all-at_root}
use Rattle.capn_target.proofs.shared.Inside.{found-inside}

-- ---- the target that an entry describes

keeps : (t : Target) (n : ℕ) → entry_target (entry_of t n) ≡ kept t
keeps targets.Nil n = refl
keeps (targets.Cap k) n = refl
keeps (targets.Content s start (shapes.Node a b) pads) n = refl
keeps (targets.Content s start (shapes.Many W0 c) pads) n = refl
keeps (targets.Content s start (shapes.Many W1 c) pads) n = refl
keeps (targets.Content s start (shapes.Many W8 c) pads) n = refl
keeps (targets.Content s start (shapes.Many W16 c) pads) n = refl
keeps (targets.Content s start (shapes.Many W32 c) pads) n = refl
keeps (targets.Content s start (shapes.Many W64 c) pads) n = refl
keeps (targets.Content s start (shapes.Many Link c) pads) n = refl
keeps (targets.Content s start (shapes.Many Rows c) pads) n = refl
keeps (targets.Content s start (shapes.Rows c a b span) pads) n = refl

spans : (t : Target) (n : ℕ) → (entry_of t n).span ≡ n
spans targets.Nil n = refl
spans (targets.Cap k) n = refl
spans (targets.Content s start (shapes.Node a b) pads) n = refl
spans (targets.Content s start (shapes.Many width c) pads) n = refl
spans (targets.Content s start (shapes.Rows c a b span) pads) n = refl

no-row-places : (s w c : ℕ) → row_places s w 0 0 c ≡ []
no-row-places s w zero = refl
no-row-places s w (suc c) = no-row-places s (w + 0 + 0) c

slots-kept : (t : Target) → slots_below (kept t) ≡ slots_below t
slots-kept targets.Nil = refl
slots-kept (targets.Cap k) = refl
slots-kept (targets.Content s start (shapes.Node a b) pads) = refl
slots-kept (targets.Content s start (shapes.Many W0 c) pads) = refl
slots-kept (targets.Content s start (shapes.Many W1 c) pads) = refl
slots-kept (targets.Content s start (shapes.Many W8 c) pads) = refl
slots-kept (targets.Content s start (shapes.Many W16 c) pads) = refl
slots-kept (targets.Content s start (shapes.Many W32 c) pads) = refl
slots-kept (targets.Content s start (shapes.Many W64 c) pads) = refl
slots-kept (targets.Content s start (shapes.Many Link c) pads) = refl
slots-kept (targets.Content s start (shapes.Many Rows c) pads) = no-row-places s (start + 1) c
slots-kept (targets.Content s start (shapes.Rows c a b span) pads) = refl

inside-kept : (m : List (List ℕ)) (t : Target) → IsInMessage m t → IsInMessage m (kept t)
inside-kept m targets.Nil h = tt
inside-kept m (targets.Cap k) h = tt
inside-kept m (targets.Content s start (shapes.Node a b) pads) h = h
inside-kept m (targets.Content s start (shapes.Many W0 c) pads) h = h
inside-kept m (targets.Content s start (shapes.Many W1 c) pads) h = h
inside-kept m (targets.Content s start (shapes.Many W8 c) pads) h = h
inside-kept m (targets.Content s start (shapes.Many W16 c) pads) h = h
inside-kept m (targets.Content s start (shapes.Many W32 c) pads) h = h
inside-kept m (targets.Content s start (shapes.Many W64 c) pads) h = h
inside-kept m (targets.Content s start (shapes.Many Link c) pads) h = h
inside-kept m (targets.Content s start (shapes.Many Rows c) pads) h = absurd h.1
inside-kept m (targets.Content s start (shapes.Rows c a b span) pads) h =
    let i = h.0.within in
    let j = h.1 in
    (record { exists = h.0.exists; within = omega arith }, omega arith)

next-or : (k a : ℕ) → (k < a) ⊎ (a ≤ k) → (suc k < suc a) ⊎ (suc a ≤ suc k)
next-or k a (inl h) = inl (omega arith)
next-or k a (inr h) = inr (omega arith)

below-or : (k a : ℕ) → (k < a) ⊎ (a ≤ k)
below-or k zero = inr (omega arith)
below-or zero (suc a) = inl (omega arith)
below-or (suc k) (suc a) = next-or k a (below-or k a)

-- ---- slots are inside a segment

module _ (m : List (List ℕ)) where
  abbrev pub AllPlaces : List Place → Type 0
  AllPlaces [] = ⊤
  AllPlaces (p ∷ ps) = IsPlace m p × AllPlaces ps

  all-append : (ps qs : List Place) → AllPlaces ps → AllPlaces qs → AllPlaces (ps ++ qs)
  all-append [] qs a b = b
  all-append (p ∷ ps) qs a b = (a.0, all-append ps qs a.1 b)

  in-places : (s w n : ℕ) → w + n ≤ length (segment_at m s) → AllPlaces (places s w n)
  in-places s w zero h = tt
  in-places s w (suc n) h = (omega arith, in-places s (w + 1) n (omega arith))

  in-rows : (s w a b n : ℕ) → w + n * (a + b) ≤ length (segment_at m s) → AllPlaces (row_places s w a b n)
  in-rows s w a b zero h = tt
  in-rows s w a b (suc n) h =
      let e : suc n * (a + b) ≡ a + b + n * (a + b) = omega arith in
      all-append (places s (w + a) b) (row_places s (w + a + b) a b n) (in-places s (w + a) b (omega arith))
      (in-rows s (w + a + b) a b n (omega arith))

  pub in-slots : (t : Target) → IsInMessage m t → AllPlaces (slots_below t)
  in-slots targets.Nil h = tt
  in-slots (targets.Cap k) h = tt
  in-slots (targets.Content s start (shapes.Node a b) pads) h =
      let i = h.0.within in in-places s (start + a) b (omega arith)
  in-slots (targets.Content s start (shapes.Many W0 n) pads) h = tt
  in-slots (targets.Content s start (shapes.Many W1 n) pads) h = tt
  in-slots (targets.Content s start (shapes.Many W8 n) pads) h = tt
  in-slots (targets.Content s start (shapes.Many W16 n) pads) h = tt
  in-slots (targets.Content s start (shapes.Many W32 n) pads) h = tt
  in-slots (targets.Content s start (shapes.Many W64 n) pads) h = tt
  in-slots (targets.Content s start (shapes.Many Link n) pads) h =
      let i = h.0.within in in-places s start n (omega arith)
  in-slots (targets.Content s start (shapes.Many Rows n) pads) h = tt
  in-slots (targets.Content s start (shapes.Rows n a b span) pads) h =
      let i = h.0.within in
      let j = h.1 in
      in-rows s (start + 1) a b n (omega arith)

  -- ---- the consequences of a visit that pays

  module _ (base : ℕ) (at : Place) where
    -- the slot at `at` has a target, entries and a price, and all visits of the slots below it pay
    record Paid (d : ℕ) : Type 0 where
      t : Target
      is : target m at ≡ Ok t
      entries : entries m d at ≡ entered t (entries_of m (d - 1) (slots_below t))
      below : AllPay (visits_of m base (d - 1) (slots_below t))
      cost : ℕ
      visits : visits m base d at ≡ pays at cost ∷ visits_of m base (d - 1) (slots_below t)
      last : d ≡ 0 → slots_below t ≡ []

    paid-by : (d : ℕ) (r : Result Target Fault) → target m at ≡ r → AllPay (visits m base d at) → Paid d
    paid-by d (Ok targets.Nil) e h =
        record {
          t = targets.Nil;
          is = e;
          entries = entries-leaf m d at targets.Nil e refl;
          below = tt;
          cost = 0;
          visits = visits-null m base at d e;
          last = λ z. refl;
        }
    paid-by d (Ok (targets.Cap k)) e h =
        record {
          t = targets.Cap k;
          is = e;
          entries = entries-leaf m d at (targets.Cap k) e refl;
          below = tt;
          cost = 0;
          visits = visits-cap m base at d k e;
          last = λ z. refl;
        }
    paid-by zero (Ok (targets.Content s start shape pads)) e h =
        let f = rw (visits-deep m base at s start pads shape e 0 refl) at h in
        absurd f
    paid-by (suc d) (Ok (targets.Content s start shape pads)) e h =
        let o = visits-object m base at s start pads shape e (suc d) (omega arith) in
        let f = rw o at h in
        record {
          t = targets.Content s start shape pads;
          is = e;
          entries = entries-object m (suc d) at (targets.Content s start shape pads) e (omega arith);
          below = f;
          cost = price base shape + pads;
          visits = o;
          last = λ z. absurd (omega arith);
        }
    paid-by d (Err x) e h = let f = rw (visits-fault m base at d x e) at h in absurd f

    paid-here : (d : ℕ) → AllPay (visits m base d at) → Paid d
    paid-here d h = paid-by d (target m at) refl h

  -- ---- entries of the message's index `all`, from entry `i` on

  module _ (all : List Entry) where
    abbrev Stands : ℕ → List Entry → Type 0
    Stands i es = (k : ℕ) → k < length es → entry_at all (i + k) ≡ entry_at es k

    stands-front : (i : ℕ) (xs ys : List Entry) → Stands i (xs ++ ys) → Stands i xs
    stands-front i xs ys h k l =
        let n = length-append xs ys in
        h k (omega arith) ∙ get_or_append_left xs ys _ k l

    stands-back : (i : ℕ) (xs ys : List Entry) → Stands i (xs ++ ys) → Stands (i + length xs) ys
    stands-back i xs ys h k l =
        let n = length-append xs ys in
        let e : i + length xs + k ≡ i + (length xs + k) = omega arith in
        ap (entry_at all) e ∙ h (length xs + k) (omega arith) ∙ get_or-append-add xs ys k _

    -- `IsReadable` is true of entry `i` of `all`, which has the target `t` and the span `n`, if `all` ends after `end`
    -- entries
    record ReadsBy (t : Target) (n end i : ℕ) : Type 0 where
      inside : IsInMessage m t
      below : (j : ℕ) → j < length (slots_below t) → (beside all (i + 1) j < i + n)
          × (kept_of (target m (get_or (slots_below t) j root))
          ≡ Ok (entry_target (entry_at all (beside all (i + 1) j))))
      span : beside all (i + 1) (length (slots_below t)) ≡ i + n
      within : i + n ≤ end

    abbrev Reads : ℕ → ℕ → Type 0
    Reads end i = ReadsBy (entry_target (entry_at all i)) (entry_at all i).span end i

    reads-on : (a b i : ℕ) → a ≤ b → Reads a i → Reads b i
    reads-on a b i h r = record {
      inside = r.inside;
      below = r.below;
      span = r.span;
      within = let w = r.within in omega arith;
    }

    -- the `n` entries from index `i` on are the entries of the slot at `at` and of all slots below it
    record Slot (at : Place) (i n : ℕ) : Type 0 where
      is : kept_of (target m at) ≡ Ok (entry_target (entry_at all i))
      span : (entry_at all i).span ≡ n
      some : 0 < n
      each : (k : ℕ) → k < n → Reads (i + n) (i + k)

    -- the `n` entries from index `i` on are the entries of the slots at `ps` and of all slots below them
    record Slots (ps : List Place) (i n : ℕ) : Type 0 where
      below : (j : ℕ) → j < length ps → (beside all i j < i + n)
          × (kept_of (target m (get_or ps j root)) ≡ Ok (entry_target (entry_at all (beside all i j))))
      span : beside all i (length ps) ≡ i + n
      each : (k : ℕ) → k < n → Reads (i + n) (i + k)

    module _ (base d : ℕ)
        (slot : (at : Place) (i : ℕ) → IsPlace m at → AllPay (visits m base d at) → Stands i (entries m d at)
        → Slot at i (length (entries m d at))) where
      of-slots : (ps : List Place) (i : ℕ) → AllPlaces ps → AllPay (visits_of m base d ps)
          → Stands i (entries_of m d ps) → Slots ps i (length (entries_of m d ps))
      of-slots [] i a h s = record {
        below = λ j l. absurd (omega arith);
        span = omega arith;
        each = λ k l. absurd (omega arith);
      }
      of-slots (p ∷ ps) i a h s =
          let here = entries m d p in
          let rest = entries_of m d ps in
          let n = length-append here rest in
          let one = slot p i a.0 (all-front (visits m base d p) (visits_of m base d ps) h)
          (stands-front i here rest s) in
          let more = of-slots ps (i + length here) a.1 (all-back (visits m base d p) (visits_of m base d ps) h)
          (stands-back i here rest s) in
          let on : i + (entry_at all i).span ≡ i + length here = ap (λ (k : ℕ). i + k) one.span in
          let total : i + length (here ++ rest) ≡ i + length here + length rest = omega arith in
          record {
            below = λ j. below-by p ps i (length here) (length (here ++ rest)) (length rest) n one.is one.some on
                more.below j;
            span = ap (λ (k : ℕ). beside all k (length ps)) on ∙ more.span ∙ sym total;
            each = λ k. each-by i (length here) (length (here ++ rest)) (length rest) n one.each more.each k;
          }
        where
          below-by : (p : Place) (ps : List Place) (i a n b : ℕ) → n ≡ a + b
              → kept_of (target m p) ≡ Ok (entry_target (entry_at all i)) → 0 < a → i + (entry_at all i).span ≡ i + a
              → ((j : ℕ) → j < length ps → (beside all (i + a) j < i + a + b)
              × (kept_of (target m (get_or ps j root)) ≡ Ok (entry_target (entry_at all (beside all (i + a) j)))))
              → (j : ℕ) → j < length (p ∷ ps) → (beside all i j < i + n)
              × (kept_of (target m (get_or (p ∷ ps) j root)) ≡ Ok (entry_target (entry_at all (beside all i j))))
          below-by p ps i a n b e is some on more zero l = (omega arith, is)
          below-by p ps i a n b e is some on more (suc j) l =
              let r = more j (omega arith) in
              let x = r.0 in
              let same = ap (λ (k : ℕ). beside all k j) on in
              (omega arith, r.1 ∙ ap (λ (k : ℕ). Ok (entry_target (entry_at all k))) (sym same))

          each-or : (i a n b : ℕ) → n ≡ a + b → ((k : ℕ) → k < a → Reads (i + a) (i + k))
              → ((k : ℕ) → k < b → Reads (i + a + b) (i + a + k)) → (k : ℕ) → k < n → (k < a) ⊎ (a ≤ k)
              → Reads (i + n) (i + k)
          each-or i a n b e one more k l (inl h) = reads-on (i + a) (i + n) (i + k) (omega arith) (one k h)
          each-or i a n b e one more k l (inr h) =
              let x : i + a + (k - a) ≡ i + k = omega arith in
              let y : i + a + b ≡ i + n = omega arith in
              subst (λ (z : ℕ). Reads z (i + k)) y
              (subst (λ (z : ℕ). Reads (i + a + b) z) x (more (k - a) (omega arith)))

          each-by : (i a n b : ℕ) → n ≡ a + b → ((k : ℕ) → k < a → Reads (i + a) (i + k))
              → ((k : ℕ) → k < b → Reads (i + a + b) (i + a + k)) → (k : ℕ) → k < n → Reads (i + n) (i + k)
          each-by i a n b e one more k l = each-or i a n b e one more k l (below-or k a)

    -- Case: entry `i` has the target `t`, and the entries of the slots below `t` follow.
    module _ (i n : ℕ) (t : Target) (is : entry_at all i ≡ entry_of t (1 + n)) (inside : IsInMessage m t)
        (s : Slots (slots_below t) (i + 1) n) where
      reads-here : Reads (i + suc n) i
      reads-here =
          let e : i + 1 + n ≡ i + (1 + n) = omega arith in
          let q = subst (λ (ps : List Place). Slots ps (i + 1) n) (sym (slots-kept t)) s in
          let b = q.below in
          let found = sym (keeps t (1 + n)) ∙ ap entry_target (sym is) in
          let span = sym (spans t (1 + n)) ∙ ap (λ (x : Entry). x.span) (sym is) in
          let here : ReadsBy (kept t) (1 + n) (i + suc n) i = record {
            inside = inside-kept m t inside;
            below = λ j l. let r = b j l in let x = r.0 in (omega arith, r.1);
            span = q.span ∙ e;
            within = omega arith;
          } in
          subst (λ (x : Target). ReadsBy x (entry_at all i).span (i + suc n) i) found
          (subst (λ (k : ℕ). ReadsBy (kept t) k (i + suc n) i) span here)

      reads-each : (k : ℕ) → k < suc n → Reads (i + suc n) (i + k)
      reads-each zero l = let z : i ≡ i + 0 = omega arith in subst (Reads (i + suc n)) z reads-here
      reads-each (suc k) l =
          let x : i + 1 + k ≡ i + suc k = omega arith in
          let y : i + 1 + n ≡ i + suc n = omega arith in
          subst (λ (z : ℕ). Reads z (i + suc k)) y (subst (λ (z : ℕ). Reads (i + 1 + n) z) x (s.each k (omega arith)))

      slot-of : (at : Place) (N : ℕ) → target m at ≡ Ok t → N ≡ suc n → Slot at i N
      slot-of at N e z = record {
        is = ap kept_of e ∙ ap Ok (sym (keeps t (1 + n)) ∙ ap entry_target (sym is));
        span = let a = ap (λ (x : Entry). x.span) is ∙ spans t (1 + n) in omega arith;
        some = omega arith;
        each = λ k l. subst (λ (b : ℕ). Reads (i + b) (i + k)) (sym z) (reads-each k (omega arith));
      }

    stands-first : (i : ℕ) (es below : List Entry) (t : Target) → es ≡ entered t below → Stands i es
        → (entry_at all i ≡ entry_of t (1 + length below)) × Stands (i + 1) below
    stands-first i es below t e s =
        let n = ap length e in
        let z : i ≡ i + 0 = omega arith in (
          ap (entry_at all) z ∙ s 0 (omega arith) ∙ ap (λ (xs : List Entry). entry_at xs 0) e,
          λ k l.
              let x : i + 1 + k ≡ i + suc k = omega arith in
              ap (entry_at all) x ∙ s (suc k) (omega arith) ∙ ap (λ (xs : List Entry). entry_at xs (suc k)) e,
        )

    slot-at : (base d : ℕ) (at : Place) (i : ℕ) → IsPlace m at → AllPay (visits m base d at) → Stands i (entries m d at)
        → Slot at i (length (entries m d at))
    slot-at base zero at i place h s =
        let p = paid-here base at 0 h in
        let t = p.t in
        let e = p.entries ∙ ap (λ (ps : List Place). entered p.t (entries_of m (0 - 1) ps)) (p.last refl) in
        let f = stands-first i (entries m 0 at) [] p.t e s in
        let none : Slots (slots_below p.t) (i + 1) 0 =
        subst (λ (ps : List Place). Slots ps (i + 1) 0) (sym (p.last refl)) (no-slots (i + 1)) in
        slot-of i 0 p.t f.0 (found-inside m at p.t place p.is) none at (length (entries m 0 at)) p.is (ap length e)
      where
        no-slots : (i : ℕ) → Slots [] i 0
        no-slots i = record {
          below = λ j l. absurd (omega arith);
          span = omega arith;
          each = λ k l. absurd (omega arith);
        }
    slot-at base (suc d) at i place h s =
        let p = paid-here base at (suc d) h in
        let z : suc d - 1 ≡ d = omega arith in
        let inside = found-inside m at p.t place p.is in
        let e = p.entries ∙ ap (λ (c : ℕ). entered p.t (entries_of m c (slots_below p.t))) z in
        let b = subst (λ (c : ℕ). AllPay (visits_of m base c (slots_below p.t))) z p.below in
        let f = stands-first i (entries m (suc d) at) (entries_of m d (slots_below p.t)) p.t e s in
        let ss = of-slots base d (slot-at base d) (slots_below p.t) (i + 1) (in-slots p.t inside) b f.1 in
        slot-of i (length (entries_of m d (slots_below p.t))) p.t f.0 inside ss at (length (entries m (suc d) at)) p.is
        (ap length e)

at-root : (m : List (List ℕ)) (limits : Bounds) → IsAccepted m limits
    → Slot m (index_of m limits) root 0 (length (index_of m limits))
at-root m limits a =
    let es = index_of m limits in
    slot-at m es (base limits.tariff) limits.depth root 0 a.some
    (all-at_root m (base limits.tariff) limits.depth a.within.all)
    (λ k l. ap (entry_at es) (let z : 0 + k ≡ k = omega arith in z))

pub not-empty : (m : List (List ℕ)) (limits : Bounds) → IsAccepted m limits → 0 < length (index_of m limits)
not-empty m limits a = (at-root m limits a).some

pub readable : IndexesAreReadable
readable m limits a =
    let es = index_of m limits in
    let s = at-root m limits a in (
      s.is,
      λ i l.
          let r = s.each i l in
          let z : 0 + i ≡ i = omega arith in
          let y : 0 + length es ≡ length es = omega arith in
          let q = rw (z, y) at r in
          record { inside = q.inside; below = q.below; span = q.span; within = q.within },
    )

-- ---- entries and visits, one for one

module _ (m : List (List ℕ)) (b : ℕ) where
  abbrev told : List Entry → List (Result Target Fault)
  told es = map (λ e. Ok (entry_target e)) es

  abbrev found : List Visit → List (Result Target Fault)
  found vs = map (λ v. kept_of (target m (place_of v))) vs

  in-order-slots : (d : ℕ) → ((at : Place) → AllPay (visits m b d at) → told (entries m d at) ≡ found (visits m b d at))
      → (ps : List Place) → AllPay (visits_of m b d ps) → told (entries_of m d ps) ≡ found (visits_of m b d ps)
  in-order-slots d h [] a = refl
  in-order-slots d h (p ∷ ps) a =
      map-append (λ (e : Entry). Ok (entry_target e)) (entries m d p) (entries_of m d ps)
      ∙ ap₂ (λ (x y : List (Result Target Fault)). x ++ y) (h p (all-front (visits m b d p) (visits_of m b d ps) a))
      (in-order-slots d h ps (all-back (visits m b d p) (visits_of m b d ps) a))
      ∙ sym (map-append (λ (v : Visit). kept_of (target m (place_of v))) (visits m b d p) (visits_of m b d ps))

  in-order-here : (d : ℕ) (at : Place) (p : Paid m b at d)
      → told (entries_of m (d - 1) (slots_below p.t)) ≡ found (visits_of m b (d - 1) (slots_below p.t))
      → told (entries m d at) ≡ found (visits m b d at)
  in-order-here d at p h =
      ap told p.entries ∙ ap₂ (λ (x : Result Target Fault) (y : List (Result Target Fault)). x ∷ y)
      (ap Ok (keeps p.t (1 + length (entries_of m (d - 1) (slots_below p.t)))) ∙ sym (ap kept_of p.is)) h
      ∙ sym (ap found p.visits)

  in-order : (d : ℕ) (at : Place) → AllPay (visits m b d at) → told (entries m d at) ≡ found (visits m b d at)
  in-order zero at h =
      let p = paid-here m b at 0 h in
      in-order-here 0 at p
      (subst (λ (ps : List Place). told (entries_of m (0 - 1) ps) ≡ found (visits_of m b (0 - 1) ps))
      (sym (p.last refl)) refl)
  in-order (suc d) at h =
      let p = paid-here m b at (suc d) h in
      let z : d ≡ suc d - 1 = omega arith in
      let below = subst (λ (c : ℕ). AllPay (visits_of m b c (slots_below p.t))) (sym z) p.below in
      in-order-here (suc d) at p
      (subst (λ (c : ℕ). told (entries_of m c (slots_below p.t)) ≡ found (visits_of m b c (slots_below p.t))) z
      (in-order-slots d (in-order d) (slots_below p.t) below))

  same-at-root : (r : Result Target Fault) (vs : List Visit) → AllPay (visits_at_root m b r vs)
      → visits_at_root m b r vs ≡ vs
  same-at-root (Ok targets.Nil) vs h = refl
  same-at-root (Ok (targets.Cap k)) vs h = absurd h
  same-at-root (Ok (targets.Content s start shape pads)) vs h = refl
  same-at-root (Err e) vs h = refl

  root-same : (d : ℕ) → AllPay (root_visits m b d) → root_visits m b d ≡ visits m b d root
  unfolding root_visits
  root-same d h = same-at-root (target m root) (visits m b d root) h

pub follows : IndexesFollowVisits
follows m limits a =
    let h = a.within.all in
    let b = base limits.tariff in
    in-order m b limits.depth root (all-at_root m b limits.depth h)
    ∙ sym (ap (found m b) (root-same m b limits.depth h))
