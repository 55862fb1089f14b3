-- The aim and the path after a search among visits. (For the cycle `seek`.)
use Rattle.std.proofs.Common.{◌≡◌, ℕ, zero, suc, ◌+◌, ◌-◌, ◌*◌, ◌<◌, List, [], ◌∷◌, ◌++◌, length, Option, Some, None}
use Rattle.std.proofs.Common.{take, Ok, Err, Result, refl, ap, sym, subst, ◌∙◌, arith, append_assoc, length-append}
use Rattle.std.proofs.lemmas.List.{append-nil}
use Rattle.std.proofs.Math.Seq.{take-append_seam}
use Rattle.std.specs.List.{flat_map}
use Rattle.std.proofs.lemmas.Grind.{flat_map-append}
use Rattle.capn_words.specs.declared.space.Place.{Place}
use Rattle.capn_target.specs.declared.target.Target.{Target}
use Rattle.capn_target.specs.declared.target.Target.TheVariants as targets
use Rattle.capn_target.specs.declared.target.Shape.{Shape}
use Rattle.capn_target.specs.declared.target.Fault.{Fault}
use Rattle.capn_target.specs.declared.target.Fault.TheVariants as faults
use Rattle.capn_target.specs.Target.{target}
use Rattle.capn_walk.specs.Visits.{Visit, pays, fails, price, places, row_places, slots, visits, visits_of}
use Rattle.capn_walk.proofs.shared.Walks.{slot, places-add, places-split, all-split}
use Rattle.capn_walk.proofs.shared.Walks.{visits-null, visits-cap, visits-fault, visits-deep, visits-object}
use Rattle.capn_path.specs.Finds.{IsPassed}
use Rattle.capn_path.specs.Steps.{AreNumbers, AreRowNumbers, AreNumbersIn}
use Rattle.capn_path.specs.inner.Seeks.{Seeks, SeeksBelow}
use Rattle.capn_path.proofs.shared.Steps.{length-places, length-rows, row-split, middle, stays, goes-down}
use Rattle.capn_path.proofs.shared.Passing.{passed-append, passed-alone, begins}

pub popped : (path old new : List ℕ) (i n : ℕ) → old ≡ path ++ i ∷ [] → n ≡ length old → new ≡ take (n - 1) old
    → new ≡ path
popped path old new i n e l h =
    let a = ap length e in
    let b = length-append path (i ∷ []) in
    let k : n - 1 ≡ length path = omega arith in
    h ∙ rw (k, e) (take-append_seam path (i ∷ []))

no-slots : (s w a b n : ℕ) → b ≡ 0 → row_places s w a b n ≡ []
no-slots s w a b zero z = refl
no-slots s w a b (suc n) z =
    let e : places s (w + a) b ≡ [] = rw z refl in
    ap (λ (ps : List Place). ps ++ row_places s (w + a + b) a b n) e ∙ no-slots s (w + a + b) a b n z

module _ {G F : Type 0} (m : List (List ℕ)) (finds : G → Place → Result Target Fault → Option F) (next : G → G)
    (base : ℕ) where
  -- ---- from a slot on

  pub seeks-here : (d : ℕ) (at : Place) (aim after : G) (path : List ℕ) (x : F) → finds aim at (target m at) ≡ Some x
      → Seeks m finds next base d at aim after path path (Some x)
  seeks-here d at aim after path x e =
      let b = begins m base d at in (
        [],
        sym (append-nil path),
        record {
          to = at;
          before = [];
          here = b.head;
          behind = b.rest;
          visits = b.is;
          last = aim;
          passed = refl;
          place = b.place;
          found = e;
          leads = stays m base d at;
        },
      )

  module _ (at : Place) (aim after : G) (path : List ℕ) (none : finds aim at (target m at) ≡ None)
      (z : after ≡ next aim) (d : ℕ) where
    pub seeks-null : target m at ≡ Ok targets.Nil → Seeks m finds next base d at aim after path path None
    seeks-null e = (refl, passed-alone m finds next aim after _ (pays at 0) at (visits-null m base at d e) refl none z)

    pub seeks-cap : (index : ℕ) → target m at ≡ Ok (targets.Cap index)
        → Seeks m finds next base d at aim after path path None
    seeks-cap index e =
        (refl, passed-alone m finds next aim after _ (pays at 0) at (visits-cap m base at d index e) refl none z)

    pub seeks-fault : (f : Fault) → target m at ≡ Err f → Seeks m finds next base d at aim after path path None
    seeks-fault f e =
        (refl, passed-alone m finds next aim after _ (fails at f) at (visits-fault m base at d f e) refl none z)

    pub seeks-deep : (s start pads : ℕ) (shape : Shape) → target m at ≡ Ok (targets.Content s start shape pads)
        → d ≡ 0 → Seeks m finds next base d at aim after path path None
    seeks-deep s start pads shape e deep = (
      refl,
      passed-alone m finds next aim after _ (fails at faults.TooDeep) at
          (visits-deep m base at s start pads shape e d deep) refl none z,
    )

  pub seeks-object : (at : Place) (s start pads : ℕ) (shape : Shape) (d : ℕ) (aim mid after : G) (old new : List ℕ)
      (r : Option F) → target m at ≡ Ok (targets.Content s start shape pads) → 0 < d
      → finds aim at (target m at) ≡ None → mid ≡ next aim
      → SeeksBelow m finds next base (d - 1) (slots s start shape) (AreNumbersIn shape) mid after old new r
      → Seeks m finds next base d at aim after old new r
  seeks-object at s start pads shape d aim mid after old new None e some none z h = (
    h.0,
    subst (λ (vs : List Visit). IsPassed m finds next aim vs after)
        (sym (visits-object m base at s start pads shape e d some))
        ((
          none,
          subst (λ (g : G). IsPassed m finds next g (visits_of m base (d - 1) (slots s start shape)) after) z
              h.1,
        )),
  )
  seeks-object at s start pads shape d aim mid after old new (Some x) e some none z h =
      let g = h.2 in
      let here = pays at (price base shape + pads) in (
        h.0,
        h.1,
        record {
          to = g.to;
          before = here ∷ g.before;
          here = g.here;
          behind = g.behind;
          visits = visits-object m base at s start pads shape e d some ∙ ap (λ (vs : List Visit). here ∷ vs) g.visits;
          last = g.last;
          passed = (none, subst (λ (k : G). IsPassed m finds next k g.before g.last) z g.passed);
          place = g.place;
          found = g.found;
          leads = goes-down m base d at s start pads shape h.0 g.to (length g.before) e some g.leads;
        },
      )

  -- ---- from several slots on

  module _ (d s w : ℕ) where
    -- the visits of the first `i` slots and of all slots below them
    abbrev first : ℕ → List Visit
    first i = visits_of m base d (places s w i)

    pub slot-found : (i n : ℕ) (x : F) (old pushed new : List ℕ) (aim mid after : G) → i < n → pushed ≡ old ++ i ∷ []
        → IsPassed m finds next aim (first i) mid
        → Seeks m finds next base d (slot s (w + i)) mid after pushed new (Some x)
        → SeeksBelow m finds next base d (places s w n) AreNumbers aim after old new (Some x)
    slot-found i n x old pushed new aim mid after lt push none h =
        let more = visits_of m base d (places s (w + i + 1) (n - suc i)) in
        let g = h.2 in (
          i ∷ h.0,
          h.1 ∙ ap (λ (l : List ℕ). l ++ h.0) push ∙ append_assoc old (i ∷ []) h.0,
          record {
            to = g.to;
            before = first i ++ g.before;
            here = g.here;
            behind = g.behind ++ more;
            visits = all-split (visits m base d) s w i n lt
                ∙ ap (λ (vs : List Visit). first i ++ (vs ++ more)) g.visits
                ∙ middle (first i) g.before g.here g.behind more;
            last = g.last;
            passed = passed-append m finds next aim mid g.last (first i) g.before none g.passed;
            place = g.place;
            found = g.found;
            leads = record {
              before = places s w i;
              slot = slot s (w + i);
              behind = places s (w + i + 1) (n - suc i);
              slots = places-split s w i n lt;
              numbers = i ∷ [];
              named = ap (λ (k : ℕ). k ∷ []) (sym (length-places s w i));
              rest = h.0;
              is = refl;
              later = length g.before;
              onward = g.leads;
              count = length-append (first i) g.before;
            };
          },
        )

    pub slot-passed : (i : ℕ) (aim mid after : G) → IsPassed m finds next aim (first i) mid
        → IsPassed m finds next mid (visits m base d (slot s (w + i))) after
        → IsPassed m finds next aim (first (i + 1)) after
    slot-passed i aim mid after none h =
        let f = visits m base d in
        let here = f (slot s (w + i)) in
        let e = ap (flat_map f) (places-add s w i 1)
        ∙ flat_map-append f (places s w i) (places s (w + i) 1)
        ∙ ap (λ (vs : List Visit). first i ++ vs) (append-nil here) in
        subst (λ (vs : List Visit). IsPassed m finds next aim vs after) (sym e)
        (passed-append m finds next aim mid after (first i) here none h)

  -- ---- from the slots of rows on

  module _ (d s w a b : ℕ) where
    -- the visits of the slots of the first `i` rows and of all slots below them
    abbrev first_rows : ℕ → List Visit
    first_rows i = visits_of m base d (row_places s w a b i)

    -- the places of the slots of row `i`
    abbrev row : ℕ → List Place
    row i = places s (w + i * (a + b) + a) b

    -- the places of the slots of the rows after row `i`, if there are `n` rows
    abbrev later_rows : ℕ → ℕ → List Place
    later_rows i n = row_places s (w + i * (a + b) + a + b) a b (n - suc i)

    visits-split : (i n : ℕ) → i < n
        → visits_of m base d (row_places s w a b n)
        ≡ first_rows i ++ (visits_of m base d (row i) ++ visits_of m base d (later_rows i n))
    visits-split i n lt =
        let f = visits m base d in
        ap (flat_map f) (row-split s w a b i n lt)
        ∙ flat_map-append f (row_places s w a b i) (row i ++ later_rows i n)
        ∙ ap (λ (vs : List Visit). first_rows i ++ vs) (flat_map-append f (row i) (later_rows i n))

    pub row-found : (i n : ℕ) (x : F) (old pushed new : List ℕ) (aim mid after : G) → i < n → pushed ≡ old ++ i ∷ []
        → IsPassed m finds next aim (first_rows i) mid
        → SeeksBelow m finds next base d (row i) AreNumbers mid after pushed new (Some x)
        → SeeksBelow m finds next base d (row_places s w a b n) (AreRowNumbers b) aim after old new (Some x)
    row-found i n x old pushed new aim mid after lt push none h =
        let more = visits_of m base d (later_rows i n) in
        let g = h.2 in
        let k = g.leads in
        let front = row_places s w a b i in
        let lf = length-append front k.before in
        let lr = length-rows s w a b i in
        let lp = length-places s (w + i * (a + b) + a) b in
        let ls = ap length k.slots in
        let lb = length-append k.before (k.slot ∷ k.behind) in
        let fv = ap length (flat_map-append (visits m base d) front k.before) in
        let fl = length-append (first_rows i) (visits_of m base d k.before) in
        let hl = length-append (first_rows i) g.before in
        let c = k.count in (
          i ∷ h.0,
          h.1 ∙ ap (λ (l : List ℕ). l ++ h.0) push ∙ append_assoc old (i ∷ []) h.0,
          record {
            to = g.to;
            before = first_rows i ++ g.before;
            here = g.here;
            behind = g.behind ++ more;
            visits = visits-split i n lt
                ∙ ap (λ (vs : List Visit). first_rows i ++ (vs ++ more)) g.visits
                ∙ middle (first_rows i) g.before g.here g.behind more;
            last = g.last;
            passed = passed-append m finds next aim mid g.last (first_rows i) g.before none g.passed;
            place = g.place;
            found = g.found;
            leads = record {
              before = front ++ k.before;
              slot = k.slot;
              behind = k.behind ++ later_rows i n;
              slots = row-split s w a b i n lt
                  ∙ ap (λ (ps : List Place). front ++ (ps ++ later_rows i n)) k.slots
                  ∙ middle front k.before k.slot k.behind (later_rows i n);
              numbers = i ∷ k.numbers;
              named = record {
                row = i;
                slot = length k.before;
                are = ap (λ (l : List ℕ). i ∷ l) k.named;
                small = omega arith;
                count = omega arith;
              };
              rest = k.rest;
              is = ap (λ (l : List ℕ). i ∷ l) k.is;
              later = k.later;
              onward = k.onward;
              count = omega arith;
            };
          },
        )

    pub row-passed : (i : ℕ) (aim mid after : G) → IsPassed m finds next aim (first_rows i) mid
        → IsPassed m finds next mid (visits_of m base d (row i)) after
        → IsPassed m finds next aim (first_rows (i + 1)) after
    row-passed i aim mid after none h =
        let here = visits_of m base d (row i) in
        let z : i + 1 - suc i ≡ 0 = omega arith in
        let last : visits_of m base d (later_rows i (i + 1)) ≡ [] = rw z refl in
        let e = visits-split i (i + 1) (omega arith)
        ∙ ap (λ (vs : List Visit). first_rows i ++ (here ++ vs)) last
        ∙ ap (λ (vs : List Visit). first_rows i ++ vs) (append-nil here) in
        subst (λ (vs : List Visit). IsPassed m finds next aim vs after) (sym e)
        (passed-append m finds next aim mid after (first_rows i) here none h)

    pub rows-without : (n : ℕ) (aim : G) → b ≡ 0
        → IsPassed m finds next aim (visits_of m base d (row_places s w a b n)) aim
    rows-without n aim z =
        subst (λ (ps : List Place). IsPassed m finds next aim (visits_of m base d ps) aim)
        (sym (no-slots s w a b n z)) refl
