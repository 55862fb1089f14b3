-- A walk over `n` consecutive slots, of which the first `i` have been visited. (For the cycle `index_slots`, the cycle
-- `walk`, `targets`, `visit_found`, capn_canon and capn_mismatch.)
use Rattle.std.proofs.Common.{◌≡◌, ◌⊎◌, inl, inr, ℕ, zero, suc, ◌+◌, ◌-◌, ◌<◌, ◌≤◌, List, [], ◌∷◌, ◌++◌, length, take}
use Rattle.std.proofs.Common.{Ok, Err, refl, ap, ap₂, sym, ◌∙◌, arith}
use Rattle.std.proofs.lemmas.List.{append-nil}
use Rattle.std.specs.List.{flat_map}
use Rattle.std.proofs.lemmas.Grind.{flat_map-append}
use Rattle.capn_words.specs.declared.space.Place.{Place}
use Rattle.capn_words.specs.declared.pointer.Width.TheVariants.{Link}
use Rattle.capn_value.specs.Tree.{Trees, Bodies, Tree, nil, node, voids, numbers, links, rows}
use Rattle.capn_value.specs.Tree.{cap, count, count_rows}
use Rattle.capn_value.specs.TreeOf.{tree_of, trees_of}
use Rattle.capn_value.specs.declared.value.Value.{Value}
use Rattle.capn_target.specs.declared.target.Target.TheVariants as targets
use Rattle.capn_target.specs.declared.target.Shape.{Shape}
use Rattle.capn_target.specs.declared.target.Shape.TheVariants as shapes
use Rattle.capn_target.specs.declared.target.Fault.{Fault}
use Rattle.capn_target.specs.declared.target.Fault.TheVariants as faults
use Rattle.capn_walk.specs.declared.walk_answer.Stopped.{Stopped}
use Rattle.capn_target.specs.Target.{target}
use Rattle.capn_walk.specs.Visits.{Visit, pays, fails, price, places, slots, visits, visit, last_visit}
use Rattle.capn_walk.specs.inner.Verdict.{accepted, refused, after, judge}
use Rattle.capn_walk.specs.ValueAt.{IsAt, AreAt, RowsAt, IsInside, NamesObject, words_from}
use Rattle.capn_walk.specs.inner.Verdict.{Gives, Refuses}
use Rattle.capn_target.specs.Shapes.{slot_count}
use Rattle.capn_target.proofs.shared.Inside.{inside}
use Rattle.capn_walk.proofs.shared.SlotPrices.{slots-price}
use Rattle.capn_walk.proofs.shared.Judge.{judge-more, judge-stops, judge-pays}

-- the place of word `w` of segment `s`
abbrev pub slot : ℕ → ℕ → Place
slot s w = record { segment = s; word = w }

-- the places of `i + n` slots are the places of the first `i` slots and of the `n` slots after them
pub places-add : (s w i n : ℕ) → places s w (i + n) ≡ places s w i ++ places s (w + i) n
places-add s w zero n = let a : 0 + n ≡ n = omega arith in let b : w + 0 ≡ w = omega arith in rw (a, b) refl
places-add s w (suc i) n =
    let a : suc i + n ≡ suc (i + n) = omega arith in
    let b : w + 1 + i ≡ w + suc i = omega arith in
    rw a (ap (λ (ps : List Place). slot s w ∷ ps) (rw (← b) (places-add s (w + 1) i n)))

-- the places of `n` slots are the places before slot `i`, the place of slot `i`, and the places after slot `i`
pub places-split : (s w i n : ℕ) → i < n
    → places s w n ≡ places s w i ++ slot s (w + i) ∷ places s (w + i + 1) (n - suc i)
places-split s w i n h =
    let a : n ≡ i + suc (n - suc i) = omega arith in
    ap (places s w) a ∙ places-add s w i (suc (n - suc i))

module _ (f : Place → List Visit) (s w : ℕ) where
  -- the visits that `f` gives for the first `n` slots
  abbrev pub all : ℕ → List Visit
  all n = flat_map f (places s w n)

  -- the visits of `n` slots are the visits before slot `i`, the visits of slot `i`, and the visits after slot `i`
  pub all-split : (i n : ℕ) → i < n
      → all n ≡ all i ++ (f (slot s (w + i)) ++ flat_map f (places s (w + i + 1) (n - suc i)))
  all-split i n h = ap (flat_map f) (places-split s w i n h)
      ∙ flat_map-append f (places s w i) (slot s (w + i) ∷ places s (w + i + 1) (n - suc i))

  all-next : (i : ℕ) → all (i + 1) ≡ all i ++ f (slot s (w + i))
  all-next i =
      ap (flat_map f) (places-add s w i 1) ∙ flat_map-append f (places s w i) (slot s (w + i) ∷ [])
      ∙ ap (λ (vs : List Visit). all i ++ vs) (append-nil (f (slot s (w + i))))

  pub gives-next : (left i p k q j : ℕ) → Gives left (all i) i p k → Gives (left - p) (f (slot s (w + i))) 1 q j
      → Gives left (all (i + 1)) (i + 1) (p + q) (k + j)
  gives-next left i p k q j g h = record {
    is = ap (judge left) (all-next i) ∙ judge-more left (all i) (f (slot s (w + i))) p k g.is ∙ ap (after p k) h.is;
    within = let a = g.within in let b = h.within in omega arith;
    few = let a = g.few in let b = h.few in omega arith;
  }

  refuses-is : (left i n p k : ℕ) (e : Fault) (at : Place) (q j : ℕ) → i < n → judge left (all i) ≡ accepted p k →
      judge (left - p) (f (slot s (w + i))) ≡ refused e at q j → judge left (all n) ≡ refused e at (p + q) (k + j)
  refuses-is left i n p k e at q j h g r =
      let rest = flat_map f (places s (w + i + 1) (n - suc i)) in
      ap (judge left) (all-split i n h)
      ∙ judge-more left (all i) (f (slot s (w + i)) ++ rest) p k g
      ∙ ap (after p k) (judge-stops (left - p) (f (slot s (w + i))) rest e at q j r)

  pub refuses-next : (left i n p k : ℕ) (t : Stopped) → i < n → Gives left (all i) i p k
      → Refuses (left - p) (f (slot s (w + i))) 1 t →
      Refuses left (all n) n (record { fault = t.fault; place = t.place; paid = p + t.paid; visits = k + t.visits })
  refuses-next left i n p k t h g r = record {
    is = elim r.is as (λ _. (t.fault ≡ faults.Memory)
        ⊎ (judge left (all n) ≡ refused t.fault t.place (p + t.paid) (k + t.visits))) [
          | inl m ↦ inl m
          | inr is ↦ inr (refuses-is left i n p k t.fault t.place t.paid t.visits h g.is is)
        ];
    within = let a = g.within in let b = r.within in omega arith;
    few = let a = r.few in let b = g.few in omega arith;
  }

module _ (m : List (List ℕ)) where
  -- the values are `vs ++ v ∷ []`, if `vs` are the values of the first slots, and `v` is the value of the next slot
  pub at-next : {A : Type 0} (s w : ℕ) (vs : List (Value A)) (v : Value A) → AreAt m s w (trees_of vs)
      → IsAt m (slot s (w + count (trees_of vs))) (tree_of v) →
      AreAt m s w (trees_of (vs ++ v ∷ []))
  at-next s w [] v h i = let e : w + 0 ≡ w = omega arith in let j = rw e at i in (j, tt)
  at-next s w (u ∷ vs) v h i =
      let e : w + suc (count (trees_of vs)) ≡ suc w + count (trees_of vs) = omega arith in
      let j = rw e at i in
      (h.0, at-next s (suc w) vs v h.1 j)

  -- a value `v` appended to `vs` adds one to the number of values
  pub count-next : {A : Type 0} (vs : List (Value A)) (v : Value A)
      → count (trees_of (vs ++ v ∷ [])) ≡ count (trees_of vs) + 1
  count-next [] v = refl
  count-next (u ∷ vs) v = let e = count-next vs v in omega arith

  -- the visits of the slot at `at`, given the target of that slot
  module _ (base : ℕ) (at : Place) where
    -- the visit of a null pointer pays nothing
    pub visits-null : (d : ℕ) → target m at ≡ Ok targets.Nil → visits m base d at ≡ pays at 0 ∷ []
    unfolding visits
    visits-null zero e = ap (last_visit m base at) e
    visits-null (suc d) e = ap (visit m base (visits m base d) at) e

    -- the visit of a capability pays nothing
    pub visits-cap : (d k : ℕ) → target m at ≡ Ok (targets.Cap k) → visits m base d at ≡ pays at 0 ∷ []
    unfolding visits
    visits-cap zero k e = ap (last_visit m base at) e
    visits-cap (suc d) k e = ap (visit m base (visits m base d) at) e

    -- if the target of the slot at `at` is the fault `f`, the visit of that slot fails with `f`
    pub visits-fault : (d : ℕ) (f : Fault) → target m at ≡ Err f → visits m base d at ≡ fails at f ∷ []
    unfolding visits
    visits-fault zero f e = ap (last_visit m base at) e
    visits-fault (suc d) f e = ap (visit m base (visits m base d) at) e

    module _ (s start pads : ℕ) (shape : Shape) (e : target m at ≡ Ok (targets.Content s start shape pads)) where
      -- if `d` is 0, the visit of content fails with `TooDeep`
      pub visits-deep : (d : ℕ) → d ≡ 0 → visits m base d at ≡ fails at faults.TooDeep ∷ []
      unfolding visits
      visits-deep zero z = ap (last_visit m base at) e
      visits-deep (suc d) z = absurd (omega arith)

      -- if `d` is above 0, the visit of content pays the content's price and one for each word of landing pads, and
      -- then the content's slots are visited
      pub visits-object : (d : ℕ) → 0 < d
          → visits m base d at
          ≡ pays at (price base shape + pads) ∷ flat_map (visits m base (d - 1)) (slots s start shape)
      unfolding visits
      visits-object zero z = absurd (omega arith)
      visits-object (suc d) z = let f : suc d - 1 ≡ d = omega arith in
          ap (visit m base (visits m base d) at) e
          ∙ ap (λ (c : ℕ). pays at (price base shape + pads) ∷ flat_map (visits m base c) (slots s start shape)) (sym f)

  -- Case: the slot at `at` names an object, and the depth and `left` allow that object.
  module _ (base : ℕ) (at : Place) (s start pads : ℕ) (shape : Shape)
      (e : target m at ≡ Ok (targets.Content s start shape pads))
      (left d : ℕ) (deep : 0 < d) (room : price base shape + pads ≤ left) where
    -- the visits of the slots below the object
    abbrev pub below : List Visit
    below = flat_map (visits m base (d - 1)) (slots s start shape)

    few_slots : slot_count shape ≤ price base shape
    few_slots = slots-price base shape (inside m at s start pads shape e).1

    -- the object is accepted if the slots below the object are accepted
    pub gives-object : (p k : ℕ)
        → Gives (left - (price base shape + pads)) below (slot_count shape) p k →
        Gives left (visits m base d at) 1 (price base shape + pads + p) (1 + k)
    gives-object p k g = record {
      is = ap (judge left) (visits-object base at s start pads shape e d deep)
          ∙ judge-pays left (price base shape + pads) at below room
          ∙ ap (after (price base shape + pads) 1) g.is;
      within = let a = g.within in omega arith;
      few = let a = g.few in let b = few_slots in omega arith;
    }

    -- the object is refused if the slots below the object are refused
    pub refuses-object : (t : Stopped)
        → Refuses (left - (price base shape + pads)) below (slot_count shape) t →
        Refuses left (visits m base d at) 1
        (record t { paid = price base shape + pads + t.paid; visits = 1 + t.visits })
    refuses-object t r = record {
      is = elim r.is as (λ _. (t.fault ≡ faults.Memory)
          ⊎ (judge left (visits m base d at)
          ≡ refused t.fault t.place (price base shape + pads + t.paid) (1 + t.visits))) [
            | inl x ↦ inl x
            | inr is ↦ inr (ap (judge left) (visits-object base at s start pads shape e d deep)
                ∙ judge-pays left (price base shape + pads) at below room
                ∙ ap (after (price base shape + pads) 1) is)
          ];
      within = let a = r.within in omega arith;
      few = let a = r.few in let b = few_slots in omega arith;
    }

  pub refuses-here : (base : ℕ) (at : Place) (left d : ℕ) (f : Fault) (t : Stopped)
      → visits m base d at ≡ fails at f ∷ [] →
      t ≡ record { fault = f; place = at; paid = 0; visits = 1 } → Refuses left (visits m base d at) 1 t
  refuses-here base at left d f t e h =
      rw h (record { is = inr (ap (judge left) e); within = omega arith; few = omega arith })

  -- a slot whose only visit pays 0 words is accepted
  pub gives-nothing : (base : ℕ) (at : Place) (left d : ℕ) → visits m base d at ≡ pays at 0 ∷ []
      → Gives left (visits m base d at) 1 0 1
  gives-nothing base at left d e =
      record { is = ap (judge left) e ∙ judge-pays left 0 at [] (omega arith); within = omega arith; few = omega arith }

  names : {at : Place} {s start pads : ℕ} {shape x : Shape} {Inside : ℕ → ℕ → Type 0}
      → target m at ≡ Ok (targets.Content s start shape pads) → shape ≡ x → Inside s start → NamesObject m at x Inside
  names {s = s} {start = start} {pads = pads} e h i = record {
    segment = s;
    start = start;
    pads = pads;
    is = e ∙ ap (λ (x : Shape). Ok (targets.Content s start x pads)) h;
    inside = i;
  }

  -- the value of the content that the pointer at `at` names is the value at `at`
  pub is-inside : (at : Place) (s start pads : ℕ) (shape : Shape) (v : Tree)
      → target m at ≡ Ok (targets.Content s start shape pads) →
      IsInside m shape s start v → IsAt m at v
  is-inside at s start pads shape (node ws ss) e h = names e h.0 (h.1, h.2)
  is-inside at s start pads shape (voids n) e h = names e h tt
  is-inside at s start pads shape (links ts) e h = names e h.0 h.1
  is-inside at s start pads shape nil e h = absurd h
  is-inside at s start pads shape (numbers a xs) e h = names e h.0 h.1
  is-inside at s start pads shape (rows bs) e h = (h.0, h.1, h.2, names e h.3 h.4)
  is-inside at s start pads shape (cap k) e h = absurd h

-- the value of content of `shape`, given the words and the slots of the content
module _ (m : List (List ℕ)) (s start : ℕ) (shape : Shape) where
  pub inside-struct : (a b : ℕ) (ws : List ℕ) (ts : Trees) → shape ≡ shapes.Node a b → length ws ≡ a
      → take a (words_from m s start) ≡ ws →
      count ts ≡ b → AreAt m s (start + a) ts → IsInside m shape s start (node ws ts)
  inside-struct a b ws ts e l w n h = (e ∙ ap₂ shapes.Node (sym l) (sym n), rw l w, rw l h)

  pub inside-links : (n : ℕ) (ts : Trees) → shape ≡ shapes.Many Link n → count ts ≡ n → AreAt m s start ts
      → IsInside m shape s start (links ts)
  inside-links n ts e l h = (e ∙ ap (shapes.Many Link) (sym l), h)

  pub inside-rows : (n a b span : ℕ) (bs : Bodies) → shape ≡ shapes.Rows n a b span → count_rows bs ≡ n
      → RowsAt m a b s (suc start) bs →
      IsInside m shape s start (rows bs)
  inside-rows n a b span bs e l h = (a, b, span, e ∙ ap (λ (k : ℕ). shapes.Rows k a b span) (sym l), h)
