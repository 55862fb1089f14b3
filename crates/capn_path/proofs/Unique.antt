-- A visit has at most one path. (For `paths`.)
use Rattle.std.proofs.Common.{◌≡◌, ℕ, zero, suc, ◌+◌, ◌-◌, ◌*◌, ◌/◌, ◌<◌, List, [], ◌∷◌, ◌++◌, length, Ok}
use Rattle.std.proofs.Common.{Result, refl, ap, ap₂, sym, ◌∙◌, arith, length-append}
use Rattle.std.specs.List.{flat_map}
use Rattle.std.proofs.lemmas.Grind.{flat_map-append}
use Rattle.std.proofs.lemmas.Nat.{div-mul-add}
use Rattle.capn_words.specs.declared.space.Place.{Place}
use Rattle.capn_value.specs.Cost.{base}
use Rattle.capn_target.specs.declared.target.Target.{Target}
use Rattle.capn_target.specs.declared.target.Target.TheVariants as targets
use Rattle.capn_target.specs.declared.target.Fault.{Fault}
use Rattle.capn_target.specs.declared.target.Shape.{Shape}
use Rattle.capn_target.specs.declared.target.Shape.TheVariants as shapes
use Rattle.capn_walk.specs.Visits.{Visit, visits}
use Rattle.capn_walk.specs.View.{slots_below}
use Rattle.capn_walk.specs.Accepted.{root}
use Rattle.capn_walk.proofs.shared.Walks.{visits-object}
use Rattle.capn_path.specs.Paths.{AreNumbersOf, Leads, Descends}
use Rattle.capn_path.specs.Laws.{PathsAreOne}
use Rattle.capn_path.proofs.Splits.{none-split}
use Rattle.capn_path.proofs.shared.Passing.{begins}

-- ---- the numbers of a slot are unique

pub row-parts : (b row slot r s : ℕ) → slot < b → s < b → row * b + slot ≡ r * b + s → (row ≡ r) × (slot ≡ s)
row-parts b row slot r s h k e =
    let q : row ≡ r = sym (div-mul-add row b slot h) ∙ ap (λ (n : ℕ). n / b) e ∙ div-mul-add r b s k in
    let f : r * b + slot ≡ r * b + s = rw q at e in
    (q, omega arith)

numbers-one : (s start pads : ℕ) (shape : Shape) (k : ℕ) (ns ms : List ℕ)
    → AreNumbersOf (targets.Content s start shape pads) k ns → AreNumbersOf (targets.Content s start shape pads) k ms
    → ns ≡ ms
numbers-one s start pads (shapes.Rows n a b span) k (row ∷ slot ∷ []) (r ∷ i ∷ []) h g =
    let p = row-parts b row slot r i h.0 g.0 (sym h.1 ∙ g.1) in
    ap₂ (λ (x y : ℕ). x ∷ y ∷ []) p.0 p.1
numbers-one s start pads (shapes.Rows n a b span) k [] ms h g = absurd h
numbers-one s start pads (shapes.Rows n a b span) k (row ∷ []) ms h g = absurd h
numbers-one s start pads (shapes.Rows n a b span) k (row ∷ slot ∷ x ∷ xs) ms h g = absurd h
numbers-one s start pads (shapes.Rows n a b span) k (row ∷ slot ∷ []) [] h g = absurd g
numbers-one s start pads (shapes.Rows n a b span) k (row ∷ slot ∷ []) (r ∷ []) h g = absurd g
numbers-one s start pads (shapes.Rows n a b span) k (row ∷ slot ∷ []) (r ∷ i ∷ x ∷ xs) h g = absurd g
numbers-one s start pads (shapes.Node a b) k (i ∷ []) (j ∷ []) h g = ap (λ (x : ℕ). x ∷ []) (sym h ∙ g)
numbers-one s start pads (shapes.Node a b) k [] ms h g = absurd h
numbers-one s start pads (shapes.Node a b) k (i ∷ x ∷ xs) ms h g = absurd h
numbers-one s start pads (shapes.Node a b) k (i ∷ []) [] h g = absurd g
numbers-one s start pads (shapes.Node a b) k (i ∷ []) (j ∷ x ∷ xs) h g = absurd g
numbers-one s start pads (shapes.Many width n) k (i ∷ []) (j ∷ []) h g = ap (λ (x : ℕ). x ∷ []) (sym h ∙ g)
numbers-one s start pads (shapes.Many width n) k [] ms h g = absurd h
numbers-one s start pads (shapes.Many width n) k (i ∷ x ∷ xs) ms h g = absurd h
numbers-one s start pads (shapes.Many width n) k (i ∷ []) [] h g = absurd g
numbers-one s start pads (shapes.Many width n) k (i ∷ []) (j ∷ x ∷ xs) h g = absurd g

-- ---- a slot is determined by the number of visits before it

module _ (f : Place → List Visit) where
  record Same (xs ys : List Place) (p q : Place) (i j : ℕ) : Type 0 where
    front : xs ≡ ys
    slot : p ≡ q
    later : i ≡ j

  one-slot : (xs ys : List Place) (p q : Place) (us vs : List Place) (i j : ℕ) → xs ++ p ∷ us ≡ ys ++ q ∷ vs
      → i < length (f p) → j < length (f q) → length (flat_map f xs) + i ≡ length (flat_map f ys) + j
      → Same xs ys p q i j
  one-slot [] [] p q us vs i j e h k c = record { front = refl; slot = cc; later = omega arith }
  one-slot [] (y ∷ ys) p q us vs i j e h k c =
      let z : p ≡ y = cc in
      let l = length-append (f y) (flat_map f ys) in
      let n = ap (λ (x : Place). length (f x)) z in
      absurd (omega arith)
  one-slot (x ∷ xs) [] p q us vs i j e h k c =
      let z : x ≡ q = cc in
      let l = length-append (f x) (flat_map f xs) in
      let n = ap (λ (y : Place). length (f y)) z in
      absurd (omega arith)
  one-slot (x ∷ xs) (y ∷ ys) p q us vs i j e h k c =
      let z : x ≡ y = cc in
      let t : xs ++ p ∷ us ≡ ys ++ q ∷ vs = cc in
      let l = length-append (f x) (flat_map f xs) in
      let o = length-append (f y) (flat_map f ys) in
      let n = ap (λ (r : Place). length (f r)) z in
      let r = one-slot xs ys p q us vs i j t h k (omega arith) in
      record { front = ap₂ (λ (y : Place) (ys : List Place). y ∷ ys) z r.front; slot = r.slot; later = r.later }

-- ---- the path of a visit is unique

module _ (m : List (List ℕ)) (b : ℕ) where
  here-shorter : (d : ℕ) (at : Place) (n : ℕ) → n ≡ 0 → n < length (visits m b d at)
  here-shorter d at n z = let o = begins m b d at in let l = ap length o.is in omega arith

  module _ (d : ℕ) (on : (at : Place) (path : List ℕ) (to : Place) (n : ℕ) → Leads m b d at path to n
      → n < length (visits m b d at)) (at : Place) (path : List ℕ) (to : Place) (n : ℕ)
      (h : Descends m b d (Leads m b d) at path to n) where
    below-shorter : (found : Target) → h.found ≡ found → n < length (visits m b (suc d) at)
    below-shorter (targets.Content s start shape pads) e =
        let f = visits m b d in
        let z : suc d - 1 ≡ d = omega arith in
        let parts = sym (ap slots_below e) ∙ h.slots in
        let v = rw z at (visits-object m b at s start pads shape (h.names ∙ ap Ok e) (suc d) (omega arith)) in
        let lv = ap length v in
        let lp = ap (λ (ps : List Place). length (flat_map f ps)) parts in
        let lj = ap length (flat_map-append f h.before (h.slot ∷ h.behind)) in
        let la = length-append (flat_map f h.before) (flat_map f (h.slot ∷ h.behind)) in
        let lh = length-append (f h.slot) (flat_map f h.behind) in
        let later = on h.slot h.rest to h.later h.onward in
        let c = h.count in
        omega arith
    below-shorter targets.Nil e = absurd (none-split h.before h.slot h.behind (sym (ap slots_below e) ∙ h.slots))
    below-shorter (targets.Cap k) e = absurd (none-split h.before h.slot h.behind (sym (ap slots_below e) ∙ h.slots))

  shorter : (d : ℕ) (at : Place) (path : List ℕ) (to : Place) (n : ℕ) → Leads m b d at path to n
      → n < length (visits m b d at)
  shorter zero at [] to n h = here-shorter zero at n h.1
  shorter zero at (i ∷ path) to n h = absurd h
  shorter (suc d) at [] to n h = here-shorter (suc d) at n h.1
  shorter (suc d) at (i ∷ path) to n h =
      below-shorter d (λ p w t k g. shorter d p w t k g) at (i ∷ path) to n h h.found refl

  ok-one : (x y : Target) → ◌≡◌ {A = Result Target Fault} (Ok x) (Ok y) → x ≡ y
  ok-one x y e = cc

  module _ (d : ℕ) (one : (at : Place) (v w : List ℕ) (to p : Place) (n : ℕ) → Leads m b d at v to n
      → Leads m b d at w p n → (v ≡ w) × (to ≡ p)) (at : Place) (v w : List ℕ) (to p : Place) (n : ℕ)
      (h : Descends m b d (Leads m b d) at v to n) (g : Descends m b d (Leads m b d) at w p n) where
    same-found : h.found ≡ g.found
    same-found = ok-one h.found g.found (sym h.names ∙ g.names)

    same-slot : Same (visits m b d) h.before g.before h.slot g.slot h.later g.later
    same-slot =
        let c = h.count in
        let k = g.count in
        one-slot (visits m b d) h.before g.before h.slot g.slot h.behind g.behind h.later g.later
        (sym h.slots ∙ ap slots_below same-found ∙ g.slots)
        (shorter d h.slot h.rest to h.later h.onward) (shorter d g.slot g.rest p g.later g.onward) (omega arith)

    by-found : (found : Target) → h.found ≡ found → (v ≡ w) × (to ≡ p)
    by-found (targets.Content s start shape pads) e =
        let s1 = same-slot in
        let l = ap length s1.front in
        let numbers = numbers-one s start pads shape (length h.before) h.numbers g.numbers (rw e at h.are)
        (rw (sym same-found ∙ e, ← l) at g.are) in
        let on = one h.slot h.rest g.rest to p h.later h.onward (rw (← s1.slot, ← s1.later) at g.onward) in
        (h.is ∙ ap₂ (λ (x y : List ℕ). x ++ y) numbers on.0 ∙ sym g.is, on.1)
    by-found targets.Nil e = absurd (none-split h.before h.slot h.behind (sym (ap slots_below e) ∙ h.slots))
    by-found (targets.Cap k) e = absurd (none-split h.before h.slot h.behind (sym (ap slots_below e) ∙ h.slots))

  one-path : (d : ℕ) (at : Place) (v w : List ℕ) (to p : Place) (n : ℕ) → Leads m b d at v to n
      → Leads m b d at w p n → (v ≡ w) × (to ≡ p)
  one-path zero at [] [] to p n h g = (refl, h.0 ∙ sym g.0)
  one-path zero at (i ∷ v) w to p n h g = absurd h
  one-path zero at [] (j ∷ w) to p n h g = absurd g
  one-path (suc d) at [] [] to p n h g = (refl, h.0 ∙ sym g.0)
  one-path (suc d) at [] (j ∷ w) to p n h g = let z = h.1 in let c = g.count in absurd (omega arith)
  one-path (suc d) at (i ∷ v) [] to p n h g = let z = g.1 in let c = h.count in absurd (omega arith)
  one-path (suc d) at (i ∷ v) (j ∷ w) to p n h g =
      by-found d (λ q x y t u k e f. one-path d q x y t u k e f) at (i ∷ v) (j ∷ w) to p n h g h.found refl

pub paths-are-one : PathsAreOne
paths-are-one m limits n path other at to g h = one-path m (base limits.tariff) limits.depth root path other at to n g h
