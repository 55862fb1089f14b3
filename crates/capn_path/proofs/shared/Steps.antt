-- A path from a slot to a slot below it is a step and then a further path. (For `Followed`, `Holding`, `Searches` and
-- capn_mismatch.)
use Rattle.std.proofs.Common.{◌≡◌, ℕ, zero, suc, ◌+◌, ◌-◌, ◌*◌, ◌<◌, List, [], ◌∷◌, ◌++◌, length, Ok}
use Rattle.std.proofs.Common.{refl, ap, sym, ◌∙◌, arith, append_assoc, length-append}
use Rattle.capn_words.specs.declared.space.Place.{Place}
use Rattle.capn_target.specs.declared.target.Target.TheVariants as targets
use Rattle.capn_target.specs.declared.target.Shape.{Shape}
use Rattle.capn_target.specs.declared.target.Shape.TheVariants as shapes
use Rattle.capn_target.specs.Target.{target}
use Rattle.capn_walk.specs.Visits.{places, row_places, slots}
use Rattle.capn_walk.proofs.shared.RowWalks.{row_places-add}
use Rattle.capn_path.specs.Paths.{AreNumbersOf, Leads, Descends}
use Rattle.capn_path.specs.Steps.{AreNumbersIn, DescendsTo}

pub length-places : (s w n : ℕ) → length (places s w n) ≡ n
length-places s w zero = refl
length-places s w (suc n) = ap suc (length-places s (w + 1) n)

pub length-rows : (s w a b n : ℕ) → length (row_places s w a b n) ≡ n * b
length-rows s w a b zero = omega arith
length-rows s w a b (suc n) =
    let l = length-append (places s (w + a) b) (row_places s (w + a + b) a b n) in
    let p = length-places s (w + a) b in
    let q = length-rows s (w + a + b) a b n in
    omega arith

-- the slots of `n` rows are the slots before row `i`, the slots of row `i`, and the slots after row `i`
pub row-split : (s w a b i n : ℕ) → i < n
    → row_places s w a b n
    ≡ row_places s w a b i
    ++ (places s (w + i * (a + b) + a) b ++ row_places s (w + i * (a + b) + a + b) a b (n - suc i))
row-split s w a b i n lt =
    let e : n ≡ i + suc (n - suc i) = omega arith in
    ap (row_places s w a b) e ∙ row_places-add s w a b i (suc (n - suc i))

pub middle : {A : Type 0} (xs before : List A) (x : A) (behind ys : List A)
    → xs ++ ((before ++ x ∷ behind) ++ ys) ≡ (xs ++ before) ++ x ∷ (behind ++ ys)
middle xs before x behind ys =
    ap (λ zs. xs ++ zs) (append_assoc before (x ∷ behind) ys) ∙ sym (append_assoc xs before (x ∷ (behind ++ ys)))

numbers-of : (shape : Shape) (s start pads k : ℕ) (numbers : List ℕ) → AreNumbersIn shape k numbers
    → AreNumbersOf (targets.Content s start shape pads) k numbers × (0 < length numbers)
numbers-of (shapes.Node a b) s start pads k numbers h = rw h (refl, omega arith)
numbers-of (shapes.Many width n) s start pads k numbers h = rw h (refl, omega arith)
numbers-of (shapes.Rows n a b span) s start pads k numbers h = rw h.are ((h.small, h.count), omega arith)

module _ (m : List (List ℕ)) (base : ℕ) where
  -- a path without numbers leads from the slot at `at` to itself
  pub stays : (left : ℕ) (at : Place) → Leads m base left at [] at 0
  stays zero at = (refl, refl)
  stays (suc left) at = (refl, refl)

  -- if `path` is not empty, and `Descends` is true of `path`, then `Leads` is true of `path` with one level more
  pub goes : (left : ℕ) (at : Place) (path : List ℕ) (to : Place) (n : ℕ) → 0 < length path
      → Descends m base left (Leads m base left) at path to n → Leads m base (suc left) at path to n
  goes left at [] to n h g = absurd (omega arith)
  goes left at (i ∷ path) to n h g = g

  -- if the slot at `at` names an object, `d` is above 0, and `DescendsTo` is true of `path` and the object's slots,
  -- then `Leads` is true of `path` from the slot at `at`
  pub goes-down : (d : ℕ) (at : Place) (s start pads : ℕ) (shape : Shape) (path : List ℕ) (to : Place) (n : ℕ)
      → target m at ≡ Ok (targets.Content s start shape pads) → 0 < d
      → DescendsTo m base (d - 1) (slots s start shape) (AreNumbersIn shape) path to n
      → Leads m base d at path to (suc n)
  goes-down d at s start pads shape path to n e some g =
      let k = numbers-of shape s start pads (length g.before) g.numbers g.named in
      let l = length-append g.numbers g.rest in
      let le = ap length g.is in
      let long = k.1 in
      let c = g.count in
      let deep : suc (d - 1) ≡ d = omega arith in
      rw deep at (goes (d - 1) at path to (suc n) (omega arith) (record {
        found = targets.Content s start shape pads;
        names = e;
        before = g.before;
        slot = g.slot;
        behind = g.behind;
        slots = g.slots;
        numbers = g.numbers;
        are = k.0;
        rest = g.rest;
        is = g.is;
        later = g.later;
        onward = g.onward;
        count = omega arith;
      }))
