-- The holder of the slot to which a path leads. (For `Followed`.)
use Rattle.std.proofs.Common.{◌≡◌, ℕ, zero, suc, ◌+◌, ◌-◌, ◌*◌, ◌<◌, List, [], ◌∷◌, ◌++◌, length}
use Rattle.std.proofs.Common.{refl, ap, sym, ◌∙◌, arith, length-append, Option, Some, None, inl, inr}
use Rattle.std.proofs.Common.{nat_lt}
use Rattle.std.proofs.lemmas.Bool.Decides.{nat_tests}
use Rattle.capn_words.proofs.shared.Choices.{less-yes, pick, if-yes}
use Rattle.capn_words.specs.declared.space.Place.{Place}
use Rattle.capn_words.specs.declared.pointer.Width.TheVariants.{W0, W1, W8, W16, W32, W64, Link, Rows}
use Rattle.capn_target.specs.declared.target.Target.{Target}
use Rattle.capn_target.specs.declared.target.Target.TheVariants as targets
use Rattle.capn_target.specs.declared.target.Shape.{Shape}
use Rattle.capn_target.specs.declared.target.Shape.TheVariants as shapes
use Rattle.capn_walk.specs.Visits.{places, row_places, slots}
use Rattle.capn_walk.proofs.shared.Walks.{places-split}
use Rattle.capn_path.specs.declared.holder.Holder.{Holder}
use Rattle.capn_path.specs.declared.holder.Holder.TheVariants.{Struct, Pointers, Row}
use Rattle.capn_path.specs.declared.holder.Spot.{Spot}
use Rattle.capn_path.specs.Paths.{AreNumbersOf}
use Rattle.capn_path.specs.Holders.{place, row_start, IsHeldIn}
use Rattle.capn_path.specs.inner.Followed.{step_among, step_in}
use Rattle.capn_path.proofs.Splits.{in-either, none-split}
use Rattle.capn_path.proofs.shared.Steps.{length-places, length-rows, row-split, middle}
use Rattle.capn_path.proofs.Unique.{row-parts}

-- ---- consecutive slots

slot-there : (s w n : ℕ) (before : List Place) (p : Place) (behind : List Place)
    → places s w n ≡ before ++ p ∷ behind → (p ≡ place s (w + length before)) × (length before < n)
slot-there s w zero before p behind e = absurd (none-split before p behind e)
slot-there s w (suc n) [] p behind e =
    let z : w + 0 ≡ w = omega arith in
    let h : place s w ≡ p = cc in
    (rw z (sym h), omega arith)
slot-there s w (suc n) (q ∷ before) p behind e =
    let t : places s (w + 1) n ≡ before ++ p ∷ behind = cc in
    let r = slot-there s (w + 1) n before p behind t in
    let z : w + 1 + length before ≡ w + suc (length before) = omega arith in
    let small = r.1 in
    (rw z at r.0, omega arith)

pub record Around (ps : List Place) (number : ℕ) (p : Place) : Type 0 where
  pub before : List Place
  pub behind : List Place
  pub is : ps ≡ before ++ p ∷ behind
  pub count : length before ≡ number

around-slot : (s w n i : ℕ) → i < n → Around (places s w n) i (place s (w + i))
around-slot s w n i h = record {
  before = places s w i;
  behind = places s (w + i + 1) (n - suc i);
  is = places-split s w i n h;
  count = length-places s w i;
}

-- ---- the slots of rows

record RowSlot (s w a b n number : ℕ) (p : Place) : Type 0 where
  row : ℕ
  slot : ℕ
  count : number ≡ row * b + slot
  small : slot < b
  low : row < n
  is : p ≡ place s (w + row * (a + b) + a + slot)

slot-in-rows : (s w a b n : ℕ) (before : List Place) (p : Place) (behind : List Place)
    → row_places s w a b n ≡ before ++ p ∷ behind → RowSlot s w a b n (length before) p
slot-in-rows s w a b zero before p behind e = absurd (none-split before p behind e)
slot-in-rows s w a b (suc n) before p behind e =
    let first = places s (w + a) b in
    let more = row_places s (w + a + b) a b n in
    elim (in-either first more before p behind e) as (λ _. RowSlot s w a b (suc n) (length before) p) [
      | inl f ↦ let k = slot-there s (w + a) b before p f.behind f.is in
          let z : w + 0 * (a + b) + a + length before ≡ w + a + length before = omega arith in
          record {
            row = 0;
            slot = length before;
            count = omega arith;
            small = k.1;
            low = omega arith;
            is = rw z k.0;
          }
      | inr f ↦ let r = slot-in-rows s (w + a + b) a b n f.before p behind f.is in
          let l = ap length f.front in
          let m = length-append first f.before in
          let o = length-places s (w + a) b in
          let c = r.count in
          let low = r.low in
          let z : w + a + b + r.row * (a + b) + a + r.slot ≡ w + (r.row + 1) * (a + b) + a + r.slot = omega arith in
          record {
            row = r.row + 1;
            slot = r.slot;
            count = omega arith;
            small = r.small;
            low = omega arith;
            is = rw z at r.is;
          }
    ]

around-row : (s w a b n row slot : ℕ) → row < n → slot < b
    → Around (row_places s w a b n) (row * b + slot) (place s (w + row * (a + b) + a + slot))
around-row s w a b n row slot h k =
    let p = w + row * (a + b) + a in
    let front = row_places s w a b row in
    let later = row_places s (w + row * (a + b) + a + b) a b (n - suc row) in
    let lf = length-rows s w a b row in
    let lp = length-places s p slot in
    let la = length-append front (places s p slot) in
    record {
      before = front ++ places s p slot;
      behind = places s (p + slot + 1) (b - suc slot) ++ later;
      is = row-split s w a b row n h
          ∙ ap (λ (ps : List Place). front ++ (ps ++ later)) (places-split s p slot b k)
          ∙ middle front (places s p slot) (place s (p + slot)) (places s (p + slot + 1) (b - suc slot)) later;
      count = omega arith;
    }

-- ---- a step among the slots of a holder

-- the slot at `at`, which `holder` holds
abbrev pub spot : Holder → Place → Spot
spot holder at = record { holder = Some holder; place = at }

among : (holder : Holder) (first : Place) (n i : ℕ) (rest : List ℕ) → i < n
    → step_among holder first n (i ∷ rest) ≡ Some (spot holder (place first.segment (first.word + i)), rest)
among holder first n i rest h = if-yes _ _ _ (less-yes i n h)

-- `path` is a number below `n` followed by `rest`, and `x` is the slot of `holder` with that number
record Among (holder : Holder) (first : Place) (n : ℕ) (path : List ℕ) (x : Spot) (rest : List ℕ) : Type 0 where
  number : ℕ
  small : number < n
  is : path ≡ number ∷ rest
  held : x ≡ spot holder (place first.segment (first.word + number))

abbrev spot-or : Spot → Option (Spot × List ℕ) → Spot
spot-or x (Some p) = p.0
spot-or x None = x

abbrev rest-or : List ℕ → Option (Spot × List ℕ) → List ℕ
rest-or rest (Some p) = p.1
rest-or rest None = rest

some-parts : (x y : Spot) (u v : List ℕ)
    → ◌≡◌ {A = Option (Spot × List ℕ)} (Some (x, u)) (Some (y, v)) → (x ≡ y) × (u ≡ v)
some-parts x y u v e = (ap (spot-or x) e, ap (rest-or u) e)

were-among : (holder : Holder) (first : Place) (n : ℕ) (path : List ℕ) (x : Spot) (rest : List ℕ)
    → step_among holder first n path ≡ Some (x, rest) → Among holder first n path x rest
were-among holder first n [] x rest e = absurd (cc)
were-among holder first n (i ∷ path) x rest e =
    pick (λ (o : Option (Spot × List ℕ)). o ≡ Some (x, rest) → Among holder first n (i ∷ path) x rest) (nat_lt i n)
    (Some (spot holder (place first.segment (first.word + i)), path)) None
    (λ t. λ f. let p = some-parts (spot holder (place first.segment (first.word + i))) x path rest f in record {
      number = i;
      small = grind (arith, nat_tests);
      is = ap (λ (l : List ℕ). i ∷ l) p.1;
      held = sym p.0;
    }) (λ t. λ f. absurd (cc)) e

-- ---- a step by the numbers of a slot

-- `numbers` is not empty, and a step by `numbers` leads to `slot`, which `holder` holds
pub record Told (s start : ℕ) (shape : Shape) (pads : ℕ) (numbers : List ℕ) (slot : Place) : Type 0 where
  pub some : 0 < length numbers
  pub holder : Holder
  pub held : IsHeldIn (targets.Content s start shape pads) numbers holder
  pub is : (rest : List ℕ) → step_in s start shape (numbers ++ rest) ≡ Some (spot holder slot, rest)

one-told : (holder : Holder) (s w n i : ℕ) (before : List Place) (slot : Place) (behind : List Place)
    → places s w n ≡ before ++ slot ∷ behind → length before ≡ i → (rest : List ℕ)
    → step_among holder (place s w) n (i ∷ rest) ≡ Some (spot holder slot, rest)
one-told holder s w n i before slot behind e c rest =
    let k = slot-there s w n before slot behind e in
    let small = k.1 in
    among holder (place s w) n i rest (omega arith)
    ∙ ap (λ (p : Place). Some (spot holder p, rest)) (rw (← c) (sym k.0))

pub told : (s start pads : ℕ) (shape : Shape) (before : List Place) (slot : Place) (behind : List Place)
    (numbers : List ℕ) → slots s start shape ≡ before ++ slot ∷ behind
    → AreNumbersOf (targets.Content s start shape pads) (length before) numbers
    → Told s start shape pads numbers slot
told s start pads (shapes.Node a b) before slot behind (i ∷ []) e h = record {
  some = omega arith;
  holder = Struct a b (place s start);
  held = refl;
  is = one-told (Struct a b (place s start)) s (start + a) b i before slot behind e h;
}
told s start pads (shapes.Node a b) before slot behind [] e h = absurd h
told s start pads (shapes.Node a b) before slot behind (i ∷ j ∷ numbers) e h = absurd h
told s start pads (shapes.Many Link n) before slot behind (i ∷ []) e h = record {
  some = omega arith;
  holder = Pointers n (place s start);
  held = refl;
  is = one-told (Pointers n (place s start)) s start n i before slot behind e h;
}
told s start pads (shapes.Many Link n) before slot behind [] e h = absurd h
told s start pads (shapes.Many Link n) before slot behind (i ∷ j ∷ numbers) e h = absurd h
told s start pads (shapes.Many W0 n) before slot behind numbers e h = absurd (none-split before slot behind e)
told s start pads (shapes.Many W1 n) before slot behind numbers e h = absurd (none-split before slot behind e)
told s start pads (shapes.Many W8 n) before slot behind numbers e h = absurd (none-split before slot behind e)
told s start pads (shapes.Many W16 n) before slot behind numbers e h = absurd (none-split before slot behind e)
told s start pads (shapes.Many W32 n) before slot behind numbers e h = absurd (none-split before slot behind e)
told s start pads (shapes.Many W64 n) before slot behind numbers e h = absurd (none-split before slot behind e)
told s start pads (shapes.Many Rows n) before slot behind numbers e h = absurd (none-split before slot behind e)
told s start pads (shapes.Rows n a b span) before slot behind (row ∷ i ∷ []) e h =
    let k = slot-in-rows s (start + 1) a b n before slot behind e in
    let p = row-parts b row i k.row k.slot h.0 k.small (sym h.1 ∙ k.count) in
    let low = k.low in
    let below : row < n = rw (← p.0) at low in
    let at : slot ≡ place s (row_start start a b row + a + i) = rw (← p.0, ← p.1) at k.is in
    record {
      some = omega arith;
      holder = Row row n (place s (row_start start a b row));
      held = refl;
      is = λ rest. if-yes _ _ _ (less-yes row n below)
          ∙ among (Row row n (place s (row_start start a b row))) (place s (row_start start a b row + a)) b i rest h.0
          ∙ ap (λ (p : Place). Some (spot (Row row n (place s (row_start start a b row))) p, rest)) (sym at);
    }
told s start pads (shapes.Rows n a b span) before slot behind [] e h = absurd h
told s start pads (shapes.Rows n a b span) before slot behind (row ∷ []) e h = absurd h
told s start pads (shapes.Rows n a b span) before slot behind (row ∷ i ∷ j ∷ numbers) e h = absurd h

-- ---- the numbers by which a step led to a slot

pub record Taken (s start : ℕ) (shape : Shape) (pads : ℕ) (path : List ℕ) (x : Spot) (rest : List ℕ) : Type 0 where
  pub numbers : List ℕ
  pub is : path ≡ numbers ++ rest
  pub some : 0 < length numbers
  pub before : List Place
  pub behind : List Place
  pub there : slots s start shape ≡ before ++ x.place ∷ behind
  pub are : AreNumbersOf (targets.Content s start shape pads) (length before) numbers
  pub holder : Holder
  pub held : IsHeldIn (targets.Content s start shape pads) numbers holder
  pub holds : x.holder ≡ Some holder

pub taken : (s start pads : ℕ) (shape : Shape) (path : List ℕ) (x : Spot) (rest : List ℕ)
    → step_in s start shape path ≡ Some (x, rest) → Taken s start shape pads path x rest
taken s start pads (shapes.Node a b) path x rest e =
    let k = were-among (Struct a b (place s start)) (place s (start + a)) b path x rest e in
    let r = around-slot s (start + a) b k.number k.small in
    let at : place s (start + a + k.number) ≡ x.place = ap (λ (y : Spot). y.place) (sym k.held) in
    record {
      numbers = k.number ∷ [];
      is = k.is;
      some = omega arith;
      before = r.before;
      behind = r.behind;
      there = rw at at r.is;
      are = r.count;
      holder = Struct a b (place s start);
      held = refl;
      holds = ap (λ (y : Spot). y.holder) k.held;
    }
taken s start pads (shapes.Many Link n) path x rest e =
    let k = were-among (Pointers n (place s start)) (place s start) n path x rest e in
    let r = around-slot s start n k.number k.small in
    let at : place s (start + k.number) ≡ x.place = ap (λ (y : Spot). y.place) (sym k.held) in
    record {
      numbers = k.number ∷ [];
      is = k.is;
      some = omega arith;
      before = r.before;
      behind = r.behind;
      there = rw at at r.is;
      are = r.count;
      holder = Pointers n (place s start);
      held = refl;
      holds = ap (λ (y : Spot). y.holder) k.held;
    }
taken s start pads (shapes.Many W0 n) path x rest e = absurd (cc)
taken s start pads (shapes.Many W1 n) path x rest e = absurd (cc)
taken s start pads (shapes.Many W8 n) path x rest e = absurd (cc)
taken s start pads (shapes.Many W16 n) path x rest e = absurd (cc)
taken s start pads (shapes.Many W32 n) path x rest e = absurd (cc)
taken s start pads (shapes.Many W64 n) path x rest e = absurd (cc)
taken s start pads (shapes.Many Rows n) path x rest e = absurd (cc)
taken s start pads (shapes.Rows n a b span) [] x rest e = absurd (cc)
taken s start pads (shapes.Rows n a b span) (row ∷ path) x rest e =
    let holder = Row row n (place s (row_start start a b row)) in
    let first = place s (row_start start a b row + a) in
    pick (λ (o : Option (Spot × List ℕ)). o ≡ Some (x, rest)
    → Taken s start (shapes.Rows n a b span) pads (row ∷ path) x rest) (nat_lt row n)
    (step_among holder first b path) None
    (λ t. λ f. let k = were-among holder first b path x rest f in
    let below : row < n = grind (arith, nat_tests) in
    let r = around-row s (start + 1) a b n row k.number below k.small in
    let at : place s (row_start start a b row + a + k.number) ≡ x.place =
    ap (λ (y : Spot). y.place) (sym k.held) in
    record {
      numbers = row ∷ k.number ∷ [];
      is = ap (λ (l : List ℕ). row ∷ l) k.is;
      some = omega arith;
      before = r.before;
      behind = r.behind;
      there = rw at at r.is;
      are = (k.small, r.count);
      holder = holder;
      held = refl;
      holds = ap (λ (y : Spot). y.holder) k.held;
    }) (λ t. λ f. absurd (cc)) e

-- ---- numbers lead to a slot of at most one holder

pub held-one : (found : Target) (numbers : List ℕ) (x y : Holder) → IsHeldIn found numbers x
    → IsHeldIn found numbers y → x ≡ y
held-one (targets.Content s start (shapes.Node a b) pads) numbers x y h g = h ∙ sym g
held-one (targets.Content s start (shapes.Many width n) pads) numbers x y h g = h ∙ sym g
held-one (targets.Content s start (shapes.Rows n a b span) pads) (row ∷ slot ∷ []) x y h g = h ∙ sym g
held-one (targets.Content s start (shapes.Rows n a b span) pads) [] x y h g = absurd h
held-one (targets.Content s start (shapes.Rows n a b span) pads) (row ∷ []) x y h g = absurd h
held-one (targets.Content s start (shapes.Rows n a b span) pads) (row ∷ slot ∷ i ∷ numbers) x y h g = absurd h
held-one targets.Nil numbers x y h g = absurd h
held-one (targets.Cap k) numbers x y h g = absurd h
