-- The remaining slots of an object, one after another. (For `index_visits.rt`, `slots_left.rt` and `survey_loop.rt`.)
use Rattle.std.proofs.Common.{Bool, true, false, IsTrue, ◌↔◌, ◌≡◌, ℕ, zero, suc, ◌+◌, ◌-◌, ◌*◌, ◌<◌, [], ◌∷◌, ◌++◌}
use Rattle.std.proofs.Common.{refl, arith}
use Rattle.capn_walk.specs.Visits.{places, row_places}
use Rattle.capn_walk.specs.declared.slots_left.SlotsLeft.{SlotsLeft}
use Rattle.capn_walk.specs.inner.SlotsLeft.{places_of, owed, HasRows}

pub no-slots : (s w a n : ℕ) → row_places s w a 0 n ≡ []
no-slots s w a zero = refl
no-slots s w a (suc n) = no-slots s (w + a + 0) a n

pub no-rows : (n b : ℕ) → (0 < n → 0 < b) → n * b ≡ 0 → n ≡ 0
no-rows zero b h e = refl
no-rows (suc n) b h e = let k = h (omega arith) in let p : suc n * b ≡ b + n * b = omega arith in absurd (omega arith)

pub next-place : (s w n : ℕ) → 0 < n → places s w n ≡ record { segment = s; word = w } ∷ places s (w + 1) (n - 1)
next-place s w zero h = absurd (omega arith)
next-place s w (suc n) h = let e : suc n - 1 ≡ n = omega arith in rw e refl

-- if the current row has a slot left, `places_of f` begins with the place of the next slot
pub taken : (f : SlotsLeft) → 0 < f.left →
    places_of f ≡ record {
      segment = f.segment;
      word =
          f.next;
    } ∷ (places f.segment (f.next + 1) (f.left - 1)
    ++ row_places f.segment (f.next + 1 + (f.left - 1)) f.words f.slots f.rows)
taken f h =
    let e : f.next + 1 + (f.left - 1) ≡ f.next + f.left = omega arith in
    rw (e, next-place f.segment f.next f.left h) refl

pub done-rows : (l r b : ℕ) → (0 < r → 0 < b) → l ≡ 0 → (r ≡ 0 → l + r * b ≡ 0) × (l + r * b ≡ 0 → r ≡ 0)
done-rows l r b h e = (λ z. rw (e, z) (omega arith), λ z. no-rows r b h (omega arith))

pub nothing-left : (f : SlotsLeft) → HasRows f → owed f ≡ 0 → places_of f ≡ []
nothing-left f h e =
    let l : f.left ≡ 0 = omega arith in
    let r : f.rows ≡ 0 = no-rows f.rows f.slots h (omega arith) in
    rw (l, r) refl

pub none-owed : (f : SlotsLeft) → f.left ≡ 0 → f.rows ≡ 0 → owed f ≡ 0
none-owed f l r = rw (l, r) (omega arith)

pub not-done : (b : Bool) (n : ℕ) → IsTrue b ↔ (n ≡ 0) → b ≡ false → 0 < n
not-done b zero h e = let t = h.1 refl in absurd cc
not-done b (suc n) h e = omega arith

pub done : (b : Bool) (n : ℕ) → IsTrue b ↔ (n ≡ 0) → b ≡ true → n ≡ 0
done b n h e = h.0 e
