-- Lemmas on the ranges that remain after some messages, compared with all ranges. (For `run_only` and `picking`.)
use Rattle.std.proofs.Common.{◌≡◌, ◌⊎◌, inl, inr, ℕ, ◌+◌, ◌<◌, ◌≤◌, max, List, [], ◌∷◌, Bool, true, false, nat_le}
use Rattle.std.proofs.Common.{nat_lt, refl, sym, subst, ◌∙◌, arith}
use Rattle.std.proofs.Math.Nat.{le-max_left, le-max_right}
use Rattle.std.proofs.lemmas.Bool.Decides.{nat_tests}
use Rattle.capn_serve.specs.declared.pick.Range.{Range}
use Rattle.capn_serve.specs.Pick.{AreAbove, AreAscending, is_in, is_picked, last_of, picked}
use Rattle.capn_serve.specs.inner.Picker.{is_first, is_none, left}

known : (b : Bool) → (b ≡ true) ⊎ (b ≡ false)
known true = inl refl
known false = inr refl

le_is : (a b : ℕ) → a ≤ b → nat_le a b ≡ true
le_is a b h = grind (arith, nat_tests)

gt_is : (a b : ℕ) → b < a → nat_le a b ≡ false
gt_is a b h = grind (arith, nat_tests)

ge_is : (a b : ℕ) → b ≤ a → nat_lt a b ≡ false
ge_is a b h = grind (arith, nat_tests)

is_lt : (a b : ℕ) → nat_lt a b ≡ true → a < b
is_lt a b h = grind (arith, nat_tests)

is_ge : (a b : ℕ) → nat_lt a b ≡ false → b ≤ a
is_ge a b h = grind (arith, nat_tests)

not_max : (a b n : ℕ) → a ≤ n → b ≤ n → max a b ≤ n
not_max a b n h k = grind (arith, nat_tests)

-- ---- a number in a range

within : (r : Range) (n : ℕ) → r.from ≤ n → n ≤ r.to → is_in r n ≡ true
within r n low high = rw (le_is r.from n low, le_is n r.to high) refl

before : (r : Range) (n : ℕ) → n < r.from → is_in r n ≡ false
before r n low = rw (gt_is r.from n low) refl

behind : (r : Range) (n : ℕ) → r.to < n → is_in r n ≡ false
behind r n high = elim (known (nat_le r.from n)) [
  | inl low ↦ rw (low, gt_is n r.to high) refl
  | inr low ↦ rw low refl
]

none_reached : (rs : List Range) (n : ℕ) → last_of rs < n → is_picked rs n ≡ false
none_reached [] n h = refl
none_reached (r ∷ rs) n h =
    let first : r.to < n = omega (arith, h, le-max_left r.to (last_of rs)) in
    let others : last_of rs < n = omega (arith, h, le-max_right r.to (last_of rs)) in
    rw (behind r n first, none_reached rs n others) refl

none_above : (rs : List Range) (before_all n : ℕ) → AreAbove before_all rs → n ≤ before_all → is_picked rs n ≡ false
none_above [] before_all n h k = refl
none_above (r ∷ rs) before_all n (low, some, more) k =
    rw (before r n (omega (arith, low, k)), none_above rs r.to n more (omega (arith, low, some, k))) refl

-- A message after the last number of the ranges writes nothing.
pub picked_none : (ranges : List Range) (index : ℕ) (frame : List ℕ) → last_of ranges ≤ index
    → picked ranges (index + 1) frame ≡ []
picked_none ranges index frame past = rw (none_reached ranges (index + 1) (omega (arith, past))) refl

-- ---- the ranges that are left after a number of messages

-- The ranges ascend, and the last number of the first range is above `index`.
abbrev pub AreLeft : ℕ → List Range → Type 0
AreLeft index [] = Unit {0}
AreLeft index (r ∷ rs) = (index < r.to) × (r.from ≤ r.to) × AreAbove r.to rs

-- `rest` are the ranges that remain of `ranges` after the first `index` messages. Both lists have the same numbers
-- above `index`.
pub record Follows (ranges : List Range) (index : ℕ) (rest : List Range) : Type 0 where
  pub left : AreLeft index rest
  pub same : (n : ℕ) → index < n → is_picked ranges n ≡ is_picked rest n
  pub upper : (b : ℕ) → index ≤ b → last_of rest ≤ b → last_of ranges ≤ b
  pub lower : last_of rest ≤ last_of ranges

above_left : (rs : List Range) (index : ℕ) → AreAbove index rs → AreLeft index rs
above_left [] index h = tt
above_left (r ∷ rs) index (low, some, more) = (omega (arith, low, some), some, more)

pub follows_first : (ranges : List Range) → AreAscending ranges → Follows ranges 0 ranges
follows_first ranges h = record {
  left = above_left ranges 0 h;
  same = λ n k. refl;
  upper = λ b k l. l;
  lower = omega arith;
}

-- `Follows` still holds after one more message.
pub follows_next : (ranges rest : List Range) (index : ℕ) → Follows ranges index rest
    → Follows ranges (index + 1) (left rest (index + 1))
follows_next ranges [] index h = record {
  left = tt;
  same = λ n k. h.same n (omega (arith, k));
  upper = λ b k l. h.upper b (omega (arith, k)) l;
  lower = h.lower;
}
follows_next ranges (r ∷ rs) index h =
    elim (known (nat_lt (index + 1) r.to)) [
      | inl going ↦ subst (Follows ranges (index + 1)) (sym (stays going)) (record {
        left = (is_lt (index + 1) r.to going, h.left.1, h.left.2);
        same = λ n k. h.same n (omega (arith, k));
        upper = λ b k l. h.upper b (omega (arith, k)) l;
        lower = h.lower;
      })
      | inr over ↦ subst (Follows ranges (index + 1)) (sym (drops over)) (dropped (is_ge (index + 1) r.to over))
    ]
  where
    stays : nat_lt (index + 1) r.to ≡ true → left (r ∷ rs) (index + 1) ≡ r ∷ rs
    stays going = rw going refl

    drops : nat_lt (index + 1) r.to ≡ false → left (r ∷ rs) (index + 1) ≡ rs
    drops over = rw over refl

    dropped : r.to ≤ index + 1 → Follows ranges (index + 1) rs
    dropped over =
        let reached : r.to ≡ index + 1 = omega (arith, over, h.left.0) in
        record {
          left = above_left rs (index + 1) (subst (λ (n : ℕ). AreAbove n rs) reached h.left.2);
          same = λ n k. h.same n (omega (arith, k)) ∙ without n (omega (arith, k, over));
          upper = λ b k l. h.upper b (omega (arith, k)) (not_max r.to (last_of rs) b (omega (arith, over, k)) l);
          lower = omega (arith, h.lower, le-max_right r.to (last_of rs));
        }
      where
        without : (n : ℕ) → r.to < n → is_picked (r ∷ rs) n ≡ is_picked rs n
        without n high = rw (behind r n high) refl

-- The first range of `rest` decides whether the next message is picked.
pub first_decides : (ranges rest : List Range) (index : ℕ) → Follows ranges index rest
    → is_first rest (index + 1) ≡ is_picked ranges (index + 1)
first_decides ranges [] index h = sym (h.same (index + 1) (omega arith))
first_decides ranges (r ∷ rs) index h = decides ∙ sym (h.same (index + 1) (omega arith))
  where
    decides : is_first (r ∷ rs) (index + 1) ≡ is_picked (r ∷ rs) (index + 1)
    decides = elim (known (nat_lt (index + 1) r.from)) [
      | inl low ↦
          (let under = is_lt (index + 1) r.from low in
          rw (
            low,
            before r (index + 1) under,
            none_above rs r.to (index + 1) h.left.2 (omega (arith, h.left.0)),
          ) refl)
      | inr low ↦
          (let high : index + 1 ≤ r.to = omega (arith, h.left.0) in
          rw (low, ge_is r.to (index + 1) high, within r (index + 1) (is_ge (index + 1) r.from low) high) refl)
    ]

pub none_left : (ranges rest : List Range) (index : ℕ) → Follows ranges index rest → is_none rest ≡ true
    → last_of ranges ≤ index
none_left ranges [] index h e = h.upper index (omega arith) (omega arith)
none_left ranges (r ∷ rs) index h e = absurd (cc)

pub some_left : (ranges rest : List Range) (index : ℕ) → Follows ranges index rest → is_none rest ≡ false
    → index < last_of ranges
some_left ranges [] index h e = absurd (cc)
some_left ranges (r ∷ rs) index h e = omega (arith, h.left.0, h.lower, le-max_left r.to (last_of rs))
