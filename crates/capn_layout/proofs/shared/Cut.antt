-- `kept_words`, the length of a list up to its last number that is not zero. (For `kept_above`, `kept_below`,
-- `kept_each_counted` and capn_canon.)
use Rattle.std.proofs.Common.{◌≡◌, ◌≢◌, ◌⊎◌, inl, inr, ℕ, zero, suc, ◌+◌, ◌-◌, ◌<◌, ◌≤◌, ◌==◌, max, Bool, List, [], ◌∷◌}
use Rattle.std.proofs.Common.{length, take, drop, slice_index, refl, ap, sym, ◌∙◌, arith}
use Rattle.std.proofs.lemmas.Bool.Decides.{nat_tests}
use Rattle.std.proofs.lemmas.List.{get_or-drop, get_or-take}
use Rattle.capn_value.specs.Trim.{kept_behind, kept_words}
use Rattle.capn_layout.proofs.shared.KeptLengths.{kept_words-le}

behind-zero : (x n k : ℕ) → x ≡ 0 → n ≤ 0 → kept_behind (x == 0) n ≤ k
behind-zero x n k e h = grind (arith, nat_tests)

behind-more : (b : Bool) (n k : ℕ) → n ≤ k → kept_behind b n ≤ suc k
behind-more b n k h = grind (arith, nat_tests)

behind-here : (x n : ℕ) → x ≢ 0 → 0 < kept_behind (x == 0) n
behind-here x n e = grind (arith, nat_tests)

behind-above : (b : Bool) (n k : ℕ) → k < n → suc k < kept_behind b n
behind-above b n k h = grind (arith, nat_tests)

-- If all numbers of `xs` from index `n` on are zero, `kept_words xs` is at most `n`.
pub zeros-cut : (xs : List ℕ) (n : ℕ) → ((k : ℕ) → n ≤ k → slice_index xs k ≡ 0) → kept_words xs ≤ n
zeros-cut [] n h = omega arith
zeros-cut (x ∷ xs) zero h =
    behind-zero x (kept_words xs) 0 (h 0 (omega arith)) (zeros-cut xs 0 (λ k l. h (suc k) (omega arith)))
zeros-cut (x ∷ xs) (suc n) h = behind-more (x == 0) (kept_words xs) n (zeros-cut xs n (λ k l. h (suc k) (omega arith)))

-- If number `k` of `xs` isn't zero, `k` is below `kept_words xs`.
pub others-kept : (xs : List ℕ) (k : ℕ) → slice_index xs k ≢ 0 → k < kept_words xs
others-kept [] k h = absurd (omega arith)
others-kept (x ∷ xs) zero h = behind-here x (kept_words xs) h
others-kept (x ∷ xs) (suc k) h = behind-above (x == 0) (kept_words xs) k (others-kept xs k h)

module _ (seg : List ℕ) (w count : ℕ) where
  abbrev part : List ℕ
  part = take count (drop w seg)

  at-part : (k : ℕ) → k < count → slice_index part k ≡ slice_index seg (w + k)
  at-part k h = get_or-take count (drop w seg) k 0 h ∙ get_or-drop w seg k 0

  past-part : (xs : List ℕ) (n k : ℕ) → n ≤ k → slice_index (take n xs) k ≡ 0
  past-part [] zero k h = omega arith
  past-part [] (suc n) k h = omega arith
  past-part (x ∷ xs) zero k h = omega arith
  past-part (x ∷ xs) (suc n) zero h = absurd (omega arith)
  past-part (x ∷ xs) (suc n) (suc k) h = past-part xs n k (omega arith)

  -- All words of `part` from index `n` on are zero.
  abbrev pub AreZeros : ℕ → Type 0
  AreZeros n = (k : ℕ) → n ≤ k → k < count → slice_index seg (w + k) ≡ 0

  pub cut : (n : ℕ) → AreZeros n → kept_words part ≤ n
  cut n h = zeros-cut part n (λ k l. both k l)
    where
      both : (k : ℕ) → n ≤ k → slice_index part k ≡ 0
      both k l = from (decided k)
        where
          decided : (k : ℕ) → (k < count) ⊎ (count ≤ k)
          decided k = grind arith

          from : (k < count) ⊎ (count ≤ k) → slice_index part k ≡ 0
          from (inl a) = at-part k a ∙ h k l a
          from (inr b) = past-part (drop w seg) count k b

  -- If the words of `part` from index `n` on are zero and word `n - 1` isn't zero, `n` is the greater of `least` and
  -- `kept_words part`.
  pub kept-found : (least n : ℕ) → least < n → n ≤ count → AreZeros n → slice_index seg (w + (n - 1)) ≢ 0
      → n ≡ max least (kept_words part)
  kept-found least n l le h ne =
      let a = cut n h in
      let e = at-part (n - 1) (omega arith) in
      let b = others-kept part (n - 1) (λ z. ne (sym e ∙ z)) in
      omega arith

  -- If `n` is `least` and the words of `part` from index `n` on are zero, `n` is the greater of `least` and
  -- `kept_words part`.
  pub kept-least : (least n : ℕ) → n ≤ least → least ≤ n → AreZeros n → n ≡ max least (kept_words part)
  kept-least least n l le h =
      let a = cut n h in
      omega arith

zeros-after : (k n : ℕ) (xs : List ℕ) → k ≤ n → ((j : ℕ) → k ≤ j → j < n → slice_index xs j ≡ 0)
    → kept_words (take k xs) ≡ kept_words (take n xs)
zeros-after zero n xs l h =
    let c = cut xs 0 n 0 (λ j a b. let e : 0 + j ≡ j = omega arith in rw e (h j a b)) in omega arith
zeros-after (suc k) zero xs l h = absurd (omega arith)
zeros-after (suc k) (suc n) [] l h = refl
zeros-after (suc k) (suc n) (x ∷ xs) l h =
    ap (kept_behind (x == 0)) (zeros-after k n xs (omega arith) (λ j a b. h (suc j) (omega arith) (omega arith)))

-- If the last of the `count` words from word `w` on is zero, leaving it out does not change `kept_words`.
pub last-cut : (seg : List ℕ) (w count : ℕ) → 0 < count → slice_index seg (w + (count - 1)) ≡ 0
    → kept_words (take (count - 1) (drop w seg)) ≡ kept_words (take count (drop w seg))
last-cut seg w count some z =
    zeros-after (count - 1) count (drop w seg) (omega arith)
    (λ j a b. let d : j ≡ count - 1 = omega arith in get_or-drop w seg j 0 ∙ rw d z)

pub part-le : (n : ℕ) (xs : List ℕ) → kept_words (take n xs) ≤ n
part-le n xs = let a = kept_words-le (take n xs) in let b = take-short n xs in omega arith
  where
    take-short : (n : ℕ) (xs : List ℕ) → length (take n xs) ≤ n
    take-short zero xs = omega arith
    take-short (suc n) [] = omega arith
    take-short (suc n) (x ∷ xs) = let a = take-short n xs in omega arith

pub take-less : (k n : ℕ) (xs : List ℕ) → k ≤ n → take k (take n xs) ≡ take k xs
take-less zero n xs h = refl
take-less (suc k) zero xs h = absurd (omega arith)
take-less (suc k) (suc n) [] h = refl
take-less (suc k) (suc n) (x ∷ xs) h = ap (λ (ys : List ℕ). x ∷ ys) (take-less k n xs (omega arith))

-- The two lemmas of this block: `kept_words` of the `count` words from word `w` on is `count` if and only if the last
-- of these words isn't zero.
module _ (seg : List ℕ) (w count : ℕ) (some : 0 < count) where
  pub all-kept : slice_index seg (w + (count - 1)) ≢ 0 → kept_words (take count (drop w seg)) ≡ count
  all-kept h =
      let e = kept-found seg w count 0 count some (omega arith) (λ k l m. absurd (omega arith)) h in
      omega arith

  pub last-kept : kept_words (take count (drop w seg)) ≡ count → slice_index seg (w + (count - 1)) ≡ 0 → ⊥
  last-kept e z =
      let c = cut seg w count (count - 1) (λ k l m. let d : k ≡ count - 1 = omega arith in rw d z) in
      omega arith
