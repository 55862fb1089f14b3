-- The list with the number of words before each segment, made segment by segment. (For `number_of` and `words_before`.)
use Rattle.std.proofs.Common.{◌≡◌, ℕ, ◌+◌, ◌<◌, ◌≤◌, nat_lt, Bool, true, false, List, [], ◌∷◌, ◌++◌, length, take}
use Rattle.std.proofs.Common.{slice_index, refl, ap, subst, ◌∙◌, arith}
use Rattle.std.proofs.lemmas.Bool.Decides.{nat_tests}
use Rattle.std.proofs.Math.ListN.{get_or-append}
use Rattle.std.proofs.Math.Seq.{get_or-append_seam}
use Rattle.std.proofs.lemmas.List.{length-append}
use Rattle.std.proofs.lemmas.List.Sums.{sum_by_more, sum_by_more_le}
use Rattle.capn_words.specs.Message.{segment_at, total}

module _ (m : List (List ℕ)) (s : ℕ) (below : s < length m) where
  pub next : total (take (s + 1) m) ≡ total (take s m) + length (segment_at m s)
  next = sum_by_more length m s [] below

  pub within : total (take s m) + length (segment_at m s) ≤ total m
  within = sum_by_more_le length m s [] below

-- The `n` elements of `xs` are the numbers of words of `m` before each of its first `n` segments.
pub record AreBefore (m : List (List ℕ)) (xs : List ℕ) (n : ℕ) : Type 0 where
  pub count : length xs ≡ n
  pub each : (s : ℕ) → s < n → slice_index xs s ≡ total (take s m)

module _ (m : List (List ℕ)) (xs : List ℕ) (n x : ℕ) (h : AreBefore m xs n) (e : x ≡ total (take n m)) where
  one : (s : ℕ) → s < n + 1 → (b : Bool) → nat_lt s n ≡ b → slice_index (xs ++ x ∷ []) s ≡ total (take s m)
  one s below true t =
      let before : s < n = grind (arith, nat_tests) in
      let number = h.count in
      get_or-append xs (x ∷ []) 0 s (omega arith) ∙ h.each s before
  one s below false t =
      let past : n ≤ s = grind (arith, nat_tests) in
      let number = h.count in
      let same : length xs ≡ s = omega arith in
      let last : n ≡ s = omega arith in
      subst (λ (k : ℕ). slice_index (xs ++ x ∷ []) k ≡ x) same (get_or-append_seam xs x [] 0)
      ∙ e ∙ ap (λ (k : ℕ). total (take k m)) last

  pub one_more : AreBefore m (xs ++ x ∷ []) (n + 1)
  one_more =
      let number = h.count in
      record {
        count = length-append xs (x ∷ []) ∙ omega arith;
        each = λ s below. one s below (nat_lt s n) refl;
      }
