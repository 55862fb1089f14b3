-- The number of a word is below the number of all words.
use Rattle.std.proofs.Common.{◌≡◌, ℕ, zero, suc, ◌+◌, ◌<◌, ◌≤◌, List, [], ◌∷◌, length, take, refl, ap, sym, ◌∙◌}
use Rattle.std.proofs.Common.{inl, inr, arith}
use Rattle.std.proofs.Math.ListN.{get_or-eq_default}
use Rattle.std.proofs.lemmas.Bool.{cases_lt}
use Rattle.std.proofs.lemmas.List.Sums.{sum_by_more, sum_by_more_le, sum_by-cons}
use Rattle.capn_words.specs.Message.{segment_at, total, IsPlace}
use Rattle.capn_words.specs.declared.space.Place.{Place}
use Rattle.capn_cover.specs.Numbers.{number}
use Rattle.capn_lines.specs.Sums.{sum_to}

module _ (m : List (List ℕ)) where
  -- a segment that has a word exists
  pub exists : (at : Place) → IsPlace m at → at.segment < length m
  exists at h = elim (cases_lt at.segment (length m)) [
    | inl l ↦ l
    | inr l ↦ let e = ap length (get_or-eq_default m [] l) in absurd (omega arith)
  ]

  pub number-within : (at : Place) → IsPlace m at → number m at < total m
  number-within at h =
      let l = exists at h in
      let a = sum_by_more_le length m at.segment [] l in
      omega arith

  pub total-next : (s : ℕ) → s < length m → total (take (s + 1) m) ≡ total (take s m) + length (segment_at m s)
  total-next s l = sum_by_more length m s [] l

  take-all : (xs : List (List ℕ)) → total (take (length xs) xs) ≡ total xs
  take-all [] = refl
  take-all (x ∷ xs) =
      sum_by-cons length x (take (length xs) xs) ∙ ap (λ (k : ℕ). length x + k) (take-all xs)
      ∙ sym (sum_by-cons length x xs)

  total-so-far : (n : ℕ) → n ≤ length m → sum_to (λ s. length (segment_at m s)) n ≡ total (take n m)
  total-so-far zero h = refl
  total-so-far (suc n) h =
      let a = total-so-far n (omega arith) in
      let c = total-next n (omega arith) in
      let d : n + 1 ≡ suc n = omega arith in
      let e = rw d at c in
      omega arith

  -- the words of all segments
  pub total-sum : sum_to (λ s. length (segment_at m s)) (length m) ≡ total m
  total-sum = total-so-far (length m) (omega arith) ∙ take-all m
