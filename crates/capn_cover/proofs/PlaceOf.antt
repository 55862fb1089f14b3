-- The place of a word, found by the segment in which its number lies.
use Rattle.std.proofs.Common.{◌≡◌, ◌⊎◌, inl, inr, ℕ, zero, suc, ◌+◌, ◌-◌, ◌<◌, ◌≤◌, nat_lt, List, [], ◌∷◌, length, take}
use Rattle.std.proofs.Common.{slice_index, Option, Some, None, refl, ap, ap₂, sym, ◌∙◌, arith}
use Rattle.std.proofs.lemmas.Bool.{cases_lt}
use Rattle.std.proofs.lemmas.Bool.Decides.{nat_tests}
use Rattle.std.proofs.lemmas.List.{get_or_past}
use Rattle.std.proofs.lemmas.List.Sums.{sum_by-cons}
use Rattle.capn_words.specs.Message.{IsPlace, segment_at, total}
use Rattle.capn_words.specs.declared.space.Place.{Place}
use Rattle.capn_words.proofs.shared.Choices.{pick}
use Rattle.capn_cover.specs.Numbers.{number, place_from, CountsBefore}
use Rattle.capn_cover.specs.inner.Laid.{IsLastBefore}
use Rattle.capn_cover.proofs.Before.{next}

-- the place of word `w` of segment `s`, or `None`
abbrev here : ℕ → ℕ → Option Place
here s w = Some (record { segment = s; word = w })

-- a number that lies in segment `k` of the segments, of which the first is segment `s`
place-here : (m : List (List ℕ)) (k s n : ℕ) → k < length m → total (take k m) ≤ n
    → n < total (take k m) + length (segment_at m k) → place_from s m n ≡ here (s + k) (n - total (take k m))
place-here [] k s n h l b = absurd (omega arith)
place-here (ws ∷ m) zero s n h l b =
    pick (λ (o : Option Place). o ≡ here (s + 0) (n - 0)) (nat_lt n (length ws)) (here s n)
    (place_from (suc s) m (n - length ws))
    (λ t. let x : s ≡ s + 0 = omega arith in let y : n ≡ n - 0 = omega arith in ap₂ here x y)
    (λ f. let no : length ws ≤ n = grind (arith, nat_tests) in absurd (omega arith))
place-here (ws ∷ m) (suc k) s n h l b =
    let c : total (take (suc k) (ws ∷ m)) ≡ length ws + total (take k m) = sum_by-cons length ws (take k m) in
    let d : length (segment_at (ws ∷ m) (suc k)) ≡ length (segment_at m k) = refl in
    let z : length (ws ∷ m) ≡ suc (length m) = refl in
    pick (λ (o : Option Place). o ≡ here (s + suc k) (n - total (take (suc k) (ws ∷ m)))) (nat_lt n (length ws))
    (here s n) (place_from (suc s) m (n - length ws))
    (λ t. let no : n < length ws = grind (arith, nat_tests) in absurd (omega arith))
    (λ f. let x : suc s + k ≡ s + suc k = omega arith in
    let y : n - length ws - total (take k m) ≡ n - total (take (suc k) (ws ∷ m)) = omega arith in
    place-here m k (suc s) (n - length ws) (omega arith) (omega arith) (omega arith) ∙ ap₂ here x y)

-- a number behind the last word
place-none : (m : List (List ℕ)) (s n : ℕ) → total m ≤ n → place_from s m n ≡ None
place-none [] s n h = refl
place-none (ws ∷ m) s n h =
    let c : total (ws ∷ m) ≡ length ws + total m = sum_by-cons length ws m in
    pick (λ (o : Option Place). o ≡ None) (nat_lt n (length ws)) (here s n) (place_from (suc s) m (n - length ws))
    (λ t. let no : n < length ws = grind (arith, nat_tests) in absurd (omega arith))
    (λ f. place-none m (suc s) (n - length ws) (omega arith))

total-all : (m : List (List ℕ)) → total (take (length m) m) ≡ total m
total-all [] = refl
total-all (ws ∷ m) =
    sum_by-cons length ws (take (length m) m) ∙ ap (λ (k : ℕ). length ws + k) (total-all m)
    ∙ sym (sum_by-cons length ws m)

module _ (m : List (List ℕ)) (before : List ℕ) (n s w : ℕ) (counts : CountsBefore m before)
    (last : IsLastBefore before n s) (e : w ≡ n - slice_index before s) where
  pub place-found : w < length (segment_at m s) → place_from 0 m n ≡ here s w
  place-found h =
      let a = last.exists in
      let b = counts.count in
      let c = counts.each s (omega arith) in
      let d = last.low in
      let x : 0 + s ≡ s = omega arith in
      let y : n - total (take s m) ≡ w = omega arith in
      place-here m s 0 n (omega arith) (omega arith) (omega arith) ∙ ap₂ here x y

  behind : length (segment_at m s) ≤ w → (s + 1 < length before) ⊎ (length before ≤ s + 1) → total m ≤ n
  behind h (inl more) =
      let a = counts.count in
      let b = counts.each s (omega arith) in
      let c = counts.each (s + 1) (omega arith) in
      let d = next m s (omega arith) in
      let f = last.high more in
      let g = last.low in
      absurd (omega arith)
  behind h (inr end) =
      let a = last.exists in
      let b = counts.count in
      let c = counts.each s (omega arith) in
      let d = next m s (omega arith) in
      let g = last.low in
      let x : length m ≡ s + 1 = omega arith in
      let all = total-all m in
      let y = rw x at all in
      omega arith

  pub place-lost : length (segment_at m s) ≤ w → place_from 0 m n ≡ None
  place-lost h = place-none m 0 n (behind h (cases_lt (s + 1) (length before)))

-- the place of the number of a place
pub place-of-number : (m : List (List ℕ)) (at : Place) → IsPlace m at → place_from 0 m (number m at) ≡ Some at
place-of-number m at h = by (cases_lt at.segment (length m))
  where
    by : (at.segment < length m) ⊎ (length m ≤ at.segment) → place_from 0 m (number m at) ≡ Some at
    by (inl l) =
        let x : 0 + at.segment ≡ at.segment = omega arith in
        let y : number m at - total (take at.segment m) ≡ at.word = omega arith in
        place-here m at.segment 0 (number m at) l (omega arith) (omega arith) ∙ ap₂ here x y
    by (inr past) =
        let e = get_or_past m at.segment [] past in
        let z = ap (λ (ws : List ℕ). length ws) e in
        absurd (omega arith)
