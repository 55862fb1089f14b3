-- The first `n` bits of two lists of words are equal exactly if the `n / 64` complete words and the last `n % 64` bits
-- are equal. (For `are_same_bits`.)
use Rattle.std.proofs.Common.{◌≡◌, ◌≢◌, ℕ, ◌+◌, ◌<◌, ◌≤◌, ◌/◌, ◌%◌, ◌^◌, List, [], ◌∷◌, ◌++◌, length, take, drop}
use Rattle.std.proofs.Common.{slice_index, ap, ap₂, sym, ◌∙◌, arith, length-drop}
use Rattle.std.proofs.lemmas.Grind.{same_number_lists}
use Rattle.std.proofs.lemmas.List.{get_or-take, get_or-drop, get_or_append_left, get_or_at, length-take-le}
use Rattle.capn_layout.specs.FirstBits.{first_bits, last_bits}
use Rattle.capn_layout.proofs.shared.FirstBits.{some-last}
use Rattle.capn_same.specs.inner.Runs.{AreEqual}

module _ (xs : List ℕ) (w n : ℕ) (room : w + n / 64 ≤ length xs) where
  long : length (take (n / 64) (drop w xs)) ≡ n / 64
  long = let d = length-drop w xs in length-take-le (n / 64) (drop w xs) (omega arith)

  whole-at : (i : ℕ) → i < n / 64 → slice_index (first_bits n (drop w xs)) i ≡ slice_index xs (w + i)
  whole-at i lt =
      get_or_append_left (take (n / 64) (drop w xs)) (last_bits (n % 64) (drop (n / 64) (drop w xs))) 0 i
      (let l = long in omega arith)
      ∙ get_or-take (n / 64) (drop w xs) i 0 lt ∙ get_or-drop w xs i 0

  last-is : n % 64 ≢ 0 → last_bits (n % 64) (drop (n / 64) (drop w xs))
      ≡ slice_index xs (w + n / 64) % 2 ^ (n % 64) ∷ []
  last-is ne =
      let z : w + (n / 64 + 0) ≡ w + n / 64 = omega arith in
      some-last (n % 64) (drop (n / 64) (drop w xs)) (omega arith)
      ∙ ap (λ (x : ℕ). x % 2 ^ (n % 64) ∷ [])
      (get_or-drop (n / 64) (drop w xs) 0 0 ∙ get_or-drop w xs (n / 64 + 0) 0 ∙ ap (slice_index xs) z)

  last-at : n % 64 ≢ 0 → slice_index (first_bits n (drop w xs)) (n / 64)
      ≡ slice_index xs (w + n / 64) % 2 ^ (n % 64)
  last-at ne =
      ap (λ (l : List ℕ). slice_index (take (n / 64) (drop w xs) ++ l) (n / 64)) (last-is ne)
      ∙ get_or_at (take (n / 64) (drop w xs)) (slice_index xs (w + n / 64) % 2 ^ (n % 64)) [] 0 (n / 64) long

module _ (xs ys : List ℕ) (w v n : ℕ) (room : w + n / 64 ≤ length xs) (space : v + n / 64 ≤ length ys) where
  abbrev pub SameBits : Type 0
  SameBits = first_bits n (drop w xs) ≡ first_bits n (drop v ys)

  pub equal-of_bits : SameBits → AreEqual xs w ys v (n / 64)
  equal-of_bits e i lt =
      sym (whole-at xs w n room i lt) ∙ ap (λ (l : List ℕ). slice_index l i) e ∙ whole-at ys v n space i lt

  pub last-of_bits : n % 64 ≢ 0 → SameBits
      → slice_index xs (w + n / 64) % 2 ^ (n % 64) ≡ slice_index ys (v + n / 64) % 2 ^ (n % 64)
  last-of_bits ne e =
      sym (last-at xs w n room ne) ∙ ap (λ (l : List ℕ). slice_index l (n / 64)) e ∙ last-at ys v n space ne

  whole : AreEqual xs w ys v (n / 64) → take (n / 64) (drop w xs) ≡ take (n / 64) (drop v ys)
  whole eq =
      let a = long xs w n room in
      let b = long ys v n space in
      same_number_lists (take (n / 64) (drop w xs)) (take (n / 64) (drop v ys)) (a ∙ sym b)
      (λ i lt.
      get_or-take (n / 64) (drop w xs) i 0 (omega arith) ∙ get_or-drop w xs i 0 ∙ eq i (omega arith)
      ∙ sym (get_or-drop v ys i 0) ∙ sym (get_or-take (n / 64) (drop v ys) i 0 (omega arith)))

  pub bits-of_equal : n % 64 ≡ 0 → AreEqual xs w ys v (n / 64) → SameBits
  bits-of_equal e eq =
      ap₂ (λ (l : List ℕ) (r : ℕ). l ++ last_bits r (drop (n / 64) (drop w xs))) (whole eq) e
      ∙ ap (λ (r : ℕ). take (n / 64) (drop v ys) ++ last_bits r (drop (n / 64) (drop v ys))) (sym e)

  pub bits-of_both : n % 64 ≢ 0 → AreEqual xs w ys v (n / 64)
      → slice_index xs (w + n / 64) % 2 ^ (n % 64) ≡ slice_index ys (v + n / 64) % 2 ^ (n % 64) → SameBits
  bits-of_both ne eq e =
      ap₂ (λ (l r : List ℕ). l ++ r) (whole eq)
      (last-is xs w n room ne ∙ ap (λ (x : ℕ). x ∷ []) e ∙ sym (last-is ys v n space ne))
