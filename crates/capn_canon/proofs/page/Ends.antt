-- Trimming keeps all words of a section if and only if the section does not end in a zero word. The words of a list are
-- in place if and only if no bit is set after its last element. (For `LaidFollows` and `Stands`.)
use Rattle.std.proofs.Common.{◌≡◌, ◌≢◌, ◌⊎◌, inl, inr, ℕ, zero, suc, ◌+◌, ◌-◌, ◌*◌, ◌/◌, ◌%◌, ◌^◌, ◌<◌, ◌≤◌, List, []}
use Rattle.std.proofs.Common.{◌∷◌, length, take, drop, slice_index, ap, sym, subst, ◌∙◌, arith}
use Rattle.std.proofs.Common.{length-drop}
use Rattle.std.proofs.Math.Nat.{mod-lt, mod-eq_of_lt, pow-succ', pow-zero}
use Rattle.std.proofs.lemmas.List.{get_or-drop, length-take-le}
use Rattle.capn_value.specs.Trim.{kept_words}
use Rattle.capn_layout.specs.FirstBits.{last_bits, first_bits}
use Rattle.capn_layout.specs.RowWords.{kept_each}
use Rattle.capn_layout.proofs.shared.Cut.{all-kept, last-kept, part-le}
use Rattle.capn_layout.proofs.shared.EachRow.{kept_each-le}
use Rattle.capn_layout.proofs.shared.FirstBits.{some-last}
use Rattle.capn_canon.specs.PageForm.{EndsInSome, OneEndsInSome}
use Rattle.capn_canon.specs.inner.WordsOfLayout.{Stand}
use Rattle.capn_canon.proofs.places.Standing.{stand-none, stand-join, stand-cons, stand-head, stand-back}

none-or-some : (n : ℕ) → (n ≡ 0) ⊎ (0 < n)
none-or-some n = grind arith

full-or-less : (k n : ℕ) → k ≤ n → (k ≡ n) ⊎ (k < n)
full-or-less k n h = grind arith

module _ (all : List ℕ) where
  -- ---- one section

  pub kept-ends : (w n : ℕ) → kept_words (take n (drop w all)) ≡ n → EndsInSome all w n
  kept-ends w n h some z = last-kept all w n some h z

  pub ends-kept : (w n : ℕ) → EndsInSome all w n → kept_words (take n (drop w all)) ≡ n
  ends-kept w n h =
      elim (none-or-some n) as (λ _. kept_words (take n (drop w all)) ≡ n) [
        | inl e ↦ (let l = part-le n (drop w all) in omega arith)
        | inr s ↦ all-kept all w n s (h s)
      ]

  -- ---- a section of each row

  pub each-kept-ends : (w size step n : ℕ) → kept_each (all ∷ []) 0 w size step n ≡ size
      → OneEndsInSome all n step w size
  each-kept-ends w size step zero h some = absurd (omega arith)
  each-kept-ends w size step (suc n) h some =
      elim (full-or-less (kept_words (take size (drop w all))) size (part-le size (drop w all))) as
      (λ _. (i : ℕ) × (i < suc n) × (slice_index all (w + i * step + (size - 1)) ≢ 0)) [
        | inl e ↦ (
          0,
          omega arith,
          (λ z.
              let same : w + (size - 1) ≡ w + 0 * step + (size - 1) = omega arith in
              last-kept all w size some e (ap (slice_index all) same ∙ z)),
        )
        | inr l ↦
            let rest : kept_each (all ∷ []) 0 (w + step) size step n ≡ size = omega arith in
            let (i, lt, ne) = each-kept-ends (w + step) size step n rest some in (
              suc i,
              omega arith,
              (λ z.
                  let m : suc i * step ≡ step + i * step = omega arith in
                  let same : w + step + i * step + (size - 1) ≡ w + suc i * step + (size - 1) = omega arith in
                  ne (ap (slice_index all) same ∙ z)),
            )
      ]

  some-row-kept : (w size step n i : ℕ) → 0 < size → i < n → slice_index all (w + i * step + (size - 1)) ≢ 0
      → kept_each (all ∷ []) 0 w size step n ≡ size
  some-row-kept w size step zero i some lt ne = absurd (omega arith)
  some-row-kept w size step (suc n) zero some lt ne =
      let same : w + (size - 1) ≡ w + 0 * step + (size - 1) = omega arith in
      let k = all-kept all w size some (λ z. ne (ap (slice_index all) (sym same) ∙ z)) in
      let l = kept_each-le (all ∷ []) 0 (w + step) size step n in
      omega arith
  some-row-kept w size step (suc n) (suc i) some lt ne =
      let m : suc i * step ≡ step + i * step = omega arith in
      let same : w + step + i * step + (size - 1) ≡ w + suc i * step + (size - 1) = omega arith in
      let k = some-row-kept (w + step) size step n i some (omega arith)
      (λ z. ne (ap (slice_index all) (sym same) ∙ z)) in
      let l = part-le size (drop w all) in
      omega arith

  pub each-ends-kept : (w size step n : ℕ) → OneEndsInSome all n step w size
      → kept_each (all ∷ []) 0 w size step n ≡ size
  each-ends-kept w size step n h =
      elim (none-or-some size) as (λ _. kept_each (all ∷ []) 0 w size step n ≡ size) [
        | inl e ↦ (let l = kept_each-le (all ∷ []) 0 w size step n in omega arith)
        | inr s ↦ (let (i, lt, ne) = h s in some-row-kept w size step n i s lt ne)
      ]

  -- ---- the bits of a list

  taken-stand : (to k : ℕ) → to + k ≤ length all → Stand all to (take k (drop to all))
  taken-stand to k h = let d = length-drop to all in let l = length-take-le k (drop to all) (omega arith) in
      ap (λ (n : ℕ). take n (drop to all)) l

  at-last : (to k : ℕ) → slice_index (drop k (drop to all)) 0 ≡ slice_index all (to + k)
  at-last to k =
      let z : to + (k + 0) ≡ to + k = omega arith in
      get_or-drop k (drop to all) 0 0 ∙ get_or-drop to all (k + 0) 0 ∙ ap (slice_index all) z

  module _ (to n : ℕ) (room : to + (n + 63) / 64 ≤ length all) where
    pub stand-padded : Stand all to (first_bits n (drop to all)) → 0 < n % 64
        → slice_index all (to + n / 64) < 2 ^ (n % 64)
    stand-padded h some =
        let d = length-drop to all in
        let l = length-take-le (n / 64) (drop to all) (omega arith) in
        let x = subst (λ (k : ℕ). Stand all (to + k) (last_bits (n % 64) (drop (n / 64) (drop to all)))) l
        (stand-back all to (take (n / 64) (drop to all)) (last_bits (n % 64) (drop (n / 64) (drop to all))) h) in
        let y = subst (Stand all (to + n / 64)) (some-last (n % 64) (drop (n / 64) (drop to all)) some) x in
        let e = stand-head all (to + n / 64) (slice_index (drop (n / 64) (drop to all)) 0 % 2 ^ (n % 64)) []
        (omega arith) y in
        let lt : slice_index (drop (n / 64) (drop to all)) 0 % 2 ^ (n % 64) < 2 ^ (n % 64) =
        mod-lt (slice_index (drop (n / 64) (drop to all)) 0) (pow-some (n % 64)) in
        omega arith
      where
        pow-some : (k : ℕ) → 0 < 2 ^ k
        pow-some zero = let e = pow-zero 2 in omega arith
        pow-some (suc k) = let e = pow-succ' 2 k in let h = pow-some k in omega arith

    pub padded-stand : (0 < n % 64 → slice_index all (to + n / 64) < 2 ^ (n % 64))
        → Stand all to (first_bits n (drop to all))
    padded-stand h =
        let d = length-drop to all in
        let l = length-take-le (n / 64) (drop to all) (omega arith) in
        stand-join all to (take (n / 64) (drop to all)) (last_bits (n % 64) (drop (n / 64) (drop to all)))
        (taken-stand to (n / 64) (omega arith))
        (subst (λ (k : ℕ). Stand all (to + k) (last_bits (n % 64) (drop (n / 64) (drop to all)))) (sym l)
        (elim (none-or-some (n % 64)) as
        (λ _. Stand all (to + n / 64) (last_bits (n % 64) (drop (n / 64) (drop to all)))) [
          | inl e ↦ subst (λ (r : ℕ). Stand all (to + n / 64) (last_bits r (drop (n / 64) (drop to all)))) (sym e)
              (stand-none all (to + n / 64))
          | inr s ↦
              let at = at-last to (n / 64) in
              let lt = h s in
              subst (Stand all (to + n / 64)) (sym (some-last (n % 64) (drop (n / 64) (drop to all)) s))
              (stand-cons all (to + n / 64) (slice_index (drop (n / 64) (drop to all)) 0 % 2 ^ (n % 64)) []
              (omega arith)
              (sym (mod-eq_of_lt {n = slice_index (drop (n / 64) (drop to all)) 0} {m = 2 ^ (n % 64)} (omega arith)
              ∙ at)) (stand-none all (suc (to + n / 64))))
        ]))
