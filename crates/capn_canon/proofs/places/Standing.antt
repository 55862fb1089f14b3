-- Lemmas on `Stand`: words that are in a longer list of words. (For `CanonicalWords`, `Compared`, `ComparedRows` and
-- others.)
use Rattle.std.proofs.Common.{◌≡◌, ℕ, zero, suc, ◌+◌, ◌<◌, ◌≤◌, List, [], ◌∷◌, ◌++◌, length}
use Rattle.std.proofs.Common.{take, drop, slice_index, refl, ap, ap₂, sym, ◌∙◌, arith, length-append}
use Rattle.std.proofs.Common.{length-drop}
use Rattle.std.proofs.Math.Seq.{drop-cons}
use Rattle.std.proofs.lemmas.List.{drop-drop}
use Rattle.capn_layout.proofs.shared.Fronts.{take-plus}
use Rattle.capn_canon.specs.inner.WordsOfLayout.{Stand}

module _ (all : List ℕ) (at : ℕ) where
  pub stand-none : Stand all at []
  stand-none = refl

  seam : (xs ys : List ℕ)
      → take (length (xs ++ ys)) (drop at all) ≡ take (length xs) (drop at all)
      ++ take (length ys) (drop (at + length xs) all)
  seam xs ys =
      ap (λ (k : ℕ). take k (drop at all)) (length-append xs ys) ∙ take-plus (length xs) (length ys) (drop at all)
      ∙ ap (λ (zs : List ℕ). take (length xs) (drop at all) ++ take (length ys) zs) (drop-drop (length xs) at all)

  pub stand-join : (xs ys : List ℕ) → Stand all at xs → Stand all (at + length xs) ys → Stand all at (xs ++ ys)
  stand-join xs ys h k = seam xs ys ∙ ap₂ (λ (a b : List ℕ). a ++ b) h k

  -- If `xs` has at least one word and is in `all` from the word `at` on, it ends within `all`.
  pub stand-room : (xs : List ℕ) → 0 < length xs → Stand all at xs → at + length xs ≤ length all
  stand-room xs some h =
      let a = ap length h in
      let b = length-drop at all in
      let c = short (length xs) (drop at all) in
      omega arith
    where
      short : (n : ℕ) (zs : List ℕ) → length (take n zs) ≤ length zs
      short zero zs = omega arith
      short (suc n) [] = omega arith
      short (suc n) (z ∷ zs) = let a = short n zs in omega arith

  short-take : (n : ℕ) (zs : List ℕ) → length (take n zs) ≤ n
  short-take zero zs = omega arith
  short-take (suc n) [] = omega arith
  short-take (suc n) (z ∷ zs) = let a = short-take n zs in omega arith

  same-front : (a b c d : List ℕ) → a ++ b ≡ c ++ d → length a ≡ length c → (a ≡ c) × (b ≡ d)
  same-front [] b [] d e l = (refl, e)
  same-front [] b (y ∷ c) d e l = absurd (omega arith)
  same-front (x ∷ a) b [] d e l = absurd (omega arith)
  same-front (x ∷ a) b (y ∷ c) d e l =
      let f : a ++ b ≡ c ++ d = cc in
      let g : x ≡ y = cc in
      let r = same-front a b c d f (omega arith) in
      (ap₂ (λ (u : ℕ) (us : List ℕ). u ∷ us) g r.0, r.1)

  both : (xs ys : List ℕ) → Stand all at (xs ++ ys) → (take (length xs) (drop at all) ≡ xs)
      × (take (length ys) (drop (at + length xs) all) ≡ ys)
  both xs ys h =
      let e = sym (seam xs ys) ∙ h in
      let l = ap length e in
      let a = length-append (take (length xs) (drop at all)) (take (length ys) (drop (at + length xs) all)) in
      let b = length-append xs ys in
      let c = short-take (length xs) (drop at all) in
      let d = short-take (length ys) (drop (at + length xs) all) in
      same-front (take (length xs) (drop at all)) (take (length ys) (drop (at + length xs) all)) xs ys e (omega arith)

  pub stand-front : (xs ys : List ℕ) → Stand all at (xs ++ ys) → Stand all at xs
  stand-front xs ys h = (both xs ys h).0

  pub stand-back : (xs ys : List ℕ) → Stand all at (xs ++ ys) → Stand all (at + length xs) ys
  stand-back xs ys h = (both xs ys h).1

  pub stand-cons : (x : ℕ) (xs : List ℕ) → at < length all → slice_index all at ≡ x → Stand all (suc at) xs
      → Stand all at (x ∷ xs)
  stand-cons x xs lt e h = ap (λ (zs : List ℕ). take (suc (length xs)) zs) (drop-cons all at 0 lt)
      ∙ ap₂ (λ (u : ℕ) (us : List ℕ). u ∷ us) e h

  pub stand-head : (x : ℕ) (xs : List ℕ) → at < length all → Stand all at (x ∷ xs) → slice_index all at ≡ x
  stand-head x xs lt h = let e = sym (ap (λ (zs : List ℕ). take (suc (length xs)) zs) (drop-cons all at 0 lt)) ∙ h in cc

  pub stand-tail : (x : ℕ) (xs : List ℕ) → at < length all → Stand all at (x ∷ xs) → Stand all (suc at) xs
  stand-tail x xs lt h = let e = sym (ap (λ (zs : List ℕ). take (suc (length xs)) zs) (drop-cons all at 0 lt)) ∙ h in cc
