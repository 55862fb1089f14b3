-- The elements that are read from packed words are the elements that were packed. (For capn_canon.)
use Rattle.std.proofs.Common.{◌≡◌, ℕ, zero, suc, ◌+◌, ◌*◌, ◌/◌, ◌%◌, ◌^◌, ◌<◌, List, [], ◌∷◌, ◌++◌, length, take, drop}
use Rattle.std.proofs.Common.{slice_index, ap, sym, subst, ◌∙◌, arith}
use Rattle.std.proofs.Math.Nat.{div-div-eq-div-mul, pow-succ', pow-zero, zero-div, zero-mod, div-add-mod, mod-lt}
use Rattle.std.proofs.Math.Nat.{mod-eq_of_lt, div-eq_of_lt, add-mul-div_left, add-mul-mod_self_left}
use Rattle.std.proofs.Math.ListN.{get_or-append}
use Rattle.std.proofs.lemmas.List.{drop-drop, get_or-drop, get_or-take}
use Rattle.capn_walk.specs.ValueAt.{element, AreElements}
use Rattle.capn_layout.specs.Layout.{number, packed}
use Rattle.capn_layout.specs.Sound.{AreBelow}
use Rattle.capn_layout.proofs.shared.LayLengths.{length-packed}

-- Digit `k` of `number base ys` is element `k` of `ys`, if all elements are below `base`.
digit : (base : ℕ) → 0 < base → (ys : List ℕ) (k : ℕ) → AreBelow base ys
    → number base ys / base ^ k % base ≡ slice_index ys k
digit base p [] k h = ap (λ (x : ℕ). x % base) (zero-div (base ^ k)) ∙ zero-mod base
digit base p (y ∷ ys) zero h =
    let b = h 0 in
    let e : (y + base * number base ys) / base ^ 0 ≡ y + base * number base ys = rw (pow-zero base) (omega arith) in
    ap (λ (x : ℕ). x % base) e ∙ add-mul-mod_self_left y base (number base ys) ∙ mod-eq_of_lt b
digit base p (y ∷ ys) (suc k) h =
    let b = h 0 in
    let x = y + base * number base ys in
    let e : x / base ≡ number base ys = add-mul-div_left y (number base ys) p
    ∙ ap (λ (q : ℕ). q + number base ys) (div-eq_of_lt b) ∙ omega arith in
    ap (λ (q : ℕ). x / q % base) (pow-succ' base k)
    ∙ ap (λ (q : ℕ). q % base) (sym (div-div-eq-div-mul x base (base ^ k)))
    ∙ ap (λ (q : ℕ). q / base ^ k % base) e
    ∙ digit base p ys k (λ i. h (suc i))

packed-at : (each width n : ℕ) (xs : List ℕ) (j : ℕ) → j < n
    → slice_index (packed each width n xs) j ≡ number (2 ^ width) (take each (drop (each * j) xs))
packed-at each width zero xs j h = absurd (omega arith)
packed-at each width (suc n) xs zero h = let e : 0 ≡ each * 0 = omega arith in
    ap (λ (q : ℕ). number (2 ^ width) (take each (drop q xs))) e
packed-at each width (suc n) xs (suc j) h =
    let e : each + each * j ≡ each * suc j = omega arith in
    packed-at each width n (drop each xs) j (omega arith)
    ∙ ap (λ (r : List ℕ). number (2 ^ width) (take each r)) (drop-drop (each * j) each xs ∙ ap (λ (q : ℕ). drop q xs) e)

below-drop : (base n : ℕ) (xs : List ℕ) → AreBelow base xs → AreBelow base (drop n xs)
below-drop base n xs h i = rw (get_or-drop n xs i 0) (h (n + i))

below-take : (base : ℕ) → 0 < base → (n : ℕ) (xs : List ℕ) → AreBelow base xs → AreBelow base (take n xs)
below-take base p zero xs h i = p
below-take base p (suc n) [] h i = p
below-take base p (suc n) (x ∷ xs) h zero = h 0
below-take base p (suc n) (x ∷ xs) h (suc i) = below-take base p n xs (λ j. h (suc j)) i

module _ (each width n : ℕ) (xs rest : List ℕ) (some : 0 < each) (base : 0 < 2 ^ width)
    (below : AreBelow (2 ^ width) xs) where
  one-element : (i : ℕ) → i / each < n → element each width (packed each width n xs ++ rest) i ≡ slice_index xs i
  one-element i h =
      let j = i / each in
      let k = i % each in
      let front : j < length (packed each width n xs) =
      subst (λ (q : ℕ). j < q) (sym (length-packed each width n xs)) h in
      let a = get_or-append (packed each width n xs) rest 0 j front ∙ packed-at each width n xs j h in
      let chunk = take each (drop (each * j) xs) in
      let d = digit (2 ^ width) base chunk k
      (below-take (2 ^ width) base each (drop (each * j) xs) (below-drop (2 ^ width) (each * j) xs below)) in
      ap (λ (w : ℕ). w / (2 ^ width) ^ k % 2 ^ width) a ∙ d
      ∙ get_or-take each (drop (each * j) xs) k 0 (mod-lt i some)
      ∙ get_or-drop (each * j) xs k 0
      ∙ ap (slice_index xs) (div-add-mod i each)

  -- The elements that are read from packed words are the elements `xs` that were packed.
  pub packed-elements : ((i : ℕ) → i < length xs → i / each < n)
      → AreElements each width (packed each width n xs ++ rest) xs
  packed-elements room i h = sym (one-element i (room i h))
