-- The first `m + n` elements of a list are the first `m` elements and then the next `n`. (For `EachRow` and
-- capn_canon.)
use Rattle.std.proofs.Common.{◌≡◌, ℕ, zero, suc, ◌+◌, List, [], ◌∷◌, ◌++◌, take, drop, refl, ap, ◌∙◌, arith}

pub take-plus : (m n : ℕ) (xs : List ℕ) → take (m + n) xs ≡ take m xs ++ take n (drop m xs)
take-plus zero n xs = let e : 0 + n ≡ n = omega arith in ap (λ (k : ℕ). take k xs) e
take-plus (suc m) n [] = let e : suc m + n ≡ suc (m + n) = omega arith in ap (λ (k : ℕ). take {A = ℕ} k []) e ∙ none n
  where
    none : (n : ℕ) → [] ≡ take {A = ℕ} n []
    none zero = refl
    none (suc n) = refl
take-plus (suc m) n (x ∷ xs) = let e : suc m + n ≡ suc (m + n) = omega arith in ap (λ (k : ℕ). take k (x ∷ xs)) e
    ∙ ap (λ (ys : List ℕ). x ∷ ys) (take-plus m n xs)
