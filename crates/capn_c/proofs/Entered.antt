-- Lemmas on entries that are written one after the other. (For `put_starts`.)
use Rattle.std.proofs.Common.{◌≡◌, ℕ, zero, suc, ◌+◌, ◌<◌, ◌≤◌, List, [], ◌∷◌, ◌++◌, length, take, drop, set, get_or}
use Rattle.std.proofs.Common.{refl, ap, ◌∙◌, arith}
use Rattle.std.specs.List.{sum_by}
use Rattle.std.proofs.lemmas.List.Sums.{sum_by-cons}
use Rattle.capn_c.specs.Entries.{starts_from}

pub one_more : {A : Type 0} (xs old : List A) (i : ℕ) (none : A) → i < length xs → length xs ≤ length old
    → set (take i xs ++ drop i old) i (get_or xs i none) ≡ take (suc i) xs ++ drop (suc i) old
one_more [] old i none h room = absurd (omega (arith, h))
one_more (x ∷ xs) [] i none h room = absurd (omega (arith, room))
one_more (x ∷ xs) (o ∷ old) zero none h room = refl
one_more (x ∷ xs) (o ∷ old) (suc i) none h room =
    ap (λ ys. x ∷ ys) (one_more xs old i none (omega (arith, h)) (omega (arith, room)))

pub one_further : {A : Type 0} (xs old : List A) (i : ℕ) (none : A) → i < length xs → length xs ≤ length old
    → set (take i xs ++ drop i old) i (get_or xs i none) ≡ take (i + 1) xs ++ drop (i + 1) old
one_further xs old i none h room =
    let on : suc i ≡ i + 1 = omega arith in
    one_more xs old i none h room ∙ ap (λ (n : ℕ). take n xs ++ drop n old) on

pub start_at : (n i : ℕ) (m : List (List ℕ)) (none : ℕ) → i < length m
    → get_or (starts_from n m) i none ≡ n + sum_by length (take i m)
start_at n i [] none h = absurd (omega (arith, h))
start_at n zero (ws ∷ m) none h = omega arith
start_at n (suc i) (ws ∷ m) none h =
    let cons = sum_by-cons length ws (take i m) in
    start_at (n + length ws) i m none (omega (arith, h)) ∙ omega (arith, cons)

pub starts_length : (n : ℕ) (m : List (List ℕ)) → length (starts_from n m) ≡ length m
starts_length n [] = refl
starts_length n (ws ∷ m) = ap suc (starts_length (n + length ws) m)
