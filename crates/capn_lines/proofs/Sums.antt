-- Sums over the first numbers.
use Rattle.std.proofs.Common.{◌≡◌, ℕ, zero, suc, ◌+◌, ◌<◌, ◌≤◌, Bool, true, false, refl, add-one, arith}
use Rattle.capn_lines.specs.Sums.{one_if, sum_to}

pub sum-next : (f : ℕ → ℕ) (n : ℕ) → sum_to f (n + 1) ≡ sum_to f n + f n
sum-next f n = rw add-one refl

pub one-small : (b : Bool) → one_if b ≤ 1
one-small true = omega arith
one-small false = omega arith

-- terms that are at most 1 have at most as large a sum as there are terms
pub sum-most : (f : ℕ → ℕ) (n : ℕ) → ((k : ℕ) → f k ≤ 1) → sum_to f n ≤ n
sum-most f zero h = omega arith
sum-most f (suc n) h = let a = sum-most f n h in let b = h n in omega arith

-- a sum of larger terms is larger
pub sum-le : (f g : ℕ → ℕ) (n : ℕ) → ((k : ℕ) → k < n → f k ≤ g k) → sum_to f n ≤ sum_to g n
sum-le f g zero h = omega arith
sum-le f g (suc n) h =
    let a = sum-le f g n (λ k l. h k (omega arith)) in
    let b = h n (omega arith) in
    omega arith

-- the sum of two sums
pub sum-add : (f g : ℕ → ℕ) (n : ℕ) → sum_to (λ k. f k + g k) n ≡ sum_to f n + sum_to g n
sum-add f g zero = omega arith
sum-add f g (suc n) = let a = sum-add f g n in omega arith

pub sum-ones : (n : ℕ) → sum_to (λ k. 1) n ≡ n
sum-ones zero = refl
sum-ones (suc n) = let a = sum-ones n in omega arith

pub sum-same : (f g : ℕ → ℕ) (n : ℕ) → ((k : ℕ) → f k ≡ g k) → sum_to f n ≡ sum_to g n
sum-same f g zero h = refl
sum-same f g (suc n) h = let a = sum-same f g n h in let b = h n in omega arith
