-- The difference of two lists of words. (Our own.)
use Rattle.std.specs.Prelude.{◌≡◌, ◌≢◌, ℕ, ◌<◌, List, length, take, slice_index}

-- `xs` and `ys` are the same before word `k`. Word `k` is `x` in `xs` and `y` in `ys`, and `x` is not `y`.
pub record Differ (xs ys : List ℕ) (k x y : ℕ) : Type 0 where
  pub before : take k xs ≡ take k ys
  pub in_one : k < length xs
  pub in_other : k < length ys
  pub one : x ≡ slice_index xs k
  pub other : y ≡ slice_index ys k
  pub differ : x ≢ y

-- `xs` begins with `ys`, which has `k` words, and word `k` of `xs` is `x`.
pub record GoesOn (xs ys : List ℕ) (k x : ℕ) : Type 0 where
  pub before : take k xs ≡ ys
  pub ended : length ys ≡ k
  pub in_one : k < length xs
  pub one : x ≡ slice_index xs k
