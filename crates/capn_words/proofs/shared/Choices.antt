-- Lemmas for `FieldBits`, `Pointers`, capn_canon, capn_mismatch and other crates: the value of an `if` whose test is
-- known.
use Rattle.std.proofs.Common.{◌≡◌, ◌≢◌, ℕ, ◌<◌, ◌≤◌, ◌==◌, nat_lt, Bool, true, false, refl, arith, if◌then◌else◌}
use Rattle.std.proofs.lemmas.Bool.Decides.{nat_tests}

-- if `P` holds of `x` when `b` is true, and of `y` when `b` is false, `P` holds of the `if`
pub pick : {A : Type 0} (P : A → Type 0) (b : Bool) (x y : A) → (b ≡ true → P x) → (b ≡ false → P y)
    → P (if b then x else y)
pick P true x y f g = f refl
pick P false x y f g = g refl

-- if the test `b` is true, the `if` is its first branch `x`
pub if-yes : {A : Type 0} (b : Bool) (x y : A) → b ≡ true → (if b then x else y) ≡ x
if-yes true x y e = refl
if-yes false x y e = absurd cc

-- if the test `b` is false, the `if` is its second branch `y`
pub if-no : {A : Type 0} (b : Bool) (x y : A) → b ≡ false → (if b then x else y) ≡ y
if-no true x y e = absurd cc
if-no false x y e = refl

-- if `a` and `b` are equal, `a == b` is true
pub same-yes : (a b : ℕ) → a ≡ b → (a == b) ≡ true
same-yes a b e = grind (arith, nat_tests)

-- if `a` and `b` differ, `a == b` is false
pub same-no : (a b : ℕ) → a ≢ b → (a == b) ≡ false
same-no a b e = grind (arith, nat_tests)

-- if `a` is smaller than `b`, `nat_lt a b` is true
pub less-yes : (a b : ℕ) → a < b → nat_lt a b ≡ true
less-yes a b e = grind (arith, nat_tests)

-- if `b` is at most `a`, `nat_lt a b` is false
pub less-no : (a b : ℕ) → b ≤ a → nat_lt a b ≡ false
less-no a b e = grind (arith, nat_tests)
