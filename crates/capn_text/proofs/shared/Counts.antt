-- `count_to` of two lists, one after the other, is the sum of both counts. (For `Unquotings` and capn_make.)
use Rattle.std.proofs.Common.{◌≡◌, ℕ, ◌+◌, cond, nat_le, List, [], ◌∷◌, ◌++◌, arith}
use Rattle.capn_text.specs.PlainForm.{count_to}

pub count_append : (n : ℕ) (x y : List ℕ) → count_to n (x ++ y) ≡ count_to n x + count_to n y
count_append n [] y = omega arith
count_append n (q ∷ qs) y =
    let h = count_append n qs y in
    let k : cond (nat_le q n) 1 0 + count_to n (qs ++ y) ≡ cond (nat_le q n) 1 0 + count_to n qs + count_to n y =
    omega arith in
    k
