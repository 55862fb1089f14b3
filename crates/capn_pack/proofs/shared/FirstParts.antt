-- Lemma for `ChosenLaws`, `GroupLaws`, capn_commands and capn_serve: a joined list and the length of its first list
-- determine both lists.
use Rattle.std.proofs.Common.{◌≡◌, ℕ, List, [], ◌∷◌, ◌++◌, length, refl, arith}

-- if `a ++ x` equals `b ++ y` and `a` has the length of `b`, then `a` equals `b` and `x` equals `y`
pub append_same : (a b x y : List ℕ) → length a ≡ length b → a ++ x ≡ b ++ y → (a ≡ b) × (x ≡ y)
append_same [] [] x y long e = (refl, e)
append_same [] (d ∷ b) x y long e = absurd (omega arith)
append_same (c ∷ a) [] x y long e = absurd (omega arith)
append_same (c ∷ a) (d ∷ b) x y long e =
    let heads : c ≡ d = cc in
    let tails : a ++ x ≡ b ++ y = cc in
    let r = append_same a b x y (omega arith) tails in
    ((λ i. heads i ∷ r.0 i), r.1)
