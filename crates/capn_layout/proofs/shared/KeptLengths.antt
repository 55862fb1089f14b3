-- `kept_words` and `kept_slots` are at most the length of their list. (For `Blocks`, `Counted`, `Cut`, capn_canon and
-- capn_mismatch.)
use Rattle.std.proofs.Common.{ℕ, suc, ◌≤◌, ◌==◌, Bool, List, [], ◌∷◌, length, arith}
use Rattle.std.proofs.lemmas.Bool.Decides.{nat_tests}
use Rattle.capn_value.specs.Tree.{Trees, no_trees, tree, count, is_null}
use Rattle.capn_value.specs.Trim.{kept_behind, kept_words, kept_slots}

kept-le : (b : Bool) (n m : ℕ) → n ≤ m → kept_behind b n ≤ suc m
kept-le b n m h = grind (arith, nat_tests)

pub kept_words-le : (ws : List ℕ) → kept_words ws ≤ length ws
kept_words-le [] = omega arith
kept_words-le (w ∷ ws) = kept-le (w == 0) (kept_words ws) (length ws) (kept_words-le ws)

pub kept_slots-le : (ss : Trees) → kept_slots ss ≤ count ss
kept_slots-le no_trees = omega arith
kept_slots-le (tree t ts) = kept-le (is_null t) (kept_slots ts) (count ts) (kept_slots-le ts)
