-- Lemmas for `OnceTrimmed`, `SameTrimmed` and capn_canon: the words that trimming cuts off are zero, and the slots that
-- trimming cuts off are null.
use Rattle.std.proofs.Common.{◌≡◌, ℕ, zero, suc, ◌≤◌, List, [], ◌∷◌, take, Bool, true, false, refl, sym, ap, arith}
use Rattle.std.specs.Prelude.{◌==◌, slice_index}
use Rattle.std.proofs.lemmas.Bool.{eqb-true}
use Rattle.std.proofs.lemmas.Bool.Decides.{nat_tests}
use Rattle.capn_value.specs.Tree.{Tree, nil, Trees, no_trees, tree, front, tree_at, is_null}
use Rattle.capn_value.specs.Trim.{kept_behind, kept_words, kept_slots, trimmed, trimmed_each}

-- if trimming keeps at most `n + 1` elements of a list, it keeps at most `n` of the elements after the first
pub behind_le : (b : Bool) (k n : ℕ) → kept_behind b k ≤ suc n → k ≤ n
behind_le b k n h = grind (arith, nat_tests)

-- if trimming keeps no element of a list, the first element is zero or null, and trimming keeps none of the elements
-- after it
pub behind_none : (b : Bool) (k : ℕ) → kept_behind b k ≤ 0 → (b ≡ true) × (k ≤ 0)
behind_none true k h = (refl, grind (arith, nat_tests))
behind_none false k h = absurd (omega arith)

-- if trimming keeps no word of `ws`, all words of `ws` are zero
pub none_kept : (ws : List ℕ) → kept_words ws ≤ 0 → (i : ℕ) → slice_index ws i ≡ 0
none_kept [] h i = refl
none_kept (w ∷ ws) h zero = eqb-true w 0 (behind_none (w == 0) (kept_words ws) h).0
none_kept (w ∷ ws) h (suc i) = none_kept ws (behind_none (w == 0) (kept_words ws) h).1 i

-- if trimming keeps at most `n` words of `ws`, the first `n` words have the same word at each index `i` as `ws`
pub cut_words : (n : ℕ) (ws : List ℕ) → kept_words ws ≤ n → (i : ℕ) → slice_index (take n ws) i ≡ slice_index ws i
cut_words zero ws h i = sym (none_kept ws h i)
cut_words (suc n) [] h i = refl
cut_words (suc n) (w ∷ ws) h zero = refl
cut_words (suc n) (w ∷ ws) h (suc i) = cut_words n ws (behind_le (w == 0) (kept_words ws) n h) i

-- if `is_null` is true for the value `t`, `t` is null
pub null_at : (t : Tree) → is_null t ≡ true → t ≡ nil
null_at nil h = refl
null_at _ h = absurd (cc)

-- if trimming keeps no slot of `ss`, all slots of `ss` are null
pub none_kept_slots : (ss : Trees) → kept_slots ss ≤ 0 → (i : ℕ) → tree_at ss i ≡ nil
none_kept_slots no_trees h i = refl
none_kept_slots (tree s ss) h zero = null_at s (behind_none (is_null s) (kept_slots ss) h).0
none_kept_slots (tree s ss) h (suc i) = none_kept_slots ss (behind_none (is_null s) (kept_slots ss) h).1 i

-- if trimming keeps at most `n` slots of `ss`, slot `i` of the first `n` trimmed slots is the trimmed slot `i` of `ss`
pub cut_slots : (n : ℕ) (ss : Trees) → kept_slots ss ≤ n → (i : ℕ)
    → tree_at (front n (trimmed_each ss)) i ≡ trimmed (tree_at ss i)
cut_slots zero ss h i = sym (ap trimmed (none_kept_slots ss h i))
cut_slots (suc n) no_trees h i = refl
cut_slots (suc n) (tree s ss) h zero = refl
cut_slots (suc n) (tree s ss) h (suc i) = cut_slots n ss (behind_le (is_null s) (kept_slots ss) n h) i
