-- Lemmas for `reading` and `trimming`: a trimmed value is the same as the value.
use Rattle.std.proofs.Common.{◌≡◌, ℕ, zero, suc, ◌≤◌, refl, arith}
use Rattle.capn_value.specs.Tree.{Tree, nil, node, voids, numbers, links, rows, cap, Trees}
use Rattle.capn_value.specs.Tree.{no_trees, tree, Bodies, no_bodies, body, front, tree_at, is_null}
use Rattle.capn_value.specs.Same.{AllNull, Same, SameSlots, SameEach, SameRows}
use Rattle.capn_value.specs.Trim.{kept_words, kept_slots, kept_words_of_rows, kept_slots_of_rows, trimmed, trimmed_each}
use Rattle.capn_value.specs.Trim.{trimmed_rows}
use Rattle.capn_value.proofs.shared.Cuts.{behind_le, cut_words, none_kept_slots}

all_null_from : (ts : Trees) → ((i : ℕ) → tree_at ts i ≡ nil) → AllNull ts
all_null_from no_trees h = tt
all_null_from (tree t ts) h = (h 0, all_null_from ts (λ i. h (suc i)))

mutual
  pub same-trimmed : (t : Tree) → Same (trimmed t) t
  same-trimmed nil = tt
  same-trimmed (node ws ss) =
      (cut_words (kept_words ws) ws (omega arith), same_slots-front (kept_slots ss) ss (omega arith))
  same-trimmed (voids n) = refl
  same-trimmed (numbers a xs) = (refl, refl)
  same-trimmed (links ts) = same_each-trimmed ts
  same-trimmed (rows bs) =
      same_rows-trimmed (kept_words_of_rows bs) (kept_slots_of_rows bs) bs (omega arith) (omega arith)
  same-trimmed (cap k) = refl

  same_slots-front : (n : ℕ) (ss : Trees) → kept_slots ss ≤ n → SameSlots (front n (trimmed_each ss)) ss
  same_slots-front zero ss h = all_null_from ss (none_kept_slots ss h)
  same_slots-front (suc n) no_trees h = tt
  same_slots-front (suc n) (tree s ss) h =
      (same-trimmed s, same_slots-front n ss (behind_le (is_null s) (kept_slots ss) n h))

  same_each-trimmed : (ts : Trees) → SameEach (trimmed_each ts) ts
  same_each-trimmed no_trees = tt
  same_each-trimmed (tree t ts) = (same-trimmed t, same_each-trimmed ts)

  same_rows-trimmed : (w s : ℕ) (bs : Bodies) → kept_words_of_rows bs ≤ w → kept_slots_of_rows bs ≤ s
      → SameRows (trimmed_rows w s bs) bs
  same_rows-trimmed w s no_bodies p q = tt
  same_rows-trimmed w s (body ws ss bs) p q = (
    cut_words w ws (omega arith),
    same_slots-front s ss (omega arith),
    same_rows-trimmed w s bs (omega arith) (omega arith),
  )
