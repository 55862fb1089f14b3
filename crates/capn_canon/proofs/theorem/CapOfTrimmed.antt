-- A value and its trimmed value have the same first capability, since trimming removes no slots but null ones. (For
-- `ThePage` and `TheTheorem`.)
use Rattle.std.proofs.Common.{◌≡◌, ℕ, zero, suc, ◌≤◌, None, refl, ap, ap₂, sym, ◌∙◌, arith}
use Rattle.std.specs.Option.{option_or}
use Rattle.capn_value.specs.Tree.{Tree, nil, node, voids, numbers, links, rows, cap, Trees}
use Rattle.capn_value.specs.Tree.{no_trees, tree, Bodies, no_bodies, body, front, is_null}
use Rattle.capn_value.specs.FirstCap.{first_cap, first_in, first_in_rows}
use Rattle.capn_value.specs.Trim.{kept_slots, kept_words_of_rows, kept_slots_of_rows, trimmed, trimmed_each}
use Rattle.capn_value.specs.Trim.{trimmed_rows}
use Rattle.capn_value.proofs.shared.Cuts.{behind_le, behind_none, null_at}

none-kept : (ss : Trees) → kept_slots ss ≤ 0 → first_in ss ≡ None
none-kept no_trees h = refl
none-kept (tree t ts) h =
    let e = behind_none (is_null t) (kept_slots ts) h in
    ap (λ (v : Tree). option_or (first_cap v) (first_in ts)) (null_at t e.0) ∙ none-kept ts e.1

mutual
  pub cap-trimmed : (v : Tree) → first_cap (trimmed v) ≡ first_cap v
  cap-trimmed nil = refl
  cap-trimmed (node ws ss) = cap-front (kept_slots ss) ss (omega arith)
  cap-trimmed (links ts) = cap-each ts
  cap-trimmed (rows bs) = cap-rows (kept_words_of_rows bs) (kept_slots_of_rows bs) bs (omega arith)
  cap-trimmed (voids n) = refl
  cap-trimmed (numbers a xs) = refl
  cap-trimmed (cap k) = refl

  cap-front : (n : ℕ) (ss : Trees) → kept_slots ss ≤ n → first_in (front n (trimmed_each ss)) ≡ first_in ss
  cap-front zero ss h = sym (none-kept ss h)
  cap-front (suc n) no_trees h = refl
  cap-front (suc n) (tree t ts) h =
      ap₂ option_or (cap-trimmed t) (cap-front n ts (behind_le (is_null t) (kept_slots ts) n h))

  cap-each : (ts : Trees) → first_in (trimmed_each ts) ≡ first_in ts
  cap-each no_trees = refl
  cap-each (tree t ts) = ap₂ option_or (cap-trimmed t) (cap-each ts)

  cap-rows : (w s : ℕ) (bs : Bodies) → kept_slots_of_rows bs ≤ s
      → first_in_rows (trimmed_rows w s bs) ≡ first_in_rows bs
  cap-rows w s no_bodies h = refl
  cap-rows w s (body ws ss bs) h = ap₂ option_or (cap-front s ss (omega arith)) (cap-rows w s bs (omega arith))
