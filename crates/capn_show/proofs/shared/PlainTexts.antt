-- The text of a tree whose lists of bytes are all in digits. (For `show_message`, `show_there` and capn_marks.)
use Rattle.std.proofs.Common.{◌≡◌, ℕ, ◌+◌, List, ◌++◌, length, codes, refl, ap, ap₂}
use Rattle.capn_value.specs.NumberWidth.{byte}
use Rattle.capn_value.specs.Tree.{Tree, nil, node, voids, numbers, links, rows, cap, Trees}
use Rattle.capn_value.specs.Tree.{no_trees, tree, Bodies, no_bodies, body, count, count_rows}
use Rattle.capn_value.specs.Text.{line, named, body_line, word_lines, shown, shown_each, shown_rows}
use Rattle.capn_show.specs.Quoting.{plain_bytes, shown_by, shown_each_by, shown_rows_by}

mutual
  pub plain-shown : (level : ℕ) (t : Tree) → shown_by plain_bytes level t ≡ shown level t
  plain-shown level nil = refl
  plain-shown level (node ws ss) =
      ap (λ (l : List ℕ). body_line level (length ws) (count ss) ++ (word_lines (level + 1) ws ++ l))
      (plain-each (level + 1) ss)
  plain-shown level (voids n) = refl
  plain-shown level (numbers byte xs) = refl
  plain-shown level (numbers a xs) = refl
  plain-shown level (links ts) =
      ap (λ (l : List ℕ). line level (named (codes "pointers") (count ts)) ++ l) (plain-each (level + 1) ts)
  plain-shown level (rows bs) =
      ap (λ (l : List ℕ). line level (named (codes "rows") (count_rows bs)) ++ l) (plain-rows (level + 1) bs)
  plain-shown level (cap k) = refl

  plain-each : (level : ℕ) (ts : Trees) → shown_each_by plain_bytes level ts ≡ shown_each level ts
  plain-each level no_trees = refl
  plain-each level (tree t ts) = ap₂ (λ (x y : List ℕ). x ++ y) (plain-shown level t) (plain-each level ts)

  plain-rows : (level : ℕ) (bs : Bodies) → shown_rows_by plain_bytes level bs ≡ shown_rows level bs
  plain-rows level no_bodies = refl
  plain-rows level (body ws ss bs) =
      ap₂ (λ (x y : List ℕ). body_line level (length ws) (count ss) ++ (word_lines (level + 1) ws ++ (x ++ y)))
      (plain-each (level + 1) ss) (plain-rows level bs)
