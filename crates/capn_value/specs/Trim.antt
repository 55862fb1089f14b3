-- Values without trailing zero words and trailing null slots of structs. (Page: canonicalization.)
use Rattle.std.specs.Prelude.{ℕ, ◌+◌, max, List, [], ◌∷◌, take, Bool, cond, ◌&&◌, ◌==◌}
use Rattle.capn_value.specs.Tree.{Tree, nil, node, voids, numbers, links, rows, cap, Trees}
use Rattle.capn_value.specs.Tree.{no_trees, tree, Bodies, no_bodies, body, front, is_null}

-- The number of elements that trimming keeps of a list, if trimming keeps `n` of the elements after the first. `empty`
-- says whether the first element is zero or null. The result is 0 if `n` is 0 and `empty` is true, and else `n` + 1.
abbrev pub kept_behind : Bool → ℕ → ℕ
kept_behind empty n = cond (empty && (n == 0)) 0 (n + 1)

-- the number of words that trimming keeps of a data section: the least `n` such that all words from index `n` on are 0
abbrev pub kept_words : List ℕ → ℕ
kept_words [] = 0
kept_words (w ∷ ws) = kept_behind (w == 0) (kept_words ws)

-- the number of slots that trimming keeps of a pointer section: the least `n` such that all slots from index `n` on are
-- null
abbrev pub kept_slots : Trees → ℕ
kept_slots no_trees = 0
kept_slots (tree t ts) = kept_behind (is_null t) (kept_slots ts)

-- the number of words that trimming keeps of each row of a list: the greatest number that a row would keep by itself
abbrev pub kept_words_of_rows : Bodies → ℕ
kept_words_of_rows no_bodies = 0
kept_words_of_rows (body ws ss bs) = max (kept_words ws) (kept_words_of_rows bs)

-- the number of slots that trimming keeps of each row of a list: the greatest number that a row would keep by itself
abbrev pub kept_slots_of_rows : Bodies → ℕ
kept_slots_of_rows no_bodies = 0
kept_slots_of_rows (body ws ss bs) = max (kept_slots ss) (kept_slots_of_rows bs)

-- ---- read to here for the theorem

-- the value with the data section and the pointer section of each struct shortened to the lengths that trimming keeps,
-- at every level
abbrev mutual
  pub trimmed : Tree → Tree
  trimmed nil = nil
  trimmed (node ws ss) = node (take (kept_words ws) ws) (front (kept_slots ss) (trimmed_each ss))
  trimmed (voids n) = voids n
  trimmed (numbers w xs) = numbers w xs
  trimmed (links ts) = links (trimmed_each ts)
  trimmed (rows bs) = rows (trimmed_rows (kept_words_of_rows bs) (kept_slots_of_rows bs) bs)
  trimmed (cap k) = cap k

  pub trimmed_each : Trees → Trees
  trimmed_each no_trees = no_trees
  trimmed_each (tree t ts) = tree (trimmed t) (trimmed_each ts)

  pub trimmed_rows : ℕ → ℕ → Bodies → Bodies
  trimmed_rows w s no_bodies = no_bodies
  trimmed_rows w s (body ws ss bs) = body (take w ws) (front s (trimmed_each ss)) (trimmed_rows w s bs)
