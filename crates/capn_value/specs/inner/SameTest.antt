-- The test that decides `Same`. The functions of `sameness.rt` compute this test, and `proofs/Decided.antt` shows that
-- it agrees with `Same`.
use Rattle.std.specs.Prelude.{ℕ, ◌==◌, ◌&&◌, Bool, true, false, List, [], ◌∷◌}
use Rattle.std.specs.Cmp.Lexicographic.{pointwise}
use Rattle.capn_value.specs.NumberWidth.{bits_in}
use Rattle.capn_value.specs.Tree.{Tree, nil, node, voids, numbers, links, rows, cap, Trees}
use Rattle.capn_value.specs.Tree.{no_trees, tree, Bodies, no_bodies, body, is_null}

-- true if the words are equal one by one, with zeros after the end of the shorter list
abbrev pub test_words : List ℕ → List ℕ → Bool
test_words [] [] = true
test_words [] (v ∷ vs) = (0 == v) && test_words [] vs
test_words (w ∷ ws) [] = (w == 0) && test_words ws []
test_words (w ∷ ws) (v ∷ vs) = (w == v) && test_words ws vs

-- true if every slot is null
abbrev pub are_null : Trees → Bool
are_null no_trees = true
are_null (tree t ts) = is_null t && are_null ts

-- true if the values are of one kind, and their words, slots, elements and rows pass the tests
abbrev mutual
  pub test : Tree → Tree → Bool
  test nil nil = true
  test (node ws ss) (node vs ts) = test_words ws vs && test_slots ss ts
  test (voids m) (voids n) = m == n
  test (numbers w xs) (numbers v ys) = (bits_in w == bits_in v) && pointwise ◌==◌ xs ys
  test (links ss) (links ts) = test_each ss ts
  test (rows bs) (rows cs) = test_rows bs cs
  test (cap j) (cap k) = j == k
  test _ _ = false

  pub test_slots : Trees → Trees → Bool
  test_slots no_trees ts = are_null ts
  test_slots (tree s ss) no_trees = is_null s && test_slots ss no_trees
  test_slots (tree s ss) (tree t ts) = test s t && test_slots ss ts

  pub test_each : Trees → Trees → Bool
  test_each no_trees no_trees = true
  test_each (tree s ss) (tree t ts) = test s t && test_each ss ts
  test_each _ _ = false

  pub test_rows : Bodies → Bodies → Bool
  test_rows no_bodies no_bodies = true
  test_rows (body ws ss bs) (body vs ts cs) = test_words ws vs && test_slots ss ts && test_rows bs cs
  test_rows _ _ = false
