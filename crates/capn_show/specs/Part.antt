-- A path of numbers from one value to another: the value at its end, and the text of that value. (Our own.)
use Rattle.std.specs.Prelude.{◌≡◌, ℕ, zero, suc, List, [], ◌∷◌, Option, Some, None, codes, refl}
use Rattle.capn_value.specs.NumberWidth.{oct}
use Rattle.capn_value.specs.Tree.{Tree, nil, node, numbers, links, rows, cap, Trees, no_trees, tree, Bodies, no_bodies}
use Rattle.capn_value.specs.Tree.{body}
use Rattle.capn_value.specs.Text.{line, show_text}

-- Tree `i` of the list, counted from 0, or `None` if there is no tree `i`.
abbrev pub nth_tree : Trees → ℕ → Option Tree
nth_tree no_trees i = None
nth_tree (tree t ts) zero = Some t
nth_tree (tree t ts) (suc i) = nth_tree ts i

-- Row `i` of the list, counted from 0, as a struct, or `None` if there is no row `i`.
abbrev pub nth_row : Bodies → ℕ → Option Tree
nth_row no_bodies i = None
nth_row (body ws ss bs) zero = Some (node ws ss)
nth_row (body ws ss bs) (suc i) = nth_row bs i

-- The value in slot `i` of a struct, in element `i` of a list of pointers, or in row `i` of a list of structs. `None`
-- if there is no such value.
abbrev pub step_down : Tree → ℕ → Option Tree
step_down (node ws ss) i = nth_tree ss i
step_down (links ts) i = nth_tree ts i
step_down (rows bs) i = nth_row bs i
step_down _ i = None

-- The value to which the path leads from `found`, or `None` if a step of the path leads to no value.
abbrev pub follow : List ℕ → Option Tree → Option Tree
follow [] found = found
follow (i ∷ path) None = None
follow (i ∷ path) (Some t) = follow path (step_down t i)

-- The value at `path` from `t`, or `None` if there is no such value.
abbrev pub at_path : Tree → List ℕ → Option Tree
at_path t path = follow path (Some t)

-- For `Some t`, the text of `t`. For `None`, the line `none`.
abbrev pub part_text : Option Tree → List ℕ
part_text None = line 0 (codes "none")
part_text (Some t) = show_text t

-- The text of the value at `path` from `t`, or the line `none` if there is no such value.
abbrev pub text_at : List ℕ → Tree → List ℕ
text_at path t = part_text (at_path t path)

-- A list of two rows with one slot each, for the examples in this file.
abbrev two_rows : Tree
two_rows = rows (body [] (tree (cap 4) no_trees) (body (7 ∷ []) (tree (numbers oct (8 ∷ [])) no_trees) no_bodies))

first_row : at_path two_rows (0 ∷ []) ≡ Some (node [] (tree (cap 4) no_trees))
first_row = refl

slot_of_a_row : at_path (node [] (tree nil (tree two_rows no_trees))) (1 ∷ 1 ∷ 0 ∷ []) ≡ Some (numbers oct (8 ∷ []))
slot_of_a_row = refl

null_is_there : at_path (node [] (tree nil no_trees)) (0 ∷ []) ≡ Some nil
null_is_there = refl

nothing_below_null : at_path (node [] (tree nil no_trees)) (0 ∷ 0 ∷ []) ≡ None
nothing_below_null = refl

no_third_row : at_path two_rows (2 ∷ 0 ∷ []) ≡ None
no_third_row = refl
