-- Worked values: their trimmed values, costs and texts, and values that do not fit.
use Rattle.std.proofs.Common.{◌≡◌, [], ◌∷◌, Some, None, codes, false, refl}
use Rattle.std.specs.Fmt.{digits}
use Rattle.hex.specs.Hex.{encode_with}
use Rattle.capn_value.specs.Tree.{nil, node, voids, numbers, links, rows, cap, no_trees, tree, no_bodies}
use Rattle.capn_value.specs.NumberWidth.{bit, byte}
use Rattle.capn_value.specs.Tree.{body}
use Rattle.capn_value.specs.Trim.{trimmed}
use Rattle.capn_value.specs.inner.CutCopy.{anew, rows_anew}
use Rattle.capn_value.specs.Cost.{cost, height, rows_price}
use Rattle.capn_value.specs.Text.{show_text, line}
use Rattle.capn_value.specs.Fits.{misfit}
use Rattle.capn_value.specs.declared.misfit.Misfit.TheVariants.{Long, Ragged, BadRoot}

-- trimming removes the last word of a struct, which is zero, and the last slot, which is null
struct_trimmed : trimmed (node (5 ∷ 0 ∷ []) (tree (cap 3) (tree nil no_trees))) ≡ node (5 ∷ []) (tree (cap 3) no_trees)
struct_trimmed = refl

-- trimming a struct of one zero word in a slot makes the struct empty, and not null
empty_struct_stays : trimmed (node [] (tree (node (0 ∷ []) no_trees) no_trees))
    ≡ node [] (tree (node [] no_trees) no_trees)
empty_struct_stays = refl

-- trimming shortens all rows to one size, so the second word of each row stays if one row needs it
rows_trimmed : trimmed (rows (body (1 ∷ 2 ∷ []) no_trees (body (3 ∷ 0 ∷ []) no_trees no_bodies)))
    ≡ rows (body (1 ∷ 2 ∷ []) no_trees (body (3 ∷ 0 ∷ []) no_trees no_bodies))
rows_trimmed = refl

-- trimming leaves the number of rows unchanged, even if it removes all words of each row
rows_left_empty : trimmed (rows (body (0 ∷ []) no_trees (body (0 ∷ []) no_trees no_bodies)))
    ≡ rows (body [] no_trees (body [] no_trees no_bodies))
rows_left_empty = refl

-- trimming removes no null element of a list of pointers
links_stay : trimmed (links (tree nil (tree nil no_trees))) ≡ links (tree nil (tree nil no_trees))
links_stay = refl

-- a struct that is copied without trimming is unchanged
struct_anew : anew false (node (5 ∷ 0 ∷ []) (tree nil no_trees)) ≡ node (5 ∷ 0 ∷ []) (tree nil no_trees)
struct_anew = refl

-- rows are shortened to one word and no slot each
rows_cut : rows_anew (Some (1, 0)) (body (1 ∷ 2 ∷ []) (tree nil no_trees) (body [] no_trees no_bodies))
    ≡ body (1 ∷ []) no_trees (body [] no_trees no_bodies)
rows_cut = refl

-- a struct of a word and a slot with three bytes costs 5 if the base is 1: 1 + 2 for the struct, 1 + 1 for the bytes
struct_costs : cost 1 (node (5 ∷ []) (tree (numbers byte (1 ∷ 2 ∷ 3 ∷ [])) no_trees)) ≡ 5
struct_costs = refl

-- a list of seven elements without size costs 8: 1 for the list, and 1 for each element
voids_cost : cost 1 (voids 7) ≡ 8
voids_cost = refl

-- rows without words and slots cost one each, in addition to the list and its tag
rows_cost : cost 1 (rows (body [] no_trees (body [] no_trees no_bodies))) ≡ 4
unfolding rows_price
rows_cost = refl

-- a chain of two structs has height 2
chain_height : height (node [] (tree (node [] no_trees) no_trees)) ≡ 2
chain_height = refl

-- a value is `Ragged` if a slot has a list of two rows with different numbers of words
ragged_rows : misfit (node [] (tree (rows (body (1 ∷ []) no_trees (body [] no_trees no_bodies))) no_trees))
    ≡ Some Ragged
unfolding misfit
ragged_rows = refl

-- a list of 2^29 elements is `Long`, even if the elements have no size
long_list : misfit (voids 536870912) ≡ Some Long
unfolding misfit
long_list = refl

-- this block shows that a capability fits as an element of a list, and not as the root
capability_fits : misfit (links (tree (cap 0) no_trees)) ≡ None
unfolding misfit
capability_fits = refl

capability_root : misfit (cap 0) ≡ Some BadRoot
unfolding misfit
capability_root = refl

-- this block has the texts of null, of a capability, and of a struct with a word and a list of two bits
null_text : show_text nil ≡ codes "null\n"
unfolding line
null_text = refl

capability_text : show_text (cap 12) ≡ codes "capability 12\n"
unfolding line digits
capability_text = refl

struct_text : show_text (node (255 ∷ []) (tree (numbers bit (1 ∷ 0 ∷ [])) no_trees))
    ≡ codes "struct 1 1\n  word 00000000000000ff\n  bits 2\n    10\n"
unfolding line digits encode_with
struct_text = refl
