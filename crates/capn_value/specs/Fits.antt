-- The values that fit into a message, and the first reason why a value does not fit. The greatest sizes are those that
-- pointers can count. (Page: structs, lists. The bounds on cost and height are our own.)
use Rattle.std.specs.Prelude.{ℕ, ◌≡◌, ◌≤◌, Bool, true, false, cond, ◌||◌, ◌&&◌, not, nat_lt, ◌==◌, length, Option}
use Rattle.std.specs.Prelude.{Some, None, List}
use Rattle.capn_value.specs.Tree.{Tree, nil, node, voids, numbers, links, rows, cap, Trees}
use Rattle.capn_value.specs.Tree.{no_trees, tree, Bodies, no_bodies, body, count, count_rows, row_words}
use Rattle.capn_value.specs.declared.tariff.Tariff.TheVariants.{Plain}
use Rattle.capn_value.specs.Cost.{height, base, cost, most_cost, most_height}
use Rattle.capn_value.specs.declared.misfit.Misfit.{Misfit}
use Rattle.capn_value.specs.declared.misfit.Misfit.TheVariants.{Wide, Long, Ragged, Costly, Tall, BadRoot}

-- true if `test` holds of the value, or of a value below it
module _ (test : Tree → Bool) where
  abbrev mutual
    pub anywhere : Tree → Bool
    anywhere (node ws ss) = test (node ws ss) || anywhere_in ss
    anywhere (links ts) = test (links ts) || anywhere_in ts
    anywhere (rows bs) = test (rows bs) || anywhere_in_rows bs
    anywhere nil = test nil
    anywhere (voids n) = test (voids n)
    anywhere (numbers w xs) = test (numbers w xs)
    anywhere (cap k) = test (cap k)

    pub anywhere_in : Trees → Bool
    anywhere_in no_trees = false
    anywhere_in (tree t ts) = anywhere t || anywhere_in ts

    pub anywhere_in_rows : Bodies → Bool
    anywhere_in_rows no_bodies = false
    anywhere_in_rows (body ws ss bs) = anywhere_in ss || anywhere_in_rows bs

-- true if the body with the words `ws` and the slots `ss` has more than 65,535 words or slots
abbrev pub is_wide_body : List ℕ → Trees → Bool
is_wide_body ws ss = nat_lt 65535 (length ws) || nat_lt 65535 (count ss)

-- true if one of the rows has more than 65,535 words or slots
abbrev pub has_wide_row : Bodies → Bool
has_wide_row no_bodies = false
has_wide_row (body ws ss bs) = is_wide_body ws ss || has_wide_row bs

-- true of a struct with more than 65,535 words or slots, and of a list of structs with such a struct
abbrev pub is_wide : Tree → Bool
is_wide (node ws ss) = is_wide_body ws ss
is_wide (rows bs) = has_wide_row bs
is_wide _ = false

-- the number of elements of a list, and 0 for other values
abbrev pub elements : Tree → ℕ
elements (voids n) = n
elements (numbers w xs) = length xs
elements (links ts) = count ts
elements (rows bs) = count_rows bs
elements _ = 0

-- the number of data words and slots that the rows of a list have together, and 0 for other values
abbrev pub words_in_rows : Tree → ℕ
words_in_rows (rows bs) = row_words bs
words_in_rows _ = 0

-- true of a list of more than 2^29 - 1 elements, and of a list of rows with more than 2^29 - 1 data words and slots in
-- all
abbrev pub is_long : Tree → Bool
is_long t = nat_lt 536870911 (elements t) || nat_lt 536870911 (words_in_rows t)

-- true if every row has `w` words and `s` slots
abbrev pub are_even : ℕ → ℕ → Bodies → Bool
are_even w s no_bodies = true
are_even w s (body ws ss bs) = (length ws == w) && (count ss == s) && are_even w s bs

-- true of a list of rows if two rows differ in their number of words or of slots
abbrev pub is_ragged : Tree → Bool
is_ragged (rows (body ws ss bs)) = not (are_even (length ws) (count ss) bs)
is_ragged _ = false

-- true if the value may be a root, which means that it is no capability (our own)
abbrev pub is_root : Tree → Bool
is_root (cap k) = false
is_root _ = true

-- The first misfit that the value has, or `None`. The whole value is tested for each misfit in turn. Cost is counted by
-- the plain tariff, so a value that is cheap enough by the strict tariff is never `Costly`.
unfoldable pub misfit : Tree → Option Misfit
misfit t =
    cond (anywhere is_wide t) (Some Wide)
    (cond (anywhere is_long t) (Some Long)
    (cond (anywhere is_ragged t) (Some Ragged)
    (cond (nat_lt most_cost (cost (base Plain) t)) (Some Costly)
    (cond (nat_lt most_height (height t)) (Some Tall)
    (cond (is_root t) None (Some BadRoot))))))

-- the value `t` has the given misfit, and none of the misfits that are tested before it
abbrev pub IsFirst : Misfit → Tree → Type 0
IsFirst Wide t = anywhere is_wide t ≡ true
IsFirst Long t = (anywhere is_wide t ≡ false) × (anywhere is_long t ≡ true)
IsFirst Ragged t = (anywhere is_wide t ≡ false) × (anywhere is_long t ≡ false) × (anywhere is_ragged t ≡ true)
IsFirst Costly t =
    (anywhere is_wide t ≡ false) × (anywhere is_long t ≡ false) × (anywhere is_ragged t ≡ false)
    × (nat_lt most_cost (cost (base Plain) t) ≡ true)
IsFirst Tall t =
    (anywhere is_wide t ≡ false) × (anywhere is_long t ≡ false) × (anywhere is_ragged t ≡ false)
    × (nat_lt most_cost (cost (base Plain) t) ≡ false) × (nat_lt most_height (height t) ≡ true)
IsFirst BadRoot t =
    (anywhere is_wide t ≡ false) × (anywhere is_long t ≡ false) × (anywhere is_ragged t ≡ false)
    × (nat_lt most_cost (cost (base Plain) t) ≡ false) × (nat_lt most_height (height t) ≡ false) × (is_root t ≡ false)

-- the value `t` has none of the six misfits
unfoldable pub Fits : Tree → Type 0
Fits t = misfit t ≡ None

-- six facts, in the order of the misfits: the value `t` has none of the six misfits
pub record IsFit (t : Tree) : Type 0 where
  pub narrow : anywhere is_wide t ≡ false
  pub short : anywhere is_long t ≡ false
  pub even : anywhere is_ragged t ≡ false
  pub cheap : cost (base Plain) t ≤ most_cost
  pub low : height t ≤ most_height
  pub root : is_root t ≡ true
