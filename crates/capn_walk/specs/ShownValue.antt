-- The value that a view of a slot shows.
use Rattle.std.specs.Prelude.{◌≡◌, ℕ, zero, suc, ◌<◌, List, [], length, slice_index, Ok}
use Rattle.capn_words.specs.declared.space.Place.{Place}
use Rattle.capn_value.specs.Tree.{Tree, nil, node, voids, numbers, links, rows, cap, Trees}
use Rattle.capn_value.specs.Tree.{no_trees, Bodies, no_bodies, body, count, count_rows, tree_at}
use Rattle.capn_target.specs.declared.target.Target.{Target}
use Rattle.capn_target.specs.declared.target.Target.TheVariants as targets
use Rattle.capn_walk.specs.declared.kind.Kind.{Kind}
use Rattle.capn_walk.specs.declared.kind.Kind.TheVariants as kinds
use Rattle.capn_target.specs.Target.{target, list_width}
use Rattle.capn_walk.specs.ValueAt.{IsAt}
use Rattle.capn_walk.specs.View.{kind_of_list, kind_of, len_of, words_in, slots_in, links_in, numbers_in, rows_in}
use Rattle.capn_walk.specs.View.{step_place, content_of, number_of, row_of}

-- the words of row `i` of the bodies, or no words if there is no row `i`
abbrev pub words_of_row : Bodies → ℕ → List ℕ
words_of_row no_bodies i = []
words_of_row (body ws ss bs) zero = ws
words_of_row (body ws ss bs) (suc i) = words_of_row bs i

-- the values of the slots of row `i` of the bodies, or no values if there is no row `i`
abbrev pub slots_of_row : Bodies → ℕ → Trees
slots_of_row no_bodies i = no_trees
slots_of_row (body ws ss bs) zero = ss
slots_of_row (body ws ss bs) (suc i) = slots_of_row bs i

module _ (message : List (List ℕ)) (found : Target) where
  -- a view of the target `found` shows a struct with the words `ws` and the values `ss` of its slots
  pub record ShowsStruct (ws : List ℕ) (ss : Trees) : Type 0 where
    pub kind : kind_of found ≡ kinds.Node
    pub words : words_in found ≡ length ws
    pub slots : slots_in found ≡ count ss
    pub word : (i : ℕ) → i < length ws → slice_index (content_of message found) i ≡ slice_index ws i
    pub slot : (i : ℕ) → i < count ss → IsAt message (step_place found i) (tree_at ss i)

  -- a view of the target `found` shows a list of kind `k` with the numbers `xs`
  pub record ShowsNumbers (k : Kind) (xs : List ℕ) : Type 0 where
    pub kind : kind_of found ≡ k
    pub len : len_of found ≡ length xs
    pub numbers : numbers_in found ≡ length xs
    pub number : (i : ℕ) → i < length xs → number_of message found i ≡ slice_index xs i

  -- a view of the target `found` shows a list of pointers with the values `ts`
  pub record ShowsLinks (ts : Trees) : Type 0 where
    pub kind : kind_of found ≡ kinds.Links
    pub len : len_of found ≡ count ts
    pub links : links_in found ≡ count ts
    pub slot : (i : ℕ) → i < count ts → IsAt message (step_place found i) (tree_at ts i)

-- a view of the target `found` shows a list of structs with the rows `bs`
pub record ShowsRows (message : List (List ℕ)) (found : Target) (bs : Bodies) : Type 0 where
  pub kind : kind_of found ≡ kinds.Rows
  pub len : len_of found ≡ count_rows bs
  pub rows : rows_in found ≡ count_rows bs
  pub row : (i : ℕ) → i < count_rows bs → ShowsStruct message (row_of found i) (words_of_row bs i) (slots_of_row bs i)

-- a view of the target `found` shows the given value
abbrev pub Shows : List (List ℕ) → Target → Tree → Type 0
Shows message found nil = found ≡ targets.Nil
Shows message found (cap k) = found ≡ targets.Cap k
Shows message found (node ws ss) = ShowsStruct message found ws ss
Shows message found (voids n) = (kind_of found ≡ kinds.Voids) × (len_of found ≡ n)
Shows message found (numbers a xs) = ShowsNumbers message found (kind_of_list (list_width a)) xs
Shows message found (links ts) = ShowsLinks message found ts
Shows message found (rows bs) = ShowsRows message found bs

-- if the slot at `at` has the target `found` and the value `v`, a view of `found` shows `v`
abbrev pub ViewsShow : List (List ℕ) → Place → Target → Tree → Type 0
ViewsShow message at found v = target message at ≡ Ok found → IsAt message at v → Shows message found v
