-- Relations between words and the layouts of values.
use Rattle.std.specs.Prelude.{◌≡◌, ℕ, List, length, take, drop, slice_index}
use Rattle.capn_value.specs.Tree.{Tree, Trees, Bodies}
use Rattle.capn_layout.specs.Layout.{point, points, lay, lays, row_contents, lays_in_rows}

-- The words `xs` are in `all`, from the word `at` on. (Our own.)
abbrev pub Stand : List ℕ → ℕ → List ℕ → Type 0
Stand all at xs = take (length xs) (drop at all) ≡ xs

-- The word `from` of `all` is the pointer of `v`, and the words from `to` on are the layout of `v`. (Our own.)
pub record IsLaidAt (all : List ℕ) (v : Tree) (from to : ℕ) : Type 0 where
  pub pointer : slice_index all from ≡ point v from to
  pub content : Stand all to (lay v to)

-- The words of `all` from `from` on are the pointers of `ts`, and the words from `to` on are the layouts of `ts`. (Our
-- own.)
pub record AreLaidAt (all : List ℕ) (ts : Trees) (from to : ℕ) : Type 0 where
  pub pointers : Stand all from (points ts from to)
  pub contents : Stand all to (lays ts to)

-- The words of `all` from `from` on are the rows `bs`, of `a` words and `b` slots each. The words from `to` on are the
-- layouts of the objects below the slots. (Our own.)
pub record RowsLaidAt (all : List ℕ) (a b : ℕ) (bs : Bodies) (from to : ℕ) : Type 0 where
  pub rows : Stand all from (row_contents a b bs from to)
  pub contents : Stand all to (lays_in_rows bs to)
