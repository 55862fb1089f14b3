-- Slots and rows whose values fit in a buffer of words, and the buffer after these values are laid out.
use Rattle.std.specs.Prelude.{◌≡◌, ℕ, suc, ◌+◌, ◌*◌, ◌^◌, ◌<◌, ◌≤◌, List, ◌++◌, length, set}
use Rattle.capn_value.specs.Tree.{Tree, Trees, count, tree_at, Bodies, count_rows}
use Rattle.capn_value.specs.Trim.{kept_slots_of_rows}
use Rattle.capn_value.specs.Cost.{height, greatest, greatest_in_rows}
use Rattle.capn_layout.specs.Layout.{size, sizes, sizes_in_rows, point, row_contents, lay, lays_in_rows}
use Rattle.capn_layout.specs.LayoutSteps.{laid, laid_slots, laid_rows, AreRowsOver, past, rows_past}
use Rattle.capn_layout.specs.Sound.{AreWide, Sound, Sounds, SoundRows}

-- The buffer `q` is `p` after two steps. The pointer to `v` is written over word `from`. The content of `v` and all
-- contents below it are appended. (Our own.)
abbrev pub IsLaidAs : Tree → ℕ → List ℕ → List ℕ → Type 0
IsLaidAs v from p q = q ≡ laid v (set p from (point v from (length p)))

module _ {S : Type 0} (has : S → ℕ → Tree → Type 0) where
  -- The slot `slot` of `source` has a `Sound` value at most `depth` objects high. The size of this value plus `n` is at
  -- most `most` words. (Our own.)
  pub record IsReadyIn (source : S) (slot depth n most : ℕ) : Type 0 where
    pub value : Tree
    pub is : has source slot value
    pub sound : Sound value
    pub low : height value ≤ depth
    pub room : n + size value ≤ most

  -- The slot `slot` of `source` has a `Sound` value at most `depth` objects high. The size of this value plus `n` is at
  -- most 2^29 words, the reach of a pointer. (Our own.)
  pub record IsReady (source : S) (slot depth n : ℕ) : Type 0 where
    pub value : Tree
    pub is : has source slot value
    pub sound : Sound value
    pub low : height value ≤ depth
    pub room : n + size value ≤ 2 ^ 29

  -- The first `number` slots of `source` have `Sound` values at most `depth` objects high. The sizes of the values from
  -- slot `i` on, plus `n`, are at most `most` words. (Our own.)
  pub record AreReady (source : S) (i number depth n most : ℕ) : Type 0 where
    pub values : Trees
    pub are : (k : ℕ) → k < number → has source k (tree_at values k)
    pub count : number ≤ count values
    pub sound : Sounds values
    pub low : greatest values ≤ depth
    pub room : n + sizes (past i values) ≤ most

  -- For each value in `slot` of `source`, the buffer `q` is `p` after two steps. The pointer to the value is written
  -- over word `from`. The value's content and all contents below it are appended. (Our own.)
  abbrev pub IsLaid : S → ℕ → ℕ → List ℕ → List ℕ → Type 0
  IsLaid source slot from p q = (v : Tree) → has source slot v → q ≡ laid v (set p from (point v from (length p)))

  -- Let `ts` begin with the values of the first `number` slots of `source`. The buffer `q` is `p` after these values
  -- are laid out, with their pointers written over the words from `first` on. (Our own.)
  abbrev pub AreLaid : S → ℕ → ℕ → List ℕ → List ℕ → Type 0
  AreLaid source number first p q = (ts : Trees) → number ≤ count ts
      → ((k : ℕ) → k < number → has source k (tree_at ts k)) → q ≡ laid_slots number ts first p

module _ {R : Type 0} (are : R → Bodies → Type 0) where
  -- Each of the `number` rows has at least `a` words and `b` slots, and `kept_slots_of_rows` is at most `b`. The values
  -- in the slots are `Sound` and at most `depth` objects high. The sizes below the rows from row `i` on, plus `n`, are
  -- at most `most` words. (Our own.)
  pub record RowsReady (rows : R) (i number a b depth n most : ℕ) : Type 0 where
    pub values : Bodies
    pub is : are rows values
    pub count : count_rows values ≡ number
    pub wide : AreWide a b values
    pub kept : kept_slots_of_rows values ≤ b
    pub sound : SoundRows values
    pub low : greatest_in_rows values ≤ depth
    pub room : n + sizes_in_rows (rows_past i values) ≤ most

  -- Let `rows` be `number` rows of `Sound` values, with at least `a` words and `b` slots each. The buffer `q` is `p`
  -- after the first `b` slots of each row are laid out. The rows start at word `first`. (Our own.)
  abbrev pub RowsLaid : R → ℕ → ℕ → ℕ → ℕ → List ℕ → List ℕ → Type 0
  RowsLaid rows number a b first p q = (bs : Bodies) → are rows bs → count_rows bs ≡ number
      → AreWide a b bs → SoundRows bs → q ≡ laid_rows a b bs first p

-- The layout of `v` is `tag`, then the first `a` words and `b` slots of each row of `bs`, then all contents below the
-- rows. (Our own.)
pub record IsBlock (v : Tree) (tag : List ℕ) (a b : ℕ) (bs : Bodies) : Type 0 where
  pub sound : SoundRows bs
  pub wide : AreWide a b bs
  pub kept : kept_slots_of_rows bs ≤ b
  pub low : height v ≡ suc (greatest_in_rows bs)
  pub size_is : size v ≡ length tag + count_rows bs * (a + b) + sizes_in_rows bs
  pub lay_is : (at : ℕ) → lay v at ≡ tag
      ++ (row_contents a b bs (at + length tag) (at + length tag + count_rows bs * (a + b))
      ++ lays_in_rows bs (at + length tag + count_rows bs * (a + b)))

-- The buffer `q` is `p` after two steps. The pointer to `v` is written over word `from`. The tag of `v`, if any, and
-- the rows `bs` are appended, the first row at word `first`, with any words in place of the slots. (Our own.)
pub record IsOpened (v : Tree) (bs : Bodies) (from : ℕ) (p q : List ℕ) (first a b : ℕ) : Type 0 where
  pub tag : List ℕ
  pub block : IsBlock v tag a b bs
  pub cells : List ℕ
  pub over : AreRowsOver a b bs cells
  pub at : first ≡ length p + length tag
  pub grown : q ≡ (set p from (point v from (length p)) ++ tag) ++ cells
