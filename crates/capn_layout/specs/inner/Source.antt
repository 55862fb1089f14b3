-- The items, numbers and rows of a layout's source, and the values that they describe.
use Rattle.std.specs.Prelude.{◌≡◌, ℕ, ◌^◌, ◌<◌, List, [], ◌++◌}
use Rattle.capn_words.specs.declared.pointer.Width.{Width}
use Rattle.capn_value.specs.Tree.{Tree, nil, node, links, rows, cap, Trees, count, Bodies, no_bodies, body, count_rows}
use Rattle.capn_layout.specs.declared.source.Item.{Item}
use Rattle.capn_layout.specs.declared.source.Item.TheVariants as items
use Rattle.capn_layout.specs.Layout.{point, list_to, lay}
use Rattle.capn_layout.specs.LayoutSteps.{AreRowsOver}

-- `v` is laid out as a list of `n` elements of `width`, and `ws` are the words of the list's content. (Our own.)
pub record IsListOf (v : Tree) (width : Width) (n : ℕ) (ws : List ℕ) : Type 0 where
  pub few : n < 2 ^ 29
  pub pointer : (from to : ℕ) → point v from to ≡ list_to from to width n
  pub content : (at : ℕ) → lay v at ≡ ws

-- `v` is a struct, and `bs` is one row with the words and slots of `v`. (Our own.)
abbrev pub IsStruct : Tree → Bodies → Type 0
IsStruct v bs = (ws : List ℕ) × (ss : Trees) × (v ≡ node ws ss) × (bs ≡ body ws ss no_bodies)

-- `v` is a list of `n` pointers, and `bs` is one row with the list's slots and no words. (Our own.)
abbrev pub AreLinks : ℕ → Tree → Bodies → Type 0
AreLinks n v bs = (ts : Trees) × (v ≡ links ts) × (count ts ≡ n) × (bs ≡ body [] ts no_bodies)

-- `v` is a list of `n` structs, and `bs` are the list's rows. (Our own.)
abbrev pub AreStructs : ℕ → Tree → Bodies → Type 0
AreStructs n v bs = (v ≡ rows bs) × (count_rows bs ≡ n)

module _ {N R : Type 0} (packs : N → List ℕ → Type 0) (are : R → Bodies → Type 0) where
  -- The item describes the value `v`: its kind, and the numbers or rows of its content. (Our own.)
  abbrev pub IsItem : Item N R → Tree → Type 0
  IsItem items.Nil v = v ≡ nil
  IsItem (items.Cap k) v = v ≡ cap k
  IsItem (items.Numbers x width n) v = (ws : List ℕ) × packs x ws × IsListOf v width n ws
  IsItem (items.Struct x) v = (bs : Bodies) × IsStruct v bs × are x bs
  IsItem (items.Links x n) v = (bs : Bodies) × AreLinks n v bs × are x bs
  IsItem (items.Rows x n) v = (bs : Bodies) × AreStructs n v bs × are x bs

-- `q` is `p`, followed for each row of `bs` by the first `a` words of the row and then any `b` words. (Our own.)
pub record IsGrown (a b : ℕ) (bs : Bodies) (p q : List ℕ) : Type 0 where
  pub cells : List ℕ
  pub over : AreRowsOver a b bs cells
  pub grown : q ≡ p ++ cells
