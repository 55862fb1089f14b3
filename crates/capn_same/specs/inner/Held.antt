-- The values of the slots, rows and contents at a place of message `m`, and bounds on the heights of these values.
use Rattle.std.specs.Prelude.{◌≡◌, ℕ, ◌+◌, ◌*◌, ◌≤◌, List, length}
use Rattle.capn_words.specs.Message.{IsMessage}
use Rattle.capn_words.specs.declared.space.Place.{Place}
use Rattle.capn_value.specs.Tree.{Tree, Trees, Bodies, count, count_rows}
use Rattle.capn_value.specs.Cost.{height, greatest, greatest_in_rows}
use Rattle.capn_target.specs.declared.target.Shape.{Shape}
use Rattle.capn_target.specs.Shapes.{IsContent, RowsFit, extent}
use Rattle.capn_walk.specs.ValueAt.{AreAt, RowsAt, AreWordsAt, IsInside}
use Rattle.capn_layout.specs.MessageSlots.{HasSlot}

module _ (m : List (List ℕ)) where
  -- the slot of `m` at `at` has a value that is at most `depth` objects high (Our own.)
  pub record HasValue (at : Place) (depth : ℕ) : Type 0 where
    pub value : Tree
    pub is : HasSlot m at.segment at.word value
    pub low : height value ≤ depth

  -- the `n` slots of `m` from `at` on have the values `ts` (Our own.)
  pub record AreIn (at : Place) (n : ℕ) (ts : Trees) : Type 0 where
    pub message : IsMessage m
    pub content : IsContent m at n
    pub number : count ts ≡ n
    pub are : AreAt m at.segment at.word ts

  -- the `n` slots of `m` from `at` on have values that are each at most `depth` objects high (Our own.)
  pub record HasValues (at : Place) (n depth : ℕ) : Type 0 where
    pub values : Trees
    pub are : AreIn at n values
    pub low : greatest values ≤ depth

  -- the row of `m` at `at` has the `a` words `ws`, and then `b` slots with the values `ss` (Our own.)
  pub record IsRow (at : Place) (a b : ℕ) (ws : List ℕ) (ss : Trees) : Type 0 where
    pub message : IsMessage m
    pub content : IsContent m at (a + b)
    pub long : length ws ≡ a
    pub number : count ss ≡ b
    pub own : AreWordsAt m at.segment at.word ws
    pub below : AreAt m at.segment (at.word + a) ss

  -- the row of `m` at `at` has `a` words, and then `b` slots with values that are each at most `depth` objects high
  -- (Our own.)
  pub record HasRow (at : Place) (a b depth : ℕ) : Type 0 where
    pub words : List ℕ
    pub slots : Trees
    pub is : IsRow at a b words slots
    pub low : greatest slots ≤ depth

  -- the `n` rows of `m` from `at` on, of `a` words and `b` slots each, have the bodies `bs` (Our own.)
  pub record AreRowsIn (at : Place) (n a b : ℕ) (bs : Bodies) : Type 0 where
    pub message : IsMessage m
    pub content : IsContent m at (n * (a + b))
    pub number : count_rows bs ≡ n
    pub rows : RowsAt m a b at.segment at.word bs

  -- the `n` rows of `m` from `at` on have `a` words and `b` slots each, with values that are at most `depth` objects
  -- high (Our own.)
  pub record HasRows (at : Place) (n a b depth : ℕ) : Type 0 where
    pub bodies : Bodies
    pub are : AreRowsIn at n a b bodies
    pub low : greatest_in_rows bodies ≤ depth

  -- the content of `shape` in `m` at `at` is a value that is at most `depth` objects high (Our own.)
  pub record HasContent (shape : Shape) (at : Place) (depth : ℕ) : Type 0 where
    pub message : IsMessage m
    pub content : IsContent m at (extent shape)
    pub fits : RowsFit shape
    pub value : Tree
    pub is : IsInside m shape at.segment at.word value
    pub low : height value ≤ depth
