-- The values of slots, numbers and rows of a message.
use Rattle.std.specs.Prelude.{◌≡◌, ℕ, ◌+◌, ◌*◌, ◌^◌, ◌<◌, List, length}
use Rattle.capn_words.specs.Message.{IsMessage, segment_at}
use Rattle.capn_words.specs.declared.space.Place.{Place}
use Rattle.capn_value.specs.Tree.{Tree, Bodies, count_rows}
use Rattle.capn_target.specs.Target.{words_for}
use Rattle.capn_walk.specs.ValueAt.{IsAt, RowsAt, words_from}
use Rattle.capn_target.specs.Shapes.{IsContent}
use Rattle.capn_layout.specs.FirstBits.{first_bits}

module _ (m : List (List ℕ)) where
  -- `v` is the value in the slot at word `w` of segment `s` of message `m`. (Our own.)
  pub record HasSlot (s w : ℕ) (v : Tree) : Type 0 where
    pub message : IsMessage m
    pub exists : s < length m
    pub place : w < length (segment_at m s)
    pub at : IsAt m (record { segment = s; word = w }) v

  -- The words `ws` are the first `bits` bits of the content at `start` in message `m`. That content has
  -- `words_for bits` words, and `bits` is below 2^36. (Our own.)
  pub record PacksBits (start : Place) (bits : ℕ) (ws : List ℕ) : Type 0 where
    pub message : IsMessage m
    pub content : IsContent m start (words_for bits)
    pub few : bits < 2 ^ 36
    pub is : ws ≡ first_bits bits (words_from m start.segment start.word)

  -- `bs` are the bodies of `n` rows of message `m` from `start` on. Each row has `a` words and `b` slots, and `a + b`
  -- is below 2^30. (Our own.)
  pub record AreRows (start : Place) (n a b : ℕ) (bs : Bodies) : Type 0 where
    pub message : IsMessage m
    pub content : IsContent m start (n * (a + b))
    pub number : count_rows bs ≡ n
    pub narrow : a + b < 2 ^ 30
    pub rows : RowsAt m a b start.segment start.word bs
