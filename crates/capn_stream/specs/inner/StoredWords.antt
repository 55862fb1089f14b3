-- The words of a frame that is owned.
use Rattle.std.specs.Prelude.{◌≡◌, ℕ, ◌%◌, ◌≤◌, List, length, drop}
use Rattle.capn_words.specs.Message.{AreBytes}

-- `start` is at most the length of `frame`. The items of `frame` from `start` on are bytes, a multiple of 8 in number.
pub record IsTail (frame : List ℕ) (start : ℕ) : Type 0 where
  pub below : AreBytes (drop start frame)
  pub inside : start ≤ length frame
  pub whole : length (drop start frame) % 8 ≡ 0
