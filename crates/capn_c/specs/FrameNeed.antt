-- A lower bound for the length of a frame whose first bytes are known. (Our own.)
use Rattle.std.specs.Prelude.{ℕ, ◌<◌, ◌≤◌, List, ◌++◌, length, nat_lt, if◌then◌else◌}
use Rattle.capn_stream.specs.StreamPieces.{IsFrame}
use Rattle.capn_stream.specs.FrameRefusal.{announced_segments, frame_length, head_length}
use Rattle.capn_stream.specs.NextMessage.{most_bytes}

-- A lower bound for the length in bytes of every frame that begins with `bs`. If `bs` lack the number of segments, it
-- is the length of a table for one segment. If `bs` have that number but not the complete table, it is the length of
-- the table. Otherwise it is the length of the complete frame.
abbrev pub needed : List ℕ → ℕ
needed bs =
    if nat_lt (length bs) 4 then head_length 1
    else (if nat_lt (length bs) (head_length (announced_segments bs)) then head_length (announced_segments bs)
    else frame_length bs)

-- Every complete frame that begins with `bs` has at least `n` bytes. `bs` have fewer than `n` bytes, and `n` is at most
-- the greatest length of a frame of at most `most` words.
pub record IsNeeded (bs : List ℕ) (most n : ℕ) : Type 0 where
  pub least : (more : List ℕ) → IsFrame (bs ++ more) most → n ≤ length (bs ++ more)
  pub beyond : length bs < n
  pub bounded : n ≤ most_bytes most
