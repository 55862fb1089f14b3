-- The table of a written frame, with its padding.
use Rattle.std.specs.Prelude.{ℕ, List, ◌++◌, length, replicate}
use Rattle.capn_stream.specs.Frames.{padding, table}

-- the table of `message`, and padding of zeros
abbrev pub head_text : List (List ℕ) → List ℕ
head_text message = table message ++ replicate (padding (length message)) 0
