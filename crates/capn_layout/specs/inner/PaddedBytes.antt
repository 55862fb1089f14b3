-- Bytes that are padded with zeros to complete words.
use Rattle.std.specs.Prelude.{ℕ, ◌-◌, ◌%◌, List, ◌++◌, length, replicate}

-- The number of zeros that bring `n` bytes up to a multiple of 8. (Our own.)
abbrev pub pad : ℕ → ℕ
pad n = (8 - n % 8) % 8

-- The bytes `bs`, followed by zeros up to a multiple of 8 bytes. (Our own.)
abbrev pub padded : List ℕ → List ℕ
padded bs = bs ++ replicate (pad (length bs)) 0
