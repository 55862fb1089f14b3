-- The bound on the work from bytes to a message, in steps. A step is a read of bytes, a write of a word of scratch, or
-- a turn of a loop. (Our own.)
use Rattle.std.specs.Prelude.{ℕ, ◌+◌, ◌*◌}

-- The greatest number of steps from `bytes` bytes to the message, with `scratch` words of scratch: 3 for each byte, 22
-- for each word of scratch, and 3 more.
abbrev pub work_of_bytes : ℕ → ℕ → ℕ
work_of_bytes bytes scratch = 3 * bytes + 22 * scratch + 3
