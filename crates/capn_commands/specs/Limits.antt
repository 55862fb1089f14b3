-- The limit on the input of a run. (Our own.)
use Rattle.std.specs.Prelude.{ℕ, ◌^◌}

-- The greatest number of bytes of input that a run takes.
abbrev pub most_input : ℕ
most_input = 2 ^ 32
