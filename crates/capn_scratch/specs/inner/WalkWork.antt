-- The work on a message.
use Rattle.std.specs.Prelude.{ℕ, ◌+◌, ◌*◌}

-- The number of reads that `canonical_into` requires a message to allow, within the given budget.
abbrev pub walk_work : ℕ → ℕ
walk_work budget = 54 * (budget + 1) + 1
