-- Lemmas for `numbers_in`: the numbers of a text that were read, and those still to be read.
use Rattle.std.proofs.Common.{ℕ, List, ◌++◌, Option, option_map}

-- `numbers`, which were read, and then the numbers of `path`, which are still to be read.
abbrev pub after : List ℕ → Option (List ℕ) → Option (List ℕ)
after numbers path = option_map (λ more. numbers ++ more) path
