-- The end of a text that is written to a writer of limited size.
use Rattle.std.specs.Prelude.{◌≡◌, ℕ, List, ◌++◌}
use Rattle.capn_cmp.specs.ShownText.{end_line}

-- `new` is a prefix of `old ++ (kept ++ end_line)`. `old` and `new` are the content of the writer before and after the
-- end of a text is written. `kept` are the bytes of that text that were not written before.
abbrev pub IsEnded : List ℕ → List ℕ → List ℕ → Type 0
IsEnded old kept new = (more : List ℕ) × (old ++ (kept ++ end_line) ≡ new ++ more)
