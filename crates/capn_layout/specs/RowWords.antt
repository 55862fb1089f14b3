-- Rows of equal sizes in the words of a segment.
use Rattle.std.specs.Prelude.{ℕ, zero, suc, ◌+◌, max, List, [], ◌++◌, take}
use Rattle.capn_value.specs.Trim.{kept_words}
use Rattle.capn_walk.specs.ValueAt.{words_from}

module _ (m : List (List ℕ)) where
  -- The greatest `kept_words` of `n` stretches of `size` words in message `m`. The stretches begin at word `w` of
  -- segment `s`, `step` words apart. (Our own.)
  abbrev pub kept_each : ℕ → ℕ → ℕ → ℕ → ℕ → ℕ
  kept_each s w size step zero = 0
  kept_each s w size step (suc n) = max (kept_words (take size (words_from m s w))) (kept_each s (w + step) size step n)

  -- For each of `n` rows, the `a` words from its start and then the `b` words that begin `inset` words after its start.
  -- The rows begin at word `w` of segment `s`, `step` words apart. (Our own.)
  abbrev pub row_cells : ℕ → ℕ → ℕ → ℕ → ℕ → ℕ → ℕ → List ℕ
  row_cells s w step inset a b zero = []
  row_cells s w step inset a b (suc n) =
      take a (words_from m s w)
      ++ (take b (words_from m s (w + inset)) ++ row_cells s (w + step) step inset a b n)
