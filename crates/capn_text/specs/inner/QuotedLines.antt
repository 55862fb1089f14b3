-- The reading of a list of bytes between quotes, from left to right. (Our own.)
use Rattle.std.specs.Prelude.{ℕ, suc, List, [], ◌∷◌, length, codes, cond, ◌==◌, ◌&&◌, Option, Some, None}
use Rattle.capn_quoted.specs.Reading.{unquoted}
use Rattle.capn_text.specs.inner.Tokens.{◌>>=◌, strip, decimal_at}

-- The bytes between quotes, or `None`. `text` begins with their number, a space and the opening quote.
abbrev pub counted_text : List ℕ → Option (List ℕ)
counted_text text =
    decimal_at text >>= λ n. strip (codes " \"") n.1 >>= λ rest. unquoted rest
    >>= λ xs. cond (length xs == n.0) (Some xs) None

-- The bytes between quotes. If the first argument is `Some rest`, they are read from `rest`. Otherwise they are read
-- from `text`, which begins with their number.
abbrev pub counted_or : Option (List ℕ) → List ℕ → Option (List ℕ)
counted_or (Some rest) text = unquoted rest
counted_or None text = counted_text text

-- The number of pairs of spaces at the front of a line, which is its level, and the bytes after these pairs.
abbrev pub levels_at : List ℕ → ℕ × List ℕ
levels_at [] = (0, [])
levels_at (c ∷ []) = (0, c ∷ [])
levels_at (c ∷ d ∷ cs) = cond (32 == c && 32 == d) (suc (levels_at cs).0, (levels_at cs).1) (0, c ∷ d ∷ cs)

-- The level of the line `text` and its bytes between quotes, or `None` if it has no such bytes. `text` is given without
-- its newline.
unfoldable pub quoted_at : List ℕ → Option (ℕ × List ℕ)
quoted_at text =
    strip (codes "bytes ") (levels_at text).1 >>= λ rest. counted_or (strip (34 ∷ []) rest) rest
    >>= λ xs. Some ((levels_at text).0, xs)
