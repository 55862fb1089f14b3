-- The laws of the plain form of a text.
use Rattle.std.specs.Prelude.{◌≡◌, ◌<◌, ◌^◌, ℕ, List, [], ◌∷◌, ◌++◌, length}
use Rattle.std.specs.List.{AllByRecursion}
use Rattle.capn_value.specs.Tree.{Tree}
use Rattle.capn_show.specs.Quoting.{quoted_bytes, shown_by}
use Rattle.capn_text.specs.Quoted.{IsPlain, IsOwnLine}
use Rattle.capn_text.specs.PlainForm.{plain, own_line}
use Rattle.capn_text.specs.Showable.{IsShowable}
use Rattle.capn_text.specs.Streams.{end_line, stream_text}

-- The texts of the given values as `quoted_bytes` shows them, each followed by the line `end`.
abbrev pub quoted_stream : List Tree → List ℕ
quoted_stream [] = []
quoted_stream (v ∷ vs) = shown_by quoted_bytes 0 v ++ (end_line ++ quoted_stream vs)

-- If the values `vs` are showable, `stream_text vs` is the plain form of `quoted_stream vs`.
abbrev pub QuotedIsPlain : Type 0
QuotedIsPlain = (vs : List Tree) → AllByRecursion IsShowable vs → IsPlain (quoted_stream vs) (stream_text vs)

-- If `text` has fewer than 2^64 bytes, its plain forms `a` and `b` are equal.
abbrev pub OnePlain : Type 0
OnePlain = (text a b : List ℕ) → length text < 2 ^ 64 → IsPlain text a → IsPlain text b → a ≡ b

-- If `text` has fewer than 2^64 bytes, `plain text` is its plain form.
abbrev pub PlainIsFound : Type 0
PlainIsFound = (text : List ℕ) → length text < 2 ^ 64 → IsPlain text (plain text)

-- If `text` has fewer than 2^64 bytes, and `n` is at least 1, line `n` of the plain form of `text` belongs to line
-- `own_line text n` of `text`.
abbrev pub OwnLineIsFound : Type 0
OwnLineIsFound = (text : List ℕ) (n : ℕ) → length text < 2 ^ 64 → 0 < n → IsOwnLine text n (own_line text n)
