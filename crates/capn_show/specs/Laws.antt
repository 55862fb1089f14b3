-- The law that JSON with strings loses nothing. (Our own.)
use Rattle.std.specs.Prelude.{◌≡◌, ℕ, List}
use Rattle.hex.specs.Hex.{IsBytes}
use Rattle.capn_show.specs.JsonTexts.{text_or_digits}

-- If `text_or_digits` gives the same JSON for the lists of bytes `xs` and `ys`, these lists are equal.
abbrev pub OneJson : Type 0
OneJson = (xs ys : List ℕ) → IsBytes xs → IsBytes ys → text_or_digits xs ≡ text_or_digits ys → xs ≡ ys
