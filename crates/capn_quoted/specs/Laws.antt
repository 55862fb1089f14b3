-- The laws of texts between quotes.
use Rattle.std.specs.Prelude.{◌≡◌, ℕ, List, [], ◌∷◌, ◌++◌, true, Some}
use Rattle.std.specs.Str.{all_scalars, encode_utf8_all}
use Rattle.capn_quoted.specs.Texts.{is_text}
use Rattle.capn_quoted.specs.Escapes.{escapes, all_written}
use Rattle.capn_quoted.specs.Reading.{unquoted}

-- The UTF-8 of the code points `cs` is written code point by code point.
abbrev pub ByCodePoints : Type 0
ByCodePoints = (cs : List ℕ) → all_scalars cs ≡ true → escapes (encode_utf8_all cs) ≡ all_written cs

-- What is written of the text `xs`, and the closing quote, is read as `xs`.
abbrev pub IsReadBack : Type 0
IsReadBack = (xs : List ℕ) → is_text xs ≡ true → unquoted (escapes xs ++ 34 ∷ []) ≡ Some xs

-- If `xs` is read from `text`, it is a text, and `text` is what is written of it, and the closing quote.
abbrev pub IsWritten : Type 0
IsWritten = (text xs : List ℕ) → unquoted text ≡ Some xs → (text ≡ escapes xs ++ 34 ∷ []) × (is_text xs ≡ true)
