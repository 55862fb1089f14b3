-- The rule of the emitter of JSON. The mark of an item is a comma, and the first item has none.
use Rattle.std.specs.Prelude.{ℕ, zero, suc, List, [], ◌∷◌, ◌++◌, codes, Bool, true, false, if◌then◌else◌}
use Rattle.std.specs.Fmt.{decimal}
use Rattle.capn_words.specs.declared.pointer.Width.{Width}
use Rattle.capn_words.specs.declared.pointer.Width.TheVariants.{W64}
use Rattle.capn_quoted.specs.Texts.{is_clear_text}
use Rattle.capn_show.specs.Emitted.{Rule}
use Rattle.capn_show.specs.Json.{word_text, number_text, digits_json}
use Rattle.capn_show.specs.JsonTexts.{text_json, text_or_digits}
use Rattle.capn_show.specs.declared.piece.Piece.{Piece}
use Rattle.capn_show.specs.declared.piece.Piece.TheVariants as pieces

-- The comma before item `i`, or nothing before item 0.
abbrev pub comma : ℕ → List ℕ
comma zero = []
comma (suc i) = 44 ∷ []

-- True for `W64`, the width of the numbers that are written between quotes.
abbrev pub is_quoted : Width → Bool
is_quoted W64 = true
is_quoted _ = false

-- The decimal digits of a number, between quotes if the first argument is true.
abbrev pub number_item : Bool → ℕ → List ℕ
number_item true = number_text
number_item false = decimal

-- The text of a piece in JSON.
abbrev pub json_piece : Piece → List ℕ
json_piece pieces.Nil = codes "null"
json_piece (pieces.Cap k) = codes "{\"capability\":" ++ (decimal k ++ 125 ∷ [])
json_piece (pieces.Body a b) = codes "{\"words\":["
json_piece (pieces.Word w) = word_text w
json_piece pieces.EndWords = codes "],\"slots\":["
json_piece pieces.EndItems = codes "]}"
json_piece (pieces.Links n) = codes "{\"pointers\":["
json_piece (pieces.Rows n) = codes "{\"rows\":["
json_piece (pieces.Voids n) = codes "{\"void\":" ++ (decimal n ++ 125 ∷ [])
json_piece (pieces.Bits n) = codes "{\"bits\":\""
json_piece (pieces.Bytes n) = codes "{\"bytes\":\""
json_piece (pieces.Pairs n) = codes "{\"u16\":["
json_piece (pieces.Quads n) = codes "{\"u32\":["
json_piece (pieces.Octs n) = codes "{\"u64\":["
json_piece (pieces.Number width n) = number_item (is_quoted width) n
json_piece pieces.Digits = []
json_piece pieces.EndDigits = codes "\"}"
json_piece pieces.NoDigits = codes "\"}"

-- The rule of JSON. A list of bytes that is a text is written as a string if `quoted` is true.
abbrev pub json_rule : Bool → Rule
json_rule quoted = record {
  is_text = λ xs. if quoted then is_clear_text xs else false;
  text = λ level xs. text_json xs;
  lies = λ m at. 0;
  below = λ path i. path;
  mark = λ i byte path. comma i;
  piece = λ level p. json_piece p;
}

-- The JSON of a list of bytes. A list that is a text is written as a string if the first argument is true.
abbrev pub bytes_json_of : Bool → List ℕ → List ℕ
bytes_json_of false = digits_json
bytes_json_of true = text_or_digits
