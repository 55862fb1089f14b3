-- Lists of bytes that are written as strings in JSON. (RFC 8259 for the bytes that are escaped.)
use Rattle.std.specs.Prelude.{◌≡◌, ℕ, List, [], ◌∷◌, ◌++◌, codes, ◌==◌, if◌then◌else◌, refl}
use Rattle.std.specs.Str.{chars, is_utf8}
use Rattle.hex.specs.Hex.{encode_with}
use Rattle.capn_quoted.specs.Texts.{before_last, is_clear_text}
use Rattle.capn_show.specs.Json.{member, quoted, digits_json}

-- The byte `b` of a text, as JSON writes it between quotes.
abbrev pub json_escaped : ℕ → List ℕ
json_escaped b =
    if b == 34 then 92 ∷ 34 ∷ [] else if b == 92 then 92 ∷ 92 ∷ [] else if b == 9 then 92 ∷ 116 ∷ []
    else if b == 10 then 92 ∷ 110 ∷ [] else if b == 13 then 92 ∷ 114 ∷ [] else b ∷ []

-- The bytes of a text, as JSON writes them between quotes.
abbrev pub json_escapes : List ℕ → List ℕ
json_escapes [] = []
json_escapes (b ∷ bs) = json_escaped b ++ json_escapes bs

-- The JSON of the text `xs`, as a string without the last byte of `xs`.
abbrev pub text_json : List ℕ → List ℕ
text_json xs = member (codes "text") (quoted (json_escapes (before_last xs)))

-- The JSON of the list of bytes `xs`, as a string if `xs` is a text, and in digits otherwise.
abbrev pub text_or_digits : List ℕ → List ℕ
text_or_digits xs = if is_clear_text xs then text_json xs else digits_json xs

with_escapes : json_escapes (34 ∷ 92 ∷ 9 ∷ 10 ∷ 13 ∷ 195 ∷ 164 ∷ []) ≡ 92 ∷ 34 ∷ 92 ∷ 92 ∷ 92 ∷ 116 ∷ 92 ∷ 110 ∷ 92
    ∷ 114 ∷ 195 ∷ 164 ∷ []
with_escapes = refl

no_bytes : text_or_digits [] ≡ codes "{\"bytes\":\"\"}"
unfolding encode_with
no_bytes = refl

one_zero : text_or_digits (0 ∷ []) ≡ codes "{\"text\":\"\"}"
unfolding is_utf8 chars lib.Utf8.encode
one_zero = refl

no_zero : text_or_digits (104 ∷ []) ≡ codes "{\"bytes\":\"68\"}"
unfolding encode_with
no_zero = refl

a_letter : text_or_digits (195 ∷ 164 ∷ 0 ∷ []) ≡ codes "{\"text\":\"" ++ (195 ∷ 164 ∷ codes "\"}")
unfolding is_utf8 chars lib.Utf8.encode
a_letter = refl

half_a_letter : text_or_digits (195 ∷ 0 ∷ []) ≡ codes "{\"bytes\":\"c300\"}"
unfolding is_utf8 chars encode_with lib.Utf8.encode
half_a_letter = refl
