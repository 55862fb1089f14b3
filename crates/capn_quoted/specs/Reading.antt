-- The reading of a text between quotes, byte by byte: which bytes may follow, and the bytes that are read. (Our own.)
use Rattle.std.specs.Prelude.{◌≡◌, ℕ, ◌+◌, ◌-◌, ◌*◌, ◌%◌, List, [], ◌∷◌, ◌++◌, length, codes, cond, Bool, true}
use Rattle.std.specs.Prelude.{false, not, ◌==◌, ◌&&◌, ◌||◌, nat_le, nat_lt, Option, Some, None, refl}
use Rattle.std.specs.Char.{encode_utf8}
use Rattle.capn_quoted.specs.Texts.{is_printable}
use Rattle.capn_quoted.specs.Hidden.{is_from, is_hidden, begins_hidden}
use Rattle.capn_quoted.specs.declared.stage.Stage.{Stage}
use Rattle.capn_quoted.specs.declared.stage.Stage.TheVariants as stages

-- The value of the hexadecimal digit `c`, in lower case. 16 if `c` is no such digit.
abbrev pub digit_value : ℕ → ℕ
digit_value c = cond (is_from 48 57 c) (c - 48) (cond (is_from 97 102 c) (c - 87) 16)

-- True if the code point `c`, whose bytes are at least two, stands as it is between quotes. `least` is the least code
-- point of as many bytes.
abbrev pub stands : ℕ → ℕ → Bool
stands least c = (nat_le least c && nat_le 160 c) && ((nat_lt c 55296 || is_from 57344 1114111 c) && not (is_hidden c))

-- True if some code point stands as it is whose UTF-8 has `left` more bytes after those of `code`. `least` is the least
-- code point of as many bytes.
abbrev pub leads : ℕ → ℕ → ℕ → Bool
leads least left code = cond (left == 0) (stands least code) (cond (left == 1)
    (nat_le least (code * 64) && ((nat_lt (code * 64) 55296 || is_from 57344 1114111 (code * 64))
    && not (is_from 917504 917631 (code * 64))))
    (nat_le least (code * 4096) && nat_lt (code * 4096) 1114112))

-- The stage inside a code point, of which `left` more bytes are to come, or the stage after it if `left` is 0.
abbrev pub inside : ℕ → ℕ → ℕ → Stage
inside least left code = cond (left == 0) (stages.Next true) (stages.Inside least left code)

-- The stage after the first byte `c` of a code point of two to four bytes, or `None` if `c` is no such byte.
abbrev pub after_lead : ℕ → Option Stage
after_lead c = cond (is_from 194 223 c) (Some (stages.Inside 128 1 (c - 192)))
    (cond (is_from 224 239 c) (Some (stages.Inside 2048 2 (c - 224)))
    (cond (is_from 240 244 c) (Some (stages.Inside 65536 3 (c - 240))) None))

-- The stage after the byte `c` between two code points, if `c` is no quote. `wide` is true if a last zero has to come.
abbrev pub between : Bool → ℕ → Option Stage
between wide c = cond (c == 92) (Some (stages.Marked wide))
    (cond (nat_lt c 128) (cond (is_printable c) (Some (stages.Next wide)) None) (after_lead c))

-- The stage after the byte `c`, which stands after a backslash.
abbrev pub after_mark : Bool → ℕ → Option Stage
after_mark wide c = cond (c == 34 || c == 92) (Some (stages.Next wide)) (cond (c == 48) (Some stages.Zero)
    (cond (c == 116 || (c == 110 || c == 114)) (Some (stages.Next true))
    (cond (c == 117) (Some stages.Opening) None)))

-- The stage after the byte `c`, which stands after `\u{` and the digits of the number `n`. `n` is 0 before its first
-- digit.
abbrev pub after_digits : ℕ → ℕ → Option Stage
after_digits n c = cond (c == 125) (cond (is_hidden n) (Some (stages.Next true)) None)
    (cond (nat_lt (digit_value c) 16 && begins_hidden (n * 16 + digit_value c))
    (Some (stages.Number (n * 16 + digit_value c))) None)

-- The stage after the byte `c` inside a code point. The bytes that came have the value `code`.
abbrev pub after_inside : ℕ → ℕ → ℕ → ℕ → Option Stage
after_inside least left code c = cond (is_from 128 191 c && leads least (left - 1) (code * 64 + c % 64))
    (Some (inside least (left - 1) (code * 64 + c % 64))) None

-- The stage after the byte `c` in the given stage. `None` if no text goes on with `c`.
abbrev pub follow : Stage → ℕ → Option Stage
follow stages.First c = cond (c == 34) None (between false c)
follow (stages.Next wide) c = cond (c == 34) (cond wide None (Some stages.Closed)) (between wide c)
follow (stages.Marked wide) c = after_mark wide c
follow stages.Opening c = cond (c == 123) (Some (stages.Number 0)) None
follow (stages.Number n) c = after_digits n c
follow (stages.Inside least left code) c = after_inside least left code c
follow stages.Zero c = cond (c == 34) (Some stages.Closed) None
follow stages.Closed c = None

-- The byte that a backslash and `c` stand for.
abbrev pub unmarked : ℕ → ℕ
unmarked c = cond (c == 48) 0 (cond (c == 116) 9 (cond (c == 110) 10 (cond (c == 114) 13 c)))

-- The UTF-8 of the code point `n`, or no bytes if `n` is none.
abbrev pub encoded : ℕ → List ℕ
encoded n = cond (nat_lt n 55296 || is_from 57344 1114111 n) (encode_utf8 n) []

-- The bytes that are read by the byte `c` in the given stage, if a text goes on with `c`.
abbrev pub gives : Stage → ℕ → List ℕ
gives stages.First c = cond (c == 92 || c == 34) [] (c ∷ [])
gives (stages.Next wide) c = cond (c == 92 || c == 34) [] (c ∷ [])
gives (stages.Marked wide) c = cond (c == 117) [] (unmarked c ∷ [])
gives stages.Opening c = []
gives (stages.Number n) c = cond (c == 125) (encoded n) []
gives (stages.Inside least left code) c = c ∷ []
gives stages.Zero c = []
gives stages.Closed c = []

-- True for the stage after the closing quote.
abbrev pub is_closed : Stage → Bool
is_closed stages.Closed = true
is_closed _ = false

-- The bytes `front`, followed by the bytes in `read`, or `None` if `read` is `None`.
abbrev pub preceded : List ℕ → Option (List ℕ) → Option (List ℕ)
preceded front (Some xs) = Some (front ++ xs)
preceded front None = None

-- `f x` for `Some x`, and `other` for `None`.
abbrev pub after_some : {A B : Type 0} → Option A → B → (A → B) → B
after_some (Some x) other f = f x
after_some None other f = other

-- The bytes that are read from the given stage on, up to the closing quote, which has to be the last byte. `None` if a
-- byte is wrong or missing.
abbrev pub read_from : Stage → List ℕ → Option (List ℕ)
read_from s [] = cond (is_closed s) (Some []) None
read_from s (c ∷ cs) = after_some (follow s c) None (λ t. preceded (gives s c) (read_from t cs))

-- The bytes that are read up to the closing quote. The argument begins after the opening quote.
abbrev pub unquoted : List ℕ → Option (List ℕ)
unquoted text = read_from stages.First text

-- The number of bytes from the first wrong byte on: the first byte with which no text goes on. 0 if no byte is wrong.
abbrev pub wrong_from : Stage → List ℕ → ℕ
wrong_from s [] = 0
wrong_from s (c ∷ cs) = after_some (follow s c) (length cs + 1) (λ t. wrong_from t cs)

-- The number of bytes from the first wrong byte between quotes on. The argument begins after the opening quote.
abbrev pub wrong_at : List ℕ → ℕ
wrong_at text = wrong_from stages.First text

-- True if no byte is wrong from the given stage on.
abbrev pub goes_on_from : Stage → List ℕ → Bool
goes_on_from s [] = true
goes_on_from s (c ∷ cs) = after_some (follow s c) false (λ t. goes_on_from t cs)

-- True if no byte is wrong, so that some text between quotes goes on after the bytes, or ends with them. The argument
-- begins after the opening quote.
abbrev pub may_go_on : List ℕ → Bool
may_go_on text = goes_on_from stages.First text

an_umlaut : unquoted (104 ∷ 195 ∷ 182 ∷ codes "\\0\"") ≡ Some (104 ∷ 195 ∷ 182 ∷ 0 ∷ [])
an_umlaut = refl

turned : unquoted (codes "\\u{202e}a\\0\"") ≡ Some (226 ∷ 128 ∷ 174 ∷ 97 ∷ 0 ∷ [])
unfolding lib.Utf8.encode
turned = refl

-- Overlong: the second byte is wrong.
overlong : wrong_at (224 ∷ 128 ∷ 128 ∷ codes "\\0\"") ≡ 5
overlong = refl

-- A surrogate: the second byte is wrong.
a_surrogate : wrong_at (237 ∷ 160 ∷ 128 ∷ codes "\\0\"") ≡ 5
a_surrogate = refl

-- U+202E as it stands: the third byte is wrong.
hidden_as_it_is : wrong_at (226 ∷ 128 ∷ 174 ∷ codes "\\0\"") ≡ 4
hidden_as_it_is = refl

-- A text that needs a last zero: the quote is wrong.
no_last_zero : wrong_at (195 ∷ 169 ∷ 34 ∷ []) ≡ 1
no_last_zero = refl

-- `\u{41}`: no hidden code point has a number that begins with 4.
a_letter_by_number : wrong_at (codes "\\u{41}\\0\"") ≡ 6
a_letter_by_number = refl

an_empty_text : wrong_at (34 ∷ []) ≡ 1
an_empty_text = refl
