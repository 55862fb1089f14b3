-- The lists of bytes that are texts. (RFC 3629 for UTF-8; which texts there are is our own.)
use Rattle.std.specs.Prelude.{◌≡◌, ℕ, ◌-◌, List, [], ◌∷◌, length, take, Bool, true, false, not}
use Rattle.std.specs.Prelude.{◌&&◌, ◌||◌, ◌==◌, nat_le, refl}
use Rattle.std.specs.Str.{chars, is_utf8}

-- True if `b` is from 0x20 to 0x7e.
abbrev pub is_printable : ℕ → Bool
is_printable b = nat_le 32 b && nat_le b 126

-- True if the bytes are ASCII: there is at least one, and each is printable, except that the last may be zero.
abbrev pub is_ascii_text : List ℕ → Bool
is_ascii_text [] = false
is_ascii_text (b ∷ []) = is_printable b || b == 0
is_ascii_text (b ∷ c ∷ bs) = is_printable b && is_ascii_text (c ∷ bs)

-- True if `b` is a control character (U+0000 to U+001F, or U+007F) other than tab, newline and carriage return.
abbrev pub is_control : ℕ → Bool
is_control b = (nat_le b 31 && not (b == 9 || (b == 10 || b == 13))) || b == 127

-- True if `b` and `c`, two consecutive bytes of a UTF-8 text, encode a control character from U+0080 to U+009F.
abbrev pub is_long_control : ℕ → ℕ → Bool
is_long_control b c = b == 194 && nat_le c 159

-- True if the bytes, read as UTF-8, contain a control character other than tab, newline and carriage return.
abbrev pub has_control : List ℕ → Bool
has_control [] = false
has_control (b ∷ []) = is_control b
has_control (b ∷ c ∷ bs) = (is_control b || is_long_control b c) || has_control (c ∷ bs)

-- True if the list is not empty and its last byte is zero.
abbrev pub ends_in_zero : List ℕ → Bool
ends_in_zero [] = false
ends_in_zero (b ∷ []) = b == 0
ends_in_zero (b ∷ c ∷ bs) = ends_in_zero (c ∷ bs)

-- The bytes `xs` without the last one.
abbrev pub before_last : List ℕ → List ℕ
before_last xs = take (length xs - 1) xs

-- True if the bytes are well-formed UTF-8 without control characters other than tab, newline and carriage return.
abbrev pub is_clear : List ℕ → Bool
is_clear xs = is_utf8 xs && not (has_control xs)

-- True if the last byte is zero, and the bytes before it are well-formed UTF-8 without control characters other than
-- tab, newline and carriage return. JSON writes such a list as a string.
abbrev pub is_clear_text : List ℕ → Bool
is_clear_text xs = ends_in_zero xs && is_clear (before_last xs)

-- True if the bytes are a text: a list that lines write between quotes.
abbrev pub is_text : List ℕ → Bool
is_text xs = is_ascii_text xs || is_clear_text xs

ascii_without_a_zero : is_ascii_text (104 ∷ 105 ∷ []) ≡ true
ascii_without_a_zero = refl

a_zero_inside : is_ascii_text (104 ∷ 0 ∷ 105 ∷ []) ≡ false
a_zero_inside = refl

two_lines : has_control (104 ∷ 105 ∷ 10 ∷ []) ≡ false
two_lines = refl

a_bell : has_control (104 ∷ 7 ∷ []) ≡ true
a_bell = refl

a_next_line : has_control (104 ∷ 194 ∷ 133 ∷ 105 ∷ []) ≡ true
a_next_line = refl

a_no_break_space : has_control (194 ∷ 160 ∷ []) ≡ false
a_no_break_space = refl

an_umlaut : is_text (104 ∷ 195 ∷ 182 ∷ 0 ∷ []) ≡ true
unfolding is_utf8 chars lib.Utf8.encode
an_umlaut = refl

no_zero_at_its_end : is_text (104 ∷ 195 ∷ 182 ∷ []) ≡ false
unfolding is_utf8 chars lib.Utf8.encode
no_zero_at_its_end = refl

with_a_newline : is_text (97 ∷ 10 ∷ 98 ∷ 0 ∷ []) ≡ true
unfolding is_utf8 chars lib.Utf8.encode
with_a_newline = refl

one_zero : is_text (0 ∷ []) ≡ true
one_zero = refl

a_long_control : is_text (194 ∷ 133 ∷ 0 ∷ []) ≡ false
unfolding is_utf8 chars lib.Utf8.encode
a_long_control = refl

overlong : is_text (192 ∷ 128 ∷ 0 ∷ []) ≡ false
unfolding is_utf8 chars lib.Utf8.encode
overlong = refl

a_surrogate : is_text (237 ∷ 160 ∷ 128 ∷ 0 ∷ []) ≡ false
unfolding is_utf8 chars lib.Utf8.encode
a_surrogate = refl

the_last_code_point : is_text (244 ∷ 143 ∷ 191 ∷ 191 ∷ 0 ∷ []) ≡ true
unfolding is_utf8 chars lib.Utf8.encode
the_last_code_point = refl

past_the_last_code_point : is_text (244 ∷ 144 ∷ 128 ∷ 128 ∷ 0 ∷ []) ≡ false
unfolding is_utf8 chars lib.Utf8.encode
past_the_last_code_point = refl

cut_inside_a_code_point : is_text (195 ∷ 0 ∷ []) ≡ false
unfolding is_utf8 chars lib.Utf8.encode
cut_inside_a_code_point = refl
