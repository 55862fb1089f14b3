-- The bytes of a text, as lines write them between quotes. (Our own.)
use Rattle.std.specs.Prelude.{◌≡◌, ℕ, zero, suc, ◌+◌, ◌-◌, ◌*◌, ◌%◌, List, [], ◌∷◌, ◌++◌, codes, cond, Bool}
use Rattle.std.specs.Prelude.{◌==◌, nat_lt, refl}
use Rattle.std.specs.Char.{encode_utf8}
use Rattle.capn_quoted.specs.Hidden.{is_hidden, numbered}

-- The byte `b`, as it is written between quotes, if it is not the first byte of a hidden code point.
abbrev pub escaped : ℕ → List ℕ
escaped b = cond (b == 34) (codes "\\\"") (cond (b == 92) (codes "\\\\") (cond (b == 9) (codes "\\t")
    (cond (b == 10) (codes "\\n") (cond (b == 13) (codes "\\r") (cond (b == 0) (codes "\\0") (b ∷ []))))))

-- The code point `c` of a text, as it is written between quotes.
abbrev pub written : ℕ → List ℕ
written c = cond (nat_lt c 128) (escaped c) (cond (is_hidden c) (numbered c) (encode_utf8 c))

-- The code points of a text, as they are written between quotes.
abbrev pub all_written : List ℕ → List ℕ
all_written [] = []
all_written (c ∷ cs) = written c ++ all_written cs

-- ---- over bytes

-- The code point whose UTF-8 begins with the byte `b` and goes on with the second argument. Zero if bytes are missing.
abbrev pub of_two : ℕ → List ℕ → ℕ
of_two b [] = 0
of_two b (c ∷ cs) = (b - 192) * 64 + c % 64

abbrev pub of_three : ℕ → List ℕ → ℕ
of_three b [] = 0
of_three b (c ∷ []) = 0
of_three b (c ∷ d ∷ ds) = (b - 224) * 4096 + c % 64 * 64 + d % 64

abbrev pub of_four : ℕ → List ℕ → ℕ
of_four b [] = 0
of_four b (c ∷ []) = 0
of_four b (c ∷ d ∷ []) = 0
of_four b (c ∷ d ∷ e ∷ es) = (b - 240) * 262144 + c % 64 * 4096 + d % 64 * 64 + e % 64

-- The code point of two to four bytes that begins with the byte `b` and goes on with `bs`. Zero if `b` begins no such
-- code point, or if bytes are missing.
abbrev pub code_at : ℕ → List ℕ → ℕ
code_at b bs =
    cond (nat_lt b 192) 0 (cond (nat_lt b 224) (of_two b bs) (cond (nat_lt b 240) (of_three b bs) (of_four b bs)))

-- The number of bytes of a code point after its first byte `b`, which is at least 192.
abbrev pub more_of : ℕ → ℕ
more_of b = cond (nat_lt b 224) 1 (cond (nat_lt b 240) 2 3)

-- True if the byte `b`, followed by `bs`, begins a hidden code point.
abbrev pub hides : ℕ → List ℕ → Bool
hides b bs = is_hidden (code_at b bs)

-- What is written for the bytes after the first `k` bytes of the list.
abbrev pub escapes_after : ℕ → List ℕ → List ℕ
escapes_after k [] = []
escapes_after zero (b ∷ bs) = cond (hides b bs) (numbered (code_at b bs) ++ escapes_after (more_of b) bs)
    (escaped b ++ escapes_after zero bs)
escapes_after (suc k) (b ∷ bs) = escapes_after k bs

-- The bytes of a text, as they are written between quotes.
abbrev pub escapes : List ℕ → List ℕ
escapes xs = escapes_after 0 xs

-- What is written for the byte `b`, which is followed by `bs`, or for the hidden code point that `b` begins.
abbrev pub first_written : ℕ → List ℕ → List ℕ
first_written b bs = cond (hides b bs) (numbered (code_at b bs)) (escaped b)

-- The number of bytes of `bs` for which `first_written` is written, besides the byte `b`.
abbrev pub covered : ℕ → List ℕ → ℕ
covered b bs = cond (hides b bs) (more_of b) 0

an_umlaut : escapes (104 ∷ 195 ∷ 182 ∷ 0 ∷ []) ≡ 104 ∷ 195 ∷ 182 ∷ codes "\\0"
an_umlaut = refl

with_a_newline : escapes (97 ∷ 10 ∷ 98 ∷ 0 ∷ []) ≡ codes "a\\nb\\0"
with_a_newline = refl

turned : escapes (226 ∷ 128 ∷ 174 ∷ 97 ∷ 0 ∷ []) ≡ codes "\\u{202e}a\\0"
turned = refl

a_tag : escapes (243 ∷ 160 ∷ 129 ∷ 191 ∷ 0 ∷ []) ≡ codes "\\u{e007f}\\0"
a_tag = refl

a_face : escapes (240 ∷ 159 ∷ 152 ∷ 128 ∷ 0 ∷ []) ≡ 240 ∷ 159 ∷ 152 ∷ 128 ∷ codes "\\0"
a_face = refl

with_escapes : escapes (34 ∷ 92 ∷ 104 ∷ 0 ∷ []) ≡ codes "\\\"\\\\h\\0"
with_escapes = refl
