-- The text of a tree in lines, where lists of bytes are written as digits, or between quotes if they are texts. (Our
-- own.)
use Rattle.std.specs.Prelude.{◌≡◌, ℕ, ◌+◌, List, [], ◌∷◌, ◌++◌, length, codes, if◌then◌else◌, refl}
use Rattle.std.specs.Str.{chars, is_utf8}
use Rattle.hex.specs.Hex.{encode_lower}
use Rattle.capn_quoted.specs.Texts.{is_text}
use Rattle.capn_quoted.specs.Escapes.{escapes}
use Rattle.capn_value.specs.NumberWidth.{byte}
use Rattle.capn_value.specs.Tree.{Tree, nil, node, voids, numbers, links, rows, cap, Trees, no_trees, tree, Bodies}
use Rattle.capn_value.specs.Tree.{no_bodies, body, count, count_rows}
use Rattle.capn_value.specs.Text.{line, named, one_line, body_line, word_lines, numbers_name, numbers_lines}

-- The lines of the list of bytes `xs` in digits, at `level`: a line with the length of `xs`, and the line of its
-- digits. An empty list has no line of digits.
abbrev pub plain_bytes : ℕ → List ℕ → List ℕ
plain_bytes level xs =
    line level (named (codes "bytes") (length xs)) ++ one_line (level + 1) (length xs) (encode_lower xs)

-- The line of the list of bytes `xs`, at `level`, with the length of `xs` and its bytes between quotes.
abbrev pub quoted_line : ℕ → List ℕ → List ℕ
quoted_line level xs = line level (named (codes "bytes") (length xs) ++ 32 ∷ 34 ∷ (escapes xs ++ 34 ∷ []))

-- The lines of the list of bytes `xs`, between quotes if `xs` is a text, and in digits otherwise.
abbrev pub quoted_bytes : ℕ → List ℕ → List ℕ
quoted_bytes level xs = if is_text xs then quoted_line level xs else plain_bytes level xs

-- The lines of a tree. `bytes_at` gives the lines of a list of bytes at a level.
module _ (bytes_at : ℕ → List ℕ → List ℕ) where
  abbrev mutual
    pub shown_by : ℕ → Tree → List ℕ
    shown_by level nil = line level (codes "null")
    shown_by level (node ws ss) =
        body_line level (length ws) (count ss) ++ (word_lines (level + 1) ws ++ shown_each_by (level + 1) ss)
    shown_by level (voids n) = line level (named (codes "void") n)
    shown_by level (numbers byte xs) = bytes_at level xs
    shown_by level (numbers a xs) =
        line level (named (numbers_name a) (length xs)) ++ numbers_lines a (level + 1) xs
    shown_by level (links ts) = line level (named (codes "pointers") (count ts)) ++ shown_each_by (level + 1) ts
    shown_by level (rows bs) = line level (named (codes "rows") (count_rows bs)) ++ shown_rows_by (level + 1) bs
    shown_by level (cap k) = line level (named (codes "capability") k)

    -- The lines of each tree of the list, one tree after the other.
    pub shown_each_by : ℕ → Trees → List ℕ
    shown_each_by level no_trees = []
    shown_each_by level (tree t ts) = shown_by level t ++ shown_each_by level ts

    -- The lines of each row of the list, one row after the other.
    pub shown_rows_by : ℕ → Bodies → List ℕ
    shown_rows_by level no_bodies = []
    shown_rows_by level (body ws ss bs) =
        body_line level (length ws) (count ss)
        ++ (word_lines (level + 1) ws ++ (shown_each_by (level + 1) ss ++ shown_rows_by level bs))

an_umlaut : quoted_bytes 0 (104 ∷ 195 ∷ 182 ∷ 0 ∷ [])
    ≡ line 0 (named (codes "bytes") 4 ++ 32 ∷ 34 ∷ 104 ∷ 195 ∷ 182 ∷ codes "\\0\"")
unfolding is_utf8 chars lib.Utf8.encode
an_umlaut = refl

no_zero_at_its_end : quoted_bytes 0 (104 ∷ 195 ∷ 182 ∷ []) ≡ plain_bytes 0 (104 ∷ 195 ∷ 182 ∷ [])
unfolding is_utf8 chars lib.Utf8.encode
no_zero_at_its_end = refl

with_a_newline : quoted_bytes 0 (97 ∷ 10 ∷ 98 ∷ 0 ∷ []) ≡ line 0 (named (codes "bytes") 4 ++ codes " \"a\\nb\\0\"")
unfolding is_utf8 chars lib.Utf8.encode
with_a_newline = refl

ascii : quoted_bytes 0 (97 ∷ 98 ∷ []) ≡ line 0 (named (codes "bytes") 2 ++ codes " \"ab\"")
ascii = refl

turned : quoted_bytes 0 (226 ∷ 128 ∷ 174 ∷ 97 ∷ 0 ∷ [])
    ≡ line 0 (named (codes "bytes") 5 ++ codes " \"\\u{202e}a\\0\"")
unfolding is_utf8 chars lib.Utf8.encode
turned = refl

a_long_control : quoted_bytes 0 (194 ∷ 133 ∷ 0 ∷ []) ≡ plain_bytes 0 (194 ∷ 133 ∷ 0 ∷ [])
unfolding is_utf8 chars lib.Utf8.encode
a_long_control = refl

one_zero : quoted_bytes 0 (0 ∷ []) ≡ line 0 (named (codes "bytes") 1 ++ codes " \"\\0\"")
one_zero = refl

a_face : quoted_bytes 0 (240 ∷ 159 ∷ 152 ∷ 128 ∷ 0 ∷ [])
    ≡ line 0 (named (codes "bytes") 5 ++ 32 ∷ 34 ∷ 240 ∷ 159 ∷ 152 ∷ 128 ∷ codes "\\0\"")
unfolding is_utf8 chars lib.Utf8.encode
a_face = refl

overlong : quoted_bytes 0 (192 ∷ 128 ∷ 0 ∷ []) ≡ plain_bytes 0 (192 ∷ 128 ∷ 0 ∷ [])
unfolding is_utf8 chars lib.Utf8.encode
overlong = refl
