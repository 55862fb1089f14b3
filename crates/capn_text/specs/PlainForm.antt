-- The plain form of a text, and the line of the text to which each line of the plain form belongs. Both are found from
-- left to right. (Our own.)
use Rattle.std.specs.Prelude.{◌≡◌, ℕ, ◌+◌, ◌-◌, List, [], ◌∷◌, ◌++◌, codes, cond, ◌==◌, nat_le, Bool, true, false}
use Rattle.std.specs.Prelude.{Option, Some, None, refl}
use Rattle.capn_show.specs.Quoting.{plain_bytes}
use Rattle.capn_text.specs.inner.QuotedLines.{quoted_at}

-- For `Some q`, the lines of the bytes `q.1` at level `q.0`. For `None`, the line `text` and its newline.
abbrev pub plain_or : Option (ℕ × List ℕ) → List ℕ → List ℕ
plain_or (Some q) text = plain_bytes q.0 q.1
plain_or None text = text ++ 10 ∷ []

-- The plain form of the line `text`, which is given without its newline.
abbrev pub plain_line : List ℕ → List ℕ
plain_line text = plain_or (quoted_at text) text

-- The plain form of a text that begins with `front` and goes on with the second argument. `front` is the beginning of a
-- line.
abbrev pub plain_after : List ℕ → List ℕ → List ℕ
plain_after front [] = front
plain_after front (c ∷ cs) =
    cond (c == 10) (plain_line front ++ plain_after [] cs) (plain_after (front ++ c ∷ []) cs)

-- The plain form of `text`.
abbrev pub plain : List ℕ → List ℕ
plain text = plain_after [] text

-- The bytes up to the first newline, unchanged, and then the plain form of the bytes `cs` after that newline.
abbrev pub plain_through : List ℕ → List ℕ
plain_through [] = []
plain_through (c ∷ cs) = c ∷ cond (c == 10) (plain cs) (plain_through cs)

-- True for `Some q`, and false for `None`.
abbrev pub is_there : Option (ℕ × List ℕ) → Bool
is_there (Some q) = true
is_there None = false

-- True if the line `text`, which is given without its newline, has bytes between quotes.
abbrev pub is_quoted : List ℕ → Bool
is_quoted text = is_there (quoted_at text)

-- The number of lines of the plain form of the line `text`: 2 if `text` has bytes between quotes, and 1 otherwise.
abbrev pub lines_of : List ℕ → ℕ
lines_of text = cond (is_quoted text) 2 1

-- The plain form of the line `text` begins at line `n`. If `text` has bytes between quotes, the result has one element:
-- `n + 1`, the number of the line of digits. Otherwise the result is empty.
abbrev pub digits_of : ℕ → List ℕ → List ℕ
digits_of n text = cond (is_quoted text) ((n + 1) ∷ []) []

-- The numbers of the lines of digits that the plain form adds to a text. The text begins with `front`, the beginning of
-- a line, and goes on with the third argument. The plain form of that line begins at line `n`.
abbrev pub digits_after : ℕ → List ℕ → List ℕ → List ℕ
digits_after n front [] = []
digits_after n front (c ∷ cs) =
    cond (c == 10) (digits_of n front ++ digits_after (n + lines_of front) [] cs) (digits_after n (front ++ c ∷ []) cs)

-- The numbers of the lines of digits that the plain form adds after the first newline. The bytes up to that newline end
-- line `n`.
abbrev pub digits_through : ℕ → List ℕ → List ℕ
digits_through n [] = []
digits_through n (c ∷ cs) = cond (c == 10) (digits_after (n + 1) [] cs) (digits_through n cs)

-- The number of elements `q` of the list that are at most `n`.
abbrev pub count_to : ℕ → List ℕ → ℕ
count_to n [] = 0
count_to n (q ∷ qs) = cond (nat_le q n) 1 0 + count_to n qs

-- The number of the line of `text` to which line `n` of the plain form of `text` belongs. Lines are counted from 1.
abbrev pub own_line : List ℕ → ℕ → ℕ
own_line text n = n - count_to n (digits_after 1 [] text)
