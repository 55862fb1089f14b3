-- Texts in which a list of bytes may stand between quotes on one line, and their plain form. (Our own.)
use Rattle.std.specs.Prelude.{◌≡◌, ◌⊎◌, ◌≤◌, ℕ, suc, ◌+◌, List, [], ◌∷◌, ◌++◌, codes, true, refl}
use Rattle.capn_value.specs.Text.{line, named}
use Rattle.capn_quoted.specs.Texts.{is_text}
use Rattle.capn_quoted.specs.Escapes.{escapes}
use Rattle.capn_show.specs.Quoting.{quoted_line, plain_bytes}
use Rattle.capn_text.specs.Streams.{ended_lines}

-- The line at `level` that has the bytes `xs` between quotes, but not the number of these bytes.
abbrev pub uncounted_line : ℕ → List ℕ → List ℕ
uncounted_line level xs = line level (codes "bytes " ++ 34 ∷ (escapes xs ++ 34 ∷ []))

-- The line `text`, with its newline, has the bytes `xs` between quotes at `level`. The number of bytes may stand before
-- the first quote.
abbrev pub IsQuoted : List ℕ → ℕ → List ℕ → Type 0
IsQuoted text level xs = (is_text xs ≡ true) × ((text ≡ quoted_line level xs) ⊎ (text ≡ uncounted_line level xs))

-- `plain` is the plain form of the line `text`. If `text` has bytes between quotes, `plain` has the lines that show
-- these bytes without quotes. Otherwise `plain` is `text`.
abbrev pub IsPlainLine : List ℕ → List ℕ → Type 0
IsPlainLine text plain = ((level : ℕ) × (xs : List ℕ) × IsQuoted text level xs × (plain ≡ plain_bytes level xs))
    ⊎ ((plain ≡ text) × ((level : ℕ) (xs : List ℕ) → IsQuoted text level xs → ⊥))

-- `plain` is the plain form of `text`: the plain form of each complete line, and then the bytes after the last newline.
-- The first argument is the list of the complete lines of `text`, without their newlines.
abbrev pub IsPlainBy : List (List ℕ) → List ℕ → List ℕ → Type 0
IsPlainBy [] text plain = (ended_lines text ≡ 0) × (plain ≡ text)
IsPlainBy (front ∷ fronts) text plain = (ended_lines front ≡ 0) × (first : List ℕ) × (after : List ℕ)
    × (rest : List ℕ) × (text ≡ front ++ 10 ∷ after) × IsPlainLine (front ++ 10 ∷ []) first
    × IsPlainBy fronts after rest × (plain ≡ first ++ rest)

-- `plain` is the plain form of `text`, in which a list of bytes may stand between quotes.
abbrev pub IsPlain : List ℕ → List ℕ → Type 0
IsPlain text plain = (fronts : List (List ℕ)) × IsPlainBy fronts text plain

-- Line `n` of the plain form of a text belongs to line `m` of the text, both counted from 1. The first argument is the
-- list of the complete lines of the text, without their newlines. If the list is empty, `m` is `n`.
abbrev pub IsOwnBy : List (List ℕ) → ℕ → ℕ → Type 0
IsOwnBy [] n m = m ≡ n
IsOwnBy (front ∷ fronts) n m = (first : List ℕ) × IsPlainLine (front ++ 10 ∷ []) first
    × (((n ≤ ended_lines first) × (m ≡ 1))
    ⊎ ((k : ℕ) × (j : ℕ) × (n ≡ ended_lines first + suc k) × (m ≡ suc j) × IsOwnBy fronts (suc k) j))

-- Line `n` of the plain form of `text` belongs to line `m` of `text`.
abbrev pub IsOwnLine : List ℕ → ℕ → ℕ → Type 0
IsOwnLine text n m = (fronts : List (List ℕ)) × (plain : List ℕ) × IsPlainBy fronts text plain × IsOwnBy fronts n m

with_count : quoted_line 1 (97 ∷ 34 ∷ 0 ∷ []) ≡ line 1 (named (codes "bytes") 3 ++ codes " \"a\\\"\\0\"")
with_count = refl

without_count : uncounted_line 1 (97 ∷ 34 ∷ 0 ∷ []) ≡ codes "  bytes \"a\\\"\\0\"\n"
unfolding line
without_count = refl
