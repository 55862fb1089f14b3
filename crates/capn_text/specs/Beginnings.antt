-- Prefixes of a line with bytes between quotes. (Our own.)
use Rattle.std.specs.Prelude.{◌≡◌, ℕ, List, [], ◌∷◌, ◌++◌, codes, cond, ◌==◌, ◌||◌, ◌&&◌, Bool, true, false, Option}
use Rattle.std.specs.Prelude.{Some, None, refl}
use Rattle.capn_quoted.specs.Reading.{may_go_on}
use Rattle.capn_text.specs.inner.Tokens.{strip, is_digit}
use Rattle.capn_text.specs.inner.QuotedLines.{levels_at}

-- True for `Some rest`, and false for `None`.
abbrev pub is_some : Option (List ℕ) → Bool
is_some (Some rest) = true
is_some None = false

-- True if `front` is a prefix of `whole`.
abbrev pub begins : List ℕ → List ℕ → Bool
begins whole front = is_some (strip front whole)

-- True for `Some rest` if no byte of `rest` is wrong between quotes, and false for `None`.
abbrev pub may_go_on_in : Option (List ℕ) → Bool
may_go_on_in (Some rest) = may_go_on rest
may_go_on_in None = false

-- True if the bytes may follow the digits of a count: they are a prefix of a space and a quote, or go on between
-- quotes.
abbrev pub may_open : List ℕ → Bool
may_open text = begins (codes " \"") text || may_go_on_in (strip (codes " \"") text)

-- True if the bytes may follow the first digit of a count.
abbrev pub may_count : List ℕ → Bool
may_count [] = true
may_count (c ∷ cs) = cond (is_digit c) (may_count cs) (may_open (c ∷ cs))

-- True if the list of bytes is empty, or if its first byte `c` is a quote or a digit, and the bytes after `c` may
-- follow.
abbrev pub may_follow : List ℕ → Bool
may_follow [] = true
may_follow (c ∷ cs) = cond (c == 34) (may_go_on cs) (is_digit c && may_count cs)

-- True for `Some rest` if `may_follow` is true of `rest`, and false for `None`.
abbrev pub may_follow_in : Option (List ℕ) → Bool
may_follow_in (Some rest) = may_follow rest
may_follow_in None = false

-- True if a line with bytes between quotes may begin with `front`. Such a line has an indent, the word `bytes` with a
-- space, and then bytes between quotes, or their count and bytes between quotes. No byte of `front` is wrong there.
abbrev pub may_begin : List ℕ → Bool
may_begin front = begins (codes " ") (levels_at front).1
    || (begins (codes "bytes ") (levels_at front).1 || may_follow_in (strip (codes "bytes ") (levels_at front).1))

-- The greatest number of bytes at the front of an unfinished line that `may_begin` tests.
abbrev pub looked_at : ℕ
looked_at = 1024

in_its_name : may_begin (codes "    byt") ≡ true
in_its_name = refl

another_name : may_begin (codes "  u16") ≡ false
another_name = refl

no_count : may_begin (codes "bytes x") ≡ false
no_count = refl

-- `bytes "é"`: a last zero has to come before the quote.
no_last_zero : may_begin (codes "bytes \"" ++ (195 ∷ 169 ∷ 34 ∷ [])) ≡ false
no_last_zero = refl

counted : may_begin (codes "bytes 12 \"ab") ≡ true
counted = refl
