-- The bytes of a list between quotes, as `show --text` writes ASCII. (Our own.)
use Rattle.std.specs.Prelude.{◌≡◌, ℕ, nat_lt, Bool, true, false, not, ◌&&◌, ◌||◌, List, [], ◌∷◌, ◌++◌}
use Rattle.std.specs.Prelude.{length, take, codes, refl, if◌then◌else◌}
use Rattle.capn_quoted.specs.Escapes.{escapes}
use Rattle.capn_quoted.specs.Texts.{ends_in_zero, is_ascii_text}

-- Bytes that may stand between quotes: an ASCII text, whose last byte may be zero only if `ends` is true, which means
-- that this is the last byte of the list.
abbrev pub is_quoted : (ends : Bool) → List ℕ → Bool
is_quoted ends xs = is_ascii_text xs && (ends || not (ends_in_zero xs))

-- The bytes `xs` between quotes, and two dots if `more` bytes follow. Nothing if they may not stand there.
abbrev pub quotation : (ends more : Bool) → List ℕ → List ℕ
quotation ends more xs =
    if is_quoted ends xs then codes " \"" ++ (escapes xs ++ (if more then codes "\".." else codes "\"")) else []

-- The greatest number of bytes that are quoted.
abbrev pub most_quoted : ℕ
most_quoted = 32

-- The quotation of bytes of a list, which end with the list's last byte if `last` is true.
abbrev pub quotation_of : (last : Bool) → List ℕ → List ℕ
quotation_of last xs =
    quotation (last && not (nat_lt most_quoted (length xs))) (nat_lt most_quoted (length xs)) (take most_quoted xs)

a_quotation : quotation_of true (65 ∷ 34 ∷ 0 ∷ []) ≡ codes " \"A\\\"\\0\""
a_quotation = refl

-- A zero that is not the last byte of its list is not quoted.
no_quotation : quotation_of false (65 ∷ 34 ∷ 0 ∷ []) ≡ []
no_quotation = refl
