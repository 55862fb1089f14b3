-- Lemmas for `is_clear_text` and `is_well_formed`: bytes that are a text in JSON, and bytes that are not UTF-8.
use Rattle.std.proofs.Common.{◌≡◌, ℕ, zero, suc, ◌==◌, ◌&&◌, List, [], ◌∷◌, Bool, true, false, length, get_or, ap, refl}
use Rattle.std.proofs.Common.{◌∙◌, arith}
use Rattle.std.specs.Str.{IsUtf8, is_utf8}
use Rattle.std.proofs.lemmas.Bool.{ne_eqb}
use Rattle.std.proofs.lemmas.Str.{IsUtf8-from_is_utf8}
use Rattle.capn_quoted.specs.Texts.{ends_in_zero, before_last, is_clear, is_clear_text}

-- ---- UTF-8

false-by : (bs : List ℕ) (b : Bool) → is_utf8 bs ≡ b → (IsUtf8 bs → ⊥) → b ≡ false
false-by bs true e h = absurd (h (IsUtf8-from_is_utf8 bs e))
false-by bs false e h = refl

pub no-utf8 : (bs : List ℕ) → (IsUtf8 bs → ⊥) → is_utf8 bs ≡ false
no-utf8 bs h = false-by bs (is_utf8 bs) refl h

-- ---- a text

zero-at : (xs : List ℕ) (i : ℕ) → suc i ≡ length xs → ends_in_zero xs ≡ (get_or xs i 0 == 0)
zero-at [] i h = absurd (omega arith)
zero-at (b ∷ []) zero h = refl
zero-at (b ∷ []) (suc i) h = absurd (omega arith)
zero-at (b ∷ c ∷ cs) zero h = absurd (omega arith)
zero-at (b ∷ c ∷ cs) (suc i) h = zero-at (c ∷ cs) i (omega arith)

-- If byte `i` is the last one, `xs` is a text exactly if byte `i` is zero and the bytes before it pass `is_clear`.
text-by : (xs : List ℕ) (i : ℕ) → suc i ≡ length xs
    → is_clear_text xs ≡ ((get_or xs i 0 == 0) && is_clear (before_last xs))
text-by xs i h = ap (λ (b : Bool). b && is_clear (before_last xs)) (zero-at xs i h)

pub no-zero : (xs : List ℕ) (i : ℕ) → suc i ≡ length xs → (get_or xs i 0 ≡ 0 → ⊥) → is_clear_text xs ≡ false
no-zero xs i h e =
    text-by xs i h ∙ ap (λ (b : Bool). b && is_clear (before_last xs)) (ne_eqb (get_or xs i 0) 0 e)

pub zero-then : (xs : List ℕ) (i : ℕ) → suc i ≡ length xs → get_or xs i 0 ≡ 0
    → is_clear_text xs ≡ is_clear (before_last xs)
zero-then xs i h e = text-by xs i h ∙ ap (λ (n : ℕ). (n == 0) && is_clear (before_last xs)) e
