-- Lemmas for `quoted_texts`: what is written of a text is read as that text.
use Rattle.std.proofs.Common.{◌≡◌, ℕ, suc, ◌-◌, ◌≤◌, ◌<◌, ◌==◌, ◌||◌, Bool, true, false, not, cond, List, [], ◌∷◌}
use Rattle.std.proofs.Common.{◌++◌, length, take, Option, Some, None, refl, sym, ap, ◌∙◌, append_assoc, append-nil}
use Rattle.std.proofs.Common.{arith, nat_lt, nat_le}
use Rattle.std.proofs.lemmas.Bool.{ltb-false, ne_eqb, leb-true, eqb-true, eqb-false, and_parts, or_parts}
use Rattle.std.proofs.lemmas.Str.{IsUtf8-from_is_utf8}
use Rattle.std.specs.Str.{all_scalars, encode_utf8_all, is_utf8}
use lib.Utf8.{scalar, encode}
use Rattle.capn_quoted.specs.Texts.{is_printable, has_control, is_ascii_text, is_clear_text, is_text, before_last}
use Rattle.capn_quoted.specs.Texts.{ends_in_zero, is_clear}
use Rattle.capn_quoted.specs.Hidden.{is_hidden, numbered}
use Rattle.capn_quoted.specs.Escapes.{escaped, written, all_written, escapes}
use Rattle.capn_quoted.specs.declared.stage.Stage.TheVariants as stages
use Rattle.capn_quoted.specs.Reading.{between, gives, preceded, after_some, read_from, unquoted}
use Rattle.capn_quoted.proofs.Shapes.{Shape, of1, of2, of3, of4, shape_of}
use Rattle.capn_quoted.proofs.CodePoints.{low_written, points_then, one_control, is_control_point}
use Rattle.capn_quoted.proofs.LowRead.{printable_read, escaped_by}
use Rattle.capn_quoted.proofs.OneRead.{one_read}

abbrev some : List ℕ → Option (List ℕ)
some xs = Some xs

-- A last zero, as it is written, and the closing quote.
abbrev pub end : List ℕ
end = 92 ∷ 48 ∷ 34 ∷ []

all_read : (w : Bool) (cs : List ℕ) → all_scalars cs ≡ true → has_control (encode_utf8_all cs) ≡ false
    → read_from (stages.Next w) (all_written cs ++ end) ≡ Some (encode_utf8_all cs ++ 0 ∷ [])
all_read w [] s e = refl
all_read w (c ∷ cs) s e =
    let h = and_parts (scalar c) (all_scalars cs) s in
    let shape = shape_of c h.0 in
    let parts = or_parts (is_control_point c) (has_control (encode_utf8_all cs))
    (sym (one_control c (encode_utf8_all cs) shape) ∙ e) in
    let r = one_read w c (all_written cs ++ end) shape h.0 parts.0 in
    ap (read_from (stages.Next w)) (append_assoc (written c) (all_written cs) end)
    ∙ r.1
    ∙ ap (preceded (encode c)) (all_read r.0 cs h.1 parts.1)
    ∙ ap some (sym (append_assoc (encode c) (encode_utf8_all cs) (0 ∷ [])))

-- ---- the first byte

-- The bytes begin with a byte other than a quote.
abbrev Starts : List ℕ → Type 0
Starts l = (x : ℕ) × (xs : List ℕ) × (l ≡ x ∷ xs) × (x ≡ 34 → ⊥)

pub first_is : (x : ℕ) (xs : List ℕ) → (x ≡ 34 → ⊥)
    → read_from stages.First (x ∷ xs) ≡ read_from (stages.Next false) (x ∷ xs)
first_is x xs n =
    ap (λ (b : Bool). after_some (cond b None (between false x)) None
    (λ u. preceded (gives (stages.Next false) x) (read_from u xs))) (ne_eqb x 34 n)
    ∙ sym (ap (λ (b : Bool). after_some (cond b (Some stages.Closed) (between false x)) None
    (λ u. preceded (gives (stages.Next false) x) (read_from u xs))) (ne_eqb x 34 n))

from_first : (l t : List ℕ) → Starts l → read_from stages.First (l ++ t) ≡ read_from (stages.Next false) (l ++ t)
from_first l t (x, xs, e, n) =
    ap (λ (k : List ℕ). read_from stages.First (k ++ t)) e
    ∙ first_is x (xs ++ t) n
    ∙ ap (λ (k : List ℕ). read_from (stages.Next false) (k ++ t)) (sym e)

longer : (l t : List ℕ) → Starts l → Starts (l ++ t)
longer l t (x, xs, e, n) = (x, xs ++ t, ap (λ (k : List ℕ). k ++ t) e, n)

no_quote : ◌≡◌ {A = ℕ} 92 34 → ⊥
no_quote e = omega arith

escaped_starts : (c : ℕ) → Starts (escaped c)
escaped_starts c = by (c == 34) (c == 92) (c == 9) (c == 10) (c == 13) (c == 0) refl where
  by : (u v x y z o : Bool) → (c == 34) ≡ u → Starts (escaped_by u v x y z o c)
  by true v x y z o e = (92, 34 ∷ [], refl, no_quote)
  by false true x y z o e = (92, 92 ∷ [], refl, no_quote)
  by false false true y z o e = (92, 116 ∷ [], refl, no_quote)
  by false false false true z o e = (92, 110 ∷ [], refl, no_quote)
  by false false false false true o e = (92, 114 ∷ [], refl, no_quote)
  by false false false false false true e = (92, 48 ∷ [], refl, no_quote)
  by false false false false false false e = (c, [], refl, eqb-false c 34 e)

encode_starts : (c : ℕ) → Shape c → 128 ≤ c → Starts (encode c)
encode_starts c (of1 h e) l = absurd (omega arith)
encode_starts c (of2 a b big l h f g e) k = (a, b ∷ [], e, λ q. omega arith)
encode_starts c (of3 a b d big l h f f2 g e) k = (a, b ∷ d ∷ [], e, λ q. omega arith)
encode_starts c (of4 a b d x big l h f f2 f3 g e) k = (a, b ∷ d ∷ x ∷ [], e, λ q. omega arith)

written_starts : (c : ℕ) → Shape c → Starts (written c)
written_starts c shape = by (nat_lt c 128) (is_hidden c) refl where
  by : (x y : Bool) → nat_lt c 128 ≡ x → Starts (cond x (escaped c) (cond y (numbered c) (encode c)))
  by true y e = escaped_starts c
  by false true e = (92, _, refl, no_quote)
  by false false e = encode_starts c shape (ltb-false c 128 e)

-- ---- ASCII

printable_low : (x : ℕ) → is_printable x ≡ true → x < 127
printable_low x p =
    let h = leb-true x 126 (and_parts (nat_le 32 x) (nat_le x 126) p).1 in
    omega arith

more_read : (x : ℕ) (xs : List ℕ) → is_printable x ≡ true
    → read_from (stages.Next false) (escapes xs ++ 34 ∷ []) ≡ Some xs
    → read_from (stages.Next false) (escapes (x ∷ xs) ++ 34 ∷ []) ≡ Some (x ∷ xs)
more_read x xs p e =
    let low = printable_low x p in
    ap (λ (l : List ℕ). read_from (stages.Next false) (l ++ 34 ∷ [])) (low_written x xs (omega arith))
    ∙ ap (read_from (stages.Next false)) (append_assoc (escaped x) (escapes xs) (34 ∷ []))
    ∙ printable_read false x (escapes xs ++ 34 ∷ []) p
    ∙ ap (preceded (x ∷ [])) e

zero_read : (x : ℕ) → x ≡ 0 → read_from (stages.Next false) (escapes (x ∷ []) ++ 34 ∷ []) ≡ Some (x ∷ [])
zero_read x e =
    ap (λ (k : ℕ). read_from (stages.Next false) (escapes (k ∷ []) ++ 34 ∷ [])) e
    ∙ ap (λ (k : ℕ). some (k ∷ [])) (sym e)

ascii_read : (xs : List ℕ) → is_ascii_text xs ≡ true → read_from (stages.Next false) (escapes xs ++ 34 ∷ []) ≡ Some xs
ascii_read [] e = absurd cc
ascii_read (x ∷ []) e = by (is_printable x) refl e where
  by : (b : Bool) → is_printable x ≡ b → (b || x == 0) ≡ true
      → read_from (stages.Next false) (escapes (x ∷ []) ++ 34 ∷ []) ≡ Some (x ∷ [])
  by true p h = more_read x [] p refl
  by false p h = zero_read x (eqb-true x 0 h)
ascii_read (x ∷ y ∷ ys) e =
    let parts = and_parts (is_printable x) (is_ascii_text (y ∷ ys)) e in
    more_read x (y ∷ ys) parts.0 (ascii_read (y ∷ ys) parts.1)

ascii_starts : (xs : List ℕ) → is_ascii_text xs ≡ true → Starts (escapes xs)
ascii_starts [] e = absurd cc
ascii_starts (x ∷ xs) e =
    let h = longer (escaped x) (escapes xs) (escaped_starts x) in
    (h.0, h.1, low_written x xs (small xs e) ∙ h.2, h.3) where
      small : (xs : List ℕ) → is_ascii_text (x ∷ xs) ≡ true → x < 192
      small [] e = by (is_printable x) refl e where
        by : (b : Bool) → is_printable x ≡ b → (b || x == 0) ≡ true → x < 192
        by true p h = let low = printable_low x p in omega arith
        by false p h = let zero_is = eqb-true x 0 h in omega arith
      small (y ∷ ys) e =
          let low = printable_low x (and_parts (is_printable x) (is_ascii_text (y ∷ ys)) e).0 in
          omega arith

-- ---- a last zero

pub zero_last : (xs : List ℕ) → ends_in_zero xs ≡ true → xs ≡ before_last xs ++ 0 ∷ []
zero_last [] h = absurd cc
zero_last (b ∷ []) h = ap (λ (n : ℕ). n ∷ []) (eqb-true b 0 h)
zero_last (b ∷ c ∷ cs) h =
    let n = length (c ∷ cs) - 1 in
    let step : length (b ∷ c ∷ cs) - 1 ≡ suc n = omega arith in
    ap (λ (l : List ℕ). b ∷ l) (zero_last (c ∷ cs) h)
    ∙ ap (λ (k : ℕ). take k (b ∷ c ∷ cs) ++ 0 ∷ []) (sym step)

-- What is written of code points and a last zero.
pub with_zero : (cs : List ℕ) → all_scalars cs ≡ true
    → escapes (encode_utf8_all cs ++ 0 ∷ []) ++ 34 ∷ [] ≡ all_written cs ++ end
with_zero cs s =
    ap (λ (l : List ℕ). l ++ 34 ∷ []) (points_then cs (0 ∷ []) s)
    ∙ append_assoc (all_written cs) (92 ∷ 48 ∷ []) (34 ∷ [])

points_starts : (cs : List ℕ) → all_scalars cs ≡ true → Starts (all_written cs ++ end)
points_starts [] s = (92, 48 ∷ 34 ∷ [], refl, no_quote)
points_starts (c ∷ cs) s =
    longer (all_written (c ∷ cs)) end (longer (written c) (all_written cs)
    (written_starts c (shape_of c (and_parts (scalar c) (all_scalars cs) s).0)))

first_of : (t : List ℕ) → Starts t → unquoted t ≡ read_from (stages.Next false) t
first_of t h =
    sym (ap unquoted (append-nil t)) ∙ from_first t [] h ∙ ap (read_from (stages.Next false)) (append-nil t)

points_read : (cs : List ℕ) → all_scalars cs ≡ true → has_control (encode_utf8_all cs) ≡ false
    → unquoted (escapes (encode_utf8_all cs ++ 0 ∷ []) ++ 34 ∷ []) ≡ Some (encode_utf8_all cs ++ 0 ∷ [])
points_read cs s e =
    ap unquoted (with_zero cs s) ∙ first_of (all_written cs ++ end) (points_starts cs s) ∙ all_read false cs s e

no_control : (b : Bool) → not b ≡ true → b ≡ false
no_control true e = absurd cc
no_control false e = refl

clear_read : (xs : List ℕ) → is_clear_text xs ≡ true → unquoted (escapes xs ++ 34 ∷ []) ≡ Some xs
clear_read xs e =
    let parts = and_parts (ends_in_zero xs) (is_clear (before_last xs)) e in
    let clear = and_parts (is_utf8 (before_last xs)) (not (has_control (before_last xs))) parts.1 in
    let utf8 = IsUtf8-from_is_utf8 (before_last xs) clear.0 in
    let quiet = ap has_control utf8.1.1 ∙ no_control (has_control (before_last xs)) clear.1 in
    let is : xs ≡ encode_utf8_all utf8.0 ++ 0 ∷ [] =
    zero_last xs parts.0 ∙ ap (λ (l : List ℕ). l ++ 0 ∷ []) (sym utf8.1.1) in
    ap (λ (l : List ℕ). unquoted (escapes l ++ 34 ∷ [])) is
    ∙ points_read utf8.0 utf8.1.0 quiet
    ∙ ap some (sym is)

pub text_again : (xs : List ℕ) → is_text xs ≡ true → unquoted (escapes xs ++ 34 ∷ []) ≡ Some xs
text_again xs e = by (is_ascii_text xs) refl e where
  by : (b : Bool) → is_ascii_text xs ≡ b → (b || is_clear_text xs) ≡ true → unquoted (escapes xs ++ 34 ∷ []) ≡ Some xs
  by true p h =
      first_of (escapes xs ++ 34 ∷ []) (longer (escapes xs) (34 ∷ []) (ascii_starts xs p)) ∙ ascii_read xs p
  by false p h = clear_read xs h
