-- Lemmas for `text_lines.rt`: the indentation, and the digits of bytes and of bits.
use Rattle.std.proofs.Common.{rules, ◌≡◌, ℕ, zero, suc, ◌+◌, ◌*◌, ◌++◌, ◌<◌, ◌/◌, ◌%◌, Bool, true, false, List, [], ◌∷◌}
use Rattle.std.proofs.Common.{◌≤◌, length, take, set, get_or, replicate, IsAscii, ap, ap₂, sym, refl, arith, ◌∙◌}
use Rattle.std.specs.Prelude.{slice_index, Result, Ok, Err, IsOk, OnOk, is_ok, if◌then◌else◌}
use Rattle.std.proofs.lemmas.List.{append_assoc, replicate-append-replicate, take_all, take_more, take_more_set}
use Rattle.capn_value.specs.Text.{digit, digits_of}
use Rattle.hex.specs.Hex.{encode_with, encode_lower, lower_digits}

pub replicate-two : (n x : ℕ) → replicate (n + 2) x ≡ replicate n x ++ x ∷ x ∷ []
replicate-two n x = sym (replicate-append-replicate n 2 x)

-- the indentation of `i` levels and two more spaces are the indentation of `i + 1` levels
pub indented_more : (o out more : List ℕ) (i : ℕ) → out ≡ o ++ replicate (2 * i) 32 → more ≡ out ++ 32 ∷ 32 ∷ []
    → more ≡ o ++ replicate (2 * (i + 1)) 32
indented_more o out more i so_far e =
    let next : 2 * i + 2 ≡ 2 * (i + 1) = omega arith in
    e ∙ ap (λ (l : List ℕ). l ++ 32 ∷ 32 ∷ []) so_far ∙ append_assoc o (replicate (2 * i) 32) (32 ∷ 32 ∷ [])
    ∙ ap (λ (l : List ℕ). o ++ l) (sym (replicate-two (2 * i) 32)) ∙ ap (λ n. o ++ replicate n 32) next

pub indented : (o out : List ℕ) (i level : ℕ) → i ≡ level → out ≡ o ++ replicate (2 * i) 32
    → out ≡ o ++ replicate (2 * level) 32
indented o out i level e so_far = so_far ∙ ap (λ n. o ++ replicate (2 * n) 32) e

pub encode_lower-none : encode_lower [] ≡ []
unfolding encode_with
encode_lower-none = refl

pub encode_lower-cons : (b : ℕ) (bs : List ℕ) → encode_lower (b ∷ bs) ≡ encode_lower (b ∷ []) ++ encode_lower bs
unfolding encode_with
encode_lower-cons b bs = refl

pub encode_lower-one : (b : ℕ)
    → encode_lower (b ∷ []) ≡ slice_index lower_digits (b / 16) ∷ slice_index lower_digits (b % 16) ∷ []
unfolding encode_with
encode_lower-one b = refl

pub ruleset digits = (encode_lower-none, encode_lower-cons)

pub on_ok : {T E P : Type 0} (r : Result T E) → IsOk r → OnOk r P → P
on_ok (Ok x) h p = p
on_ok (Err e) h p = absurd (cc)

pub appended : {T E : Type 0} (r : Result T E) (n a b x : List ℕ) → n ≡ (if is_ok r then a else b) → a ≡ x
    → OnOk r (n ≡ x)
appended (Ok y) n a b x e f = e ∙ f
appended (Err y) n a b x e f = tt

pub digit-ascii : (k : ℕ) → slice_index lower_digits k < 128
digit-ascii k = search (rules)

pub digits_of-append : (xs ys : List Bool) → digits_of (xs ++ ys) ≡ digits_of xs ++ digits_of ys
digits_of-append [] ys = refl
digits_of-append (x ∷ xs) ys = ap (λ (l : List ℕ). digit x ∷ l) (digits_of-append xs ys)

pub digits_of-block : (out more all : List ℕ) (bits block rest : List Bool) → more ≡ out ++ digits_of block
    → bits ≡ block ++ rest → out ++ digits_of bits ≡ all → more ++ digits_of rest ≡ all
digits_of-block out more all bits block rest e is so_far =
    ap (λ (l : List ℕ). l ++ digits_of rest) e
    ∙ append_assoc out (digits_of block) (digits_of rest)
    ∙ ap (λ (l : List ℕ). out ++ l) (sym (ap digits_of is ∙ digits_of-append block rest))
    ∙ so_far

pub digits_of-ascii : (xs : List Bool) → IsAscii (digits_of xs)
digits_of-ascii [] i = omega arith
digits_of-ascii (true ∷ xs) zero = omega arith
digits_of-ascii (false ∷ xs) zero = omega arith
digits_of-ascii (x ∷ xs) (suc i) = digits_of-ascii xs i

-- after digit `i` is written, the first `i + 1` digits stand for the first `i + 1` bits
pub digits_of-more : (ds : List ℕ) (bits : List Bool) (i d : ℕ) → i < length ds → i < length bits
    → d ≡ digit (get_or bits i false) → take i ds ≡ digits_of (take i bits)
    → take (i + 1) (set ds i d) ≡ digits_of (take (i + 1) bits)
digits_of-more ds bits i d room below is so_far =
    take_more_set ds i d room
    ∙ ap₂ (λ (xs : List ℕ) (x : ℕ). xs ++ x ∷ []) so_far is
    ∙ sym (ap digits_of (take_more bits i false below) ∙ digits_of-append (take i bits) (get_or bits i false ∷ []))

-- after the loop, when `i` is `n`, the first `n` digits stand for all `bits`
pub digits_of-all : (ds : List ℕ) (bits : List Bool) (i n : ℕ) → i ≡ n → length bits ≤ n
    → take i ds ≡ digits_of (take i bits) → take n ds ≡ digits_of bits
digits_of-all ds bits i n e le so_far =
    ap (λ (k : ℕ). take k ds) (sym e) ∙ so_far ∙ ap digits_of (take_all i bits (omega arith))
