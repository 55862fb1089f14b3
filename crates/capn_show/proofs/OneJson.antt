-- Lemmas for the law `json_texts`: the JSON of a list of bytes determines the list.
use Rattle.std.proofs.Common.{◌≡◌, ℕ, suc, ◌-◌, ◌==◌, List, [], ◌∷◌, ◌++◌, Bool, true, false, ◌&&◌}
use Rattle.std.proofs.Common.{if◌then◌else◌, length, take, ap, sym, refl, ◌∙◌, arith, codes}
use Rattle.std.proofs.lemmas.Bool.{eqb-true}
use Rattle.std.proofs.lemmas.List.{append_cancel_left, append_cancel_right}
use Rattle.hex.specs.Hex.{IsBytes, encode_lower, decode_of}
use Rattle.hex.proofs.HexLemmas.{decode_of-encode_lower, decode_of-same}
use Rattle.capn_show.specs.Json.{digits_json}
use Rattle.capn_quoted.specs.Texts.{before_last, ends_in_zero, is_clear, is_clear_text}
use Rattle.capn_show.specs.JsonTexts.{json_escapes, text_json, text_or_digits}

-- ---- the bytes between quotes

-- The byte that is written as a backslash and then `c`.
abbrev unescaped_as : ℕ → ℕ
unescaped_as c = if c == 116 then 9 else if c == 110 then 10 else if c == 114 then 13 else c

-- The bytes of a text, computed from the bytes between its quotes.
abbrev unescaped : List ℕ → List ℕ
unescaped [] = []
unescaped (b ∷ []) = b ∷ []
unescaped (b ∷ c ∷ bs) = if b == 92 then unescaped_as c ∷ unescaped bs else b ∷ unescaped (c ∷ bs)

bare : (b : ℕ) (rest : List ℕ) → (b == 92) ≡ false → unescaped (b ∷ rest) ≡ b ∷ unescaped rest
bare b [] e = refl
bare b (c ∷ cs) e =
    ap (λ (x : Bool). if x then unescaped_as c ∷ unescaped cs else b ∷ unescaped (c ∷ cs)) e

one-back : (b : ℕ) (rest : List ℕ) (x y z u v : Bool) → (b == 34) ≡ x → (b == 92) ≡ y → (b == 9) ≡ z → (b == 10) ≡ u
    → (b == 13) ≡ v → unescaped ((if x then 92 ∷ 34 ∷ [] else if y then 92 ∷ 92 ∷ [] else if z then 92 ∷ 116 ∷ []
    else if u then 92 ∷ 110 ∷ [] else if v then 92 ∷ 114 ∷ [] else b ∷ []) ++ rest) ≡ b ∷ unescaped rest
one-back b rest true y z u v e f g h i = ap (λ (n : ℕ). n ∷ unescaped rest) (sym (eqb-true b 34 e))
one-back b rest false true z u v e f g h i = ap (λ (n : ℕ). n ∷ unescaped rest) (sym (eqb-true b 92 f))
one-back b rest false false true u v e f g h i = ap (λ (n : ℕ). n ∷ unescaped rest) (sym (eqb-true b 9 g))
one-back b rest false false false true v e f g h i = ap (λ (n : ℕ). n ∷ unescaped rest) (sym (eqb-true b 10 h))
one-back b rest false false false false true e f g h i = ap (λ (n : ℕ). n ∷ unescaped rest) (sym (eqb-true b 13 i))
one-back b rest false false false false false e f g h i = bare b rest f

all-back : (xs : List ℕ) → unescaped (json_escapes xs) ≡ xs
all-back [] = refl
all-back (b ∷ bs) =
    one-back b (json_escapes bs) (b == 34) (b == 92) (b == 9) (b == 10) (b == 13) refl refl refl refl refl
    ∙ ap (λ (l : List ℕ). b ∷ l) (all-back bs)

-- ---- the bytes of a text, and of digits

whole : (xs : List ℕ) → ends_in_zero xs ≡ true → xs ≡ before_last xs ++ 0 ∷ []
whole [] h = absurd (cc)
whole (b ∷ []) h = ap (λ (n : ℕ). n ∷ []) (eqb-true b 0 h)
whole (b ∷ c ∷ cs) h =
    let n = length (c ∷ cs) - 1 in
    let step : length (b ∷ c ∷ cs) - 1 ≡ suc n = omega arith in
    ap (λ (l : List ℕ). b ∷ l) (whole (c ∷ cs) h)
    ∙ ap (λ (k : ℕ). take k (b ∷ c ∷ cs) ++ 0 ∷ []) (sym step)

text-one : (xs ys : List ℕ) → ends_in_zero xs ≡ true → ends_in_zero ys ≡ true → text_json xs ≡ text_json ys → xs ≡ ys
text-one xs ys h k e =
    let x = json_escapes (before_last xs) in
    let y = json_escapes (before_last ys) in
    let end = append_cancel_left (codes "{\"text\":\"") ((x ++ 34 ∷ []) ++ 125 ∷ []) ((y ++ 34 ∷ []) ++ 125 ∷ []) e in
    let inner = append_cancel_right (x ++ 34 ∷ []) (y ++ 34 ∷ []) (125 ∷ []) end in
    let same = append_cancel_right x y (34 ∷ []) inner in
    let front = sym (all-back (before_last xs)) ∙ ap unescaped same ∙ all-back (before_last ys) in
    whole xs h ∙ ap (λ (l : List ℕ). l ++ 0 ∷ []) front ∙ sym (whole ys k)

digits-one : (xs ys : List ℕ) → IsBytes xs → IsBytes ys → digits_json xs ≡ digits_json ys → xs ≡ ys
digits-one xs ys h k e =
    let x = encode_lower xs in
    let y = encode_lower ys in
    let end = append_cancel_left (codes "{\"bytes\":\"") ((x ++ 34 ∷ []) ++ 125 ∷ []) ((y ++ 34 ∷ []) ++ 125 ∷ []) e in
    let inner = append_cancel_right (x ++ 34 ∷ []) (y ++ 34 ∷ []) (125 ∷ []) end in
    let same = append_cancel_right x y (34 ∷ []) inner in
    decode_of-same x xs ys (decode_of-encode_lower xs h) (ap decode_of same ∙ decode_of-encode_lower ys k)

abbrev third : List ℕ → ℕ
third (a ∷ b ∷ c ∷ cs) = c
third _ = 0

-- The JSON of `xs` as a text differs from the JSON of `ys` in digits.
apart : (xs ys : List ℕ) → text_json xs ≡ digits_json ys → ⊥
apart xs ys e = let bad : 116 ≡ 98 = ap third e in absurd (omega (arith, bad))

and-first : (a b : Bool) → (a && b) ≡ true → a ≡ true
and-first true b h = refl
and-first false b h = h

one-by : (xs ys : List ℕ) (x y : Bool) → IsBytes xs → IsBytes ys → is_clear_text xs ≡ x → is_clear_text ys ≡ y
    → (if x then text_json xs else digits_json xs) ≡ (if y then text_json ys else digits_json ys) → xs ≡ ys
one-by xs ys true true p q h k e =
    text-one xs ys (and-first (ends_in_zero xs) (is_clear (before_last xs)) h)
    (and-first (ends_in_zero ys) (is_clear (before_last ys)) k) e
one-by xs ys true false p q h k e = absurd (apart xs ys e)
one-by xs ys false true p q h k e = absurd (apart ys xs (sym e))
one-by xs ys false false p q h k e = digits-one xs ys p q e

pub one-json : (xs ys : List ℕ) → IsBytes xs → IsBytes ys → text_or_digits xs ≡ text_or_digits ys → xs ≡ ys
one-json xs ys p q e = one-by xs ys (is_clear_text xs) (is_clear_text ys) p q refl refl e
