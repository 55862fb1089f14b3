-- Lemmas for `quoted_texts`: what is read of a text is what was written of it, byte by byte.
use Rattle.std.proofs.Common.{◌≡◌, ℕ, zero, suc, ◌+◌, ◌-◌, ◌*◌, ◌%◌, ◌≤◌, ◌<◌, ◌==◌, ◌||◌, Bool, true, false, not, cond}
use Rattle.std.proofs.Common.{List, [], ◌∷◌, ◌++◌, length, take, Some, None, refl, sym, ap, ◌∙◌, arith, nat_lt, nat_le}
use Rattle.std.proofs.Common.{inl, inr, subst, length-append}
use Rattle.std.proofs.lemmas.Bool.{ne_eqb, leb-true, and_parts, and_from, or_right, cases_eq}
use Rattle.std.proofs.lemmas.Str.{is_utf8-from_IsUtf8}
use Rattle.std.specs.Str.{all_scalars, encode_utf8_all, is_utf8}
use Rattle.capn_quoted.specs.Texts.{is_printable, has_control, is_ascii_text, is_clear_text, is_text, is_clear}
use Rattle.capn_quoted.specs.Texts.{ends_in_zero, before_last}
use Rattle.capn_quoted.specs.Hidden.{is_from}
use Rattle.capn_quoted.specs.Escapes.{escapes}
use Rattle.capn_quoted.specs.declared.stage.Stage.TheVariants as stages
use Rattle.capn_quoted.specs.Reading.{after_lead, preceded, after_some, read_from, unquoted}
use Rattle.capn_quoted.proofs.Shapes.{shape_of}
use Rattle.capn_quoted.proofs.CodePoints.{as_it_is}
use Rattle.capn_quoted.proofs.TextsRead.{with_zero, first_is}
use Rattle.capn_quoted.proofs.Taken.{IsTaken, Below, printable_more, split_read, wide_only, quote_taken, all_printable}
use Rattle.capn_quoted.proofs.BytesOfPoint.{two_bytes, three_bytes, four_bytes}
use Rattle.capn_quoted.proofs.Taking.{marked_taken, last_taken, more_taken, stands_tells, stands_more}

-- ---- the first byte of a code point of several bytes

module _ (n : ℕ) (w : Bool) (c : ℕ) (cs ys : List ℕ) (l : length cs < n) (below : Below n) where
  two_taken : 194 ≤ c → c ≤ 223
      → preceded (c ∷ []) (read_from (stages.Inside 128 1 (c - 192)) cs) ≡ Some ys → IsTaken w (c ∷ cs) ys
  two_taken lc hc e =
      let r = split_read (c ∷ []) (read_from (stages.Inside 128 1 (c - 192)) cs) ys e in
      let h = last_taken n 128 (c - 192) cs r.0 l r.1 in
      let code = (c - 192) * 64 + h.byte % 64 in
      let k = stands_tells 128 code h.stands_so in
      let is = two_bytes code c h.byte k.at_least h.low h.high lc hc refl (shape_of code k.point) in
      inl (stands_more 128 code (c ∷ h.byte ∷ []) h.rest h.bytes (c ∷ cs) ys k is (ap (λ (x : List ℕ). c ∷ x) h.text)
      (r.2 ∙ ap (λ (x : List ℕ). c ∷ x) h.bytes_are)
      (wide_only h.rest h.bytes (below true h.rest h.bytes h.short h.goes_on)))

  three_taken : 224 ≤ c → c ≤ 239
      → preceded (c ∷ []) (read_from (stages.Inside 2048 2 (c - 224)) cs) ≡ Some ys → IsTaken w (c ∷ cs) ys
  three_taken lc hc e =
      let r = split_read (c ∷ []) (read_from (stages.Inside 2048 2 (c - 224)) cs) ys e in
      let m = more_taken n 2048 2 (c - 224) cs r.0 l r.1 in
      let h = last_taken n 2048 ((c - 224) * 64 + m.byte % 64) m.rest m.bytes m.short m.goes_on in
      let code = ((c - 224) * 64 + m.byte % 64) * 64 + h.byte % 64 in
      let k = stands_tells 2048 code h.stands_so in
      let is =
      three_bytes code c m.byte h.byte k.at_least m.low m.high h.low h.high lc hc refl (shape_of code k.point) in
      inl (stands_more 2048 code (c ∷ m.byte ∷ h.byte ∷ []) h.rest h.bytes (c ∷ cs) ys k is
      (ap (λ (x : List ℕ). c ∷ x) (m.text ∙ ap (λ (x : List ℕ). m.byte ∷ x) h.text))
      (r.2 ∙ ap (λ (x : List ℕ). c ∷ x) (m.bytes_are ∙ ap (λ (x : List ℕ). m.byte ∷ x) h.bytes_are))
      (wide_only h.rest h.bytes (below true h.rest h.bytes h.short h.goes_on)))

  four_taken : 240 ≤ c → preceded (c ∷ []) (read_from (stages.Inside 65536 3 (c - 240)) cs) ≡ Some ys
      → IsTaken w (c ∷ cs) ys
  four_taken lc e =
      let r = split_read (c ∷ []) (read_from (stages.Inside 65536 3 (c - 240)) cs) ys e in
      let m = more_taken n 65536 3 (c - 240) cs r.0 l r.1 in
      let o = more_taken n 65536 2 ((c - 240) * 64 + m.byte % 64) m.rest m.bytes m.short m.goes_on in
      let h = last_taken n 65536 (((c - 240) * 64 + m.byte % 64) * 64 + o.byte % 64) o.rest o.bytes o.short o.goes_on in
      let code = (((c - 240) * 64 + m.byte % 64) * 64 + o.byte % 64) * 64 + h.byte % 64 in
      let k = stands_tells 65536 code h.stands_so in
      let is = four_bytes code c m.byte o.byte h.byte k.at_least m.low m.high o.low o.high h.low h.high lc refl
      (shape_of code k.point) in
      inl (stands_more 65536 code (c ∷ m.byte ∷ o.byte ∷ h.byte ∷ []) h.rest h.bytes (c ∷ cs) ys k is
      (ap (λ (x : List ℕ). c ∷ x) (m.text ∙ ap (λ (x : List ℕ). m.byte ∷ x)
      (o.text ∙ ap (λ (x : List ℕ). o.byte ∷ x) h.text)))
      (r.2 ∙ ap (λ (x : List ℕ). c ∷ x) (m.bytes_are ∙ ap (λ (x : List ℕ). m.byte ∷ x)
      (o.bytes_are ∙ ap (λ (x : List ℕ). o.byte ∷ x) h.bytes_are)))
      (wide_only h.rest h.bytes (below true h.rest h.bytes h.short h.goes_on)))

  lead_taken : after_some (after_lead c) None (λ u. preceded (c ∷ []) (read_from u cs)) ≡ Some ys
      → IsTaken w (c ∷ cs) ys
  lead_taken e = by (is_from 194 223 c) (is_from 224 239 c) (is_from 240 244 c) refl refl refl e where
    by : (x y z : Bool) → is_from 194 223 c ≡ x → is_from 224 239 c ≡ y → is_from 240 244 c ≡ z
        → after_some (cond x (Some (stages.Inside 128 1 (c - 192))) (cond y (Some (stages.Inside 2048 2 (c - 224)))
        (cond z (Some (stages.Inside 65536 3 (c - 240))) None))) None (λ u. preceded (c ∷ []) (read_from u cs))
        ≡ Some ys
        → IsTaken w (c ∷ cs) ys
    by true y z f g h k =
        let parts = and_parts (nat_le 194 c) (nat_le c 223) f in
        two_taken (leb-true 194 c parts.0) (leb-true c 223 parts.1) k
    by false true z f g h k =
        let parts = and_parts (nat_le 224 c) (nat_le c 239) g in
        three_taken (leb-true 224 c parts.0) (leb-true c 239 parts.1) k
    by false false true f g h k = four_taken (leb-true 240 c (and_parts (nat_le 240 c) (nat_le c 244) h).0) k
    by false false false f g h k = absurd cc

  -- ---- a byte between two code points

  byte_taken : read_from (stages.Next w) (c ∷ cs) ≡ Some ys → IsTaken w (c ∷ cs) ys
  byte_taken e = elim (cases_eq c 34) [
    | inl k ↦
        subst (λ (j : ℕ). IsTaken w (j ∷ cs) ys) (sym k)
        (quote_taken w cs ys (subst (λ (j : ℕ). read_from (stages.Next w) (j ∷ cs) ≡ Some ys) k e))
    | inr k ↦ elim (cases_eq c 92) [
      | inl m ↦
          let f : read_from (stages.Next w) (92 ∷ cs) ≡ Some ys =
          subst (λ (j : ℕ). read_from (stages.Next w) (j ∷ cs) ≡ Some ys) m e in
          let r = split_read [] (read_from (stages.Marked w) cs) ys f in
          subst (λ (j : ℕ). IsTaken w (j ∷ cs) ys) (sym m) (subst (λ (x : List ℕ). IsTaken w (92 ∷ cs) x) (sym r.2)
          (marked_taken n w cs r.0 l below r.1))
      | inr m ↦
          by (c == 34) (c == 92) (nat_lt c 128) (is_printable c) (ne_eqb c 34 k) (ne_eqb c 92 m) refl refl k m e
    ]
  ] where
    by : (x y z o : Bool) → x ≡ false → y ≡ false → nat_lt c 128 ≡ z → is_printable c ≡ o → (c ≡ 34 → ⊥)
        → (c ≡ 92 → ⊥) → after_some (cond x (cond w None (Some stages.Closed)) (cond y (Some (stages.Marked w))
        (cond z (cond o (Some (stages.Next w)) None) (after_lead c)))) None
        (λ u. preceded (cond (y || x) [] (c ∷ [])) (read_from u cs)) ≡ Some ys → IsTaken w (c ∷ cs) ys
    by true y z o f g h i k m e = absurd cc
    by false true z o f g h i k m e = absurd cc
    by false false true false f g h i k m e = absurd cc
    by false false true true f g h i k m e =
        let r = split_read (c ∷ []) (read_from (stages.Next w) cs) ys e in
        let least = leb-true 32 c (and_parts (nat_le 32 c) (nat_le c 126) i).0 in
        subst (λ (x : List ℕ). IsTaken w (c ∷ cs) x) (sym r.2)
        (printable_more w c (c ∷ []) cs r.0 i (as_it_is c k m least) (below w cs r.0 l r.1))
    by false false false o f g h i k m e = lead_taken e

all_taken : (n : ℕ) → Below n
all_taken zero w t ys l e = absurd (omega arith)
all_taken (suc n) w [] ys l e = absurd cc
all_taken (suc n) w (c ∷ cs) ys l e = byte_taken n w c cs ys (omega arith) (all_taken n) e

-- ---- the text

ends : (xs : List ℕ) → ends_in_zero (xs ++ 0 ∷ []) ≡ true
ends [] = refl
ends (x ∷ []) = refl
ends (x ∷ y ∷ ys) = ends (y ∷ ys)

before : (xs : List ℕ) → before_last (xs ++ 0 ∷ []) ≡ xs
before xs =
    let size = length-append xs (0 ∷ []) in
    let less : length (xs ++ 0 ∷ []) - 1 ≡ length xs = omega arith in
    ap (λ (k : ℕ). take k (xs ++ 0 ∷ [])) less ∙ front xs where
      front : (xs : List ℕ) → take (length xs) (xs ++ 0 ∷ []) ≡ xs
      front [] = refl
      front (x ∷ xs) = ap (λ (l : List ℕ). x ∷ l) (front xs)

wide_text : (cs : List ℕ) → all_scalars cs ≡ true → has_control (encode_utf8_all cs) ≡ false
    → is_text (encode_utf8_all cs ++ 0 ∷ []) ≡ true
wide_text cs s e =
    let xs = encode_utf8_all cs in
    or_right (is_ascii_text (xs ++ 0 ∷ [])) (is_clear_text (xs ++ 0 ∷ []))
    (and_from (ends_in_zero (xs ++ 0 ∷ [])) (is_clear (before_last (xs ++ 0 ∷ []))) (ends xs)
    (ap is_clear (before xs)
    ∙ and_from (is_utf8 xs) (not (has_control xs)) (is_utf8-from_IsUtf8 xs (cs, (s, refl))) (ap not e)))

plain_text : (x : ℕ) (xs : List ℕ) → all_printable (x ∷ xs) ≡ true → is_ascii_text (x ∷ xs) ≡ true
plain_text x [] e = ap (λ (b : Bool). b || x == 0) (and_parts (is_printable x) true e).0
plain_text x (y ∷ ys) e =
    let parts = and_parts (is_printable x) (all_printable (y ∷ ys)) e in
    and_from (is_printable x) (is_ascii_text (y ∷ ys)) parts.0 (plain_text y ys parts.1)

nonempty : (xs : List ℕ) → all_printable xs ≡ true → (xs ≡ [] → ⊥) → is_text xs ≡ true
nonempty [] e n = absurd (n refl)
nonempty (x ∷ xs) e n = ap (λ (b : Bool). b || is_clear_text (x ∷ xs)) (plain_text x xs e)

head_is : (c d : ℕ) (cs ds : List ℕ) → ◌≡◌ {A = List ℕ} (c ∷ cs) (d ∷ ds) → c ≡ d
head_is c d cs ds e = cc

pub text_takes : (text xs : List ℕ) → unquoted text ≡ Some xs → (text ≡ escapes xs ++ 34 ∷ []) × (is_text xs ≡ true)
text_takes [] xs e = absurd cc
text_takes (c ∷ cs) xs e = elim (cases_eq c 34) [
  | inl k ↦
      let f : read_from stages.First (34 ∷ cs) ≡ Some xs =
      subst (λ (j : ℕ). read_from stages.First (j ∷ cs) ≡ Some xs) k e in
      absurd cc
  | inr k ↦
      by (all_taken (suc (length (c ∷ cs))) false (c ∷ cs) xs (omega arith) (sym (first_is c cs k) ∙ e)) k
] where
  by : IsTaken false (c ∷ cs) xs → (c ≡ 34 → ⊥) → (c ∷ cs ≡ escapes xs ++ 34 ∷ []) × (is_text xs ≡ true)
  by (inl h) k = (
    h.text_is ∙ sym (with_zero h.points h.scalars) ∙ ap (λ (l : List ℕ). escapes l ++ 34 ∷ []) (sym h.bytes_are),
    ap is_text h.bytes_are ∙ wide_text h.points h.scalars h.clear,
  )
  by (inr (e, h)) k = (
    h.text_is,
    nonempty xs h.printable
        (λ m. k (head_is c 34 cs [] (h.text_is ∙ ap (λ (l : List ℕ). escapes l ++ 34 ∷ []) m))),
  )

pub some_taken : (text xs : List ℕ) → unquoted text ≡ Some xs → 0 < length xs
some_taken text [] e = let h = text_takes text [] e in absurd cc
some_taken text (x ∷ xs) e = omega arith
