-- Lemmas for `Unquotings`: a line is its own plain form if `may_begin` is false of its first bytes.
use Rattle.std.proofs.Common.{◌≡◌, ℕ, zero, suc, ◌+◌, ◌==◌, ◌||◌, ◌⊎◌, inl, inr, Bool, true, false, cond, List, [], ◌∷◌}
use Rattle.std.proofs.Common.{◌++◌, codes, take, drop, Option, Some, None, refl, sym, ap, ap₂, ◌∙◌, append_assoc, arith}
use Rattle.std.proofs.Common.{length, nat_le, ◌^◌, ◌<◌, ◌%◌, ◌&&◌}
use Rattle.std.proofs.lemmas.Bool.{eqb-true, eq-eqb, ne_eqb, leb-true, le-leb, and_parts, and_from}
use Rattle.std.proofs.lemmas.Fmt.{decimal_by_steps}
use Rattle.std.specs.Fmt.{decimal}
use Rattle.std.proofs.lemmas.List.{append-nil, take-append-drop}
use Rattle.capn_text.specs.Streams.{ended_lines}
use Rattle.capn_quoted.specs.Reading.{unquoted, may_go_on}
use Rattle.capn_quoted.proofs.shared.QuotedTexts.{goes_on_before}
use Rattle.capn_text.specs.Beginnings.{begins, is_some, looked_at, may_begin, may_follow, may_follow_in, may_count}
use Rattle.capn_text.specs.Beginnings.{may_open, may_go_on_in}
use Rattle.capn_text.specs.PlainForm.{plain_or, plain_line, plain_after, plain_through, plain, is_quoted, is_there}
use Rattle.capn_text.specs.PlainForm.{digits_after, digits_through}
use Rattle.capn_text.specs.inner.Tokens.{strip, is_digit}
use Rattle.capn_text.specs.inner.QuotedLines.{levels_at, quoted_at}
use Rattle.capn_text.proofs.TokenText.{two_more}
use Rattle.capn_text.proofs.QuotedLines.{spaces, inside, names_line, IsAfterName}

-- ---- the first bytes of a line between quotes

or_left : (a b : Bool) → a ≡ true → (a || b) ≡ true
or_left a b e = ap (λ (x : Bool). x || b) e

or_right : (a b : Bool) → b ≡ true → (a || b) ≡ true
or_right true b e = refl
or_right false b e = e

shorter : (w front rest t : List ℕ) → front ++ rest ≡ w ++ t
    → (begins w front ≡ true) ⊎ ((y : List ℕ) × (strip w front ≡ Some y) × (y ++ rest ≡ t))
shorter [] front rest t e = inr (front, refl, e)
shorter (c ∷ w) [] rest t e = inl refl
shorter (c ∷ w) (d ∷ front) rest t e =
    let same : d ≡ c = cc in
    let below : front ++ rest ≡ w ++ t = cc in
    elim (shorter w front rest t below) [
      | inl h ↦ inl (ap (λ (b : Bool). is_some (cond b (strip front w) None)) (eq-eqb d c same) ∙ h)
      | inr h ↦
          inr (h.0, ap (λ (b : Bool). cond b (strip w front) None) (eq-eqb c d (sym same)) ∙ h.1, h.2)
    ]

-- ---- the bytes after the name

tail_of : (c d : ℕ) (cs ds : List ℕ) → ◌≡◌ {A = List ℕ} (c ∷ cs) (d ∷ ds) → (c ≡ d) × (cs ≡ ds)
tail_of c d cs ds e = (cc, cc)

-- The bytes `y` begin the rest of a line after a count, whose text is read.
opens : (y rest inner xs : List ℕ) → y ++ rest ≡ codes " \"" ++ inner → unquoted inner ≡ Some xs → may_open y ≡ true
opens y rest inner xs e read =
    elim (shorter (codes " \"") y rest inner e) [
      | inl b ↦ or_left (begins (codes " \"") y) (may_go_on_in (strip (codes " \"") y)) b
      | inr z ↦
          or_right (begins (codes " \"") y) (may_go_on_in (strip (codes " \"") y))
          (ap may_go_on_in z.1 ∙ goes_on_before z.0 rest xs (ap unquoted z.2 ∙ read))
    ]

are_digits : List ℕ → Bool
are_digits [] = true
are_digits (d ∷ ds) = is_digit d && are_digits ds

more_digits : (ds : List ℕ) (d : ℕ) → are_digits ds ≡ true → is_digit d ≡ true → are_digits (ds ++ d ∷ []) ≡ true
unfolding are_digits
more_digits [] d e f = and_from (is_digit d) true f refl
more_digits (c ∷ cs) d e f =
    let parts = and_parts (is_digit c) (are_digits cs) e in
    and_from (is_digit c) (are_digits (cs ++ d ∷ [])) parts.0 (more_digits cs d parts.1 f)

a_digit : (m : ℕ) → m < 10 → is_digit (48 + m) ≡ true
a_digit m h =
    and_from (nat_le 48 (48 + m)) (nat_le (48 + m) 57) (le-leb 48 (48 + m) (omega arith))
    (le-leb (48 + m) 57 (omega arith))

decimal_digits : (n : ℕ) → n < 2 ^ 64 → are_digits (decimal n) ≡ true
unfolding are_digits
decimal_digits n fits =
    decimal_by_steps (λ m ds. are_digits ds ≡ true) (λ m lt. and_from (is_digit (48 + m)) true (a_digit m lt) refl)
    (λ m ds ten h. more_digits ds (48 + m % 10) h (a_digit (m % 10) (omega arith))) n fits

counts : (ds y rest inner xs : List ℕ) → are_digits ds ≡ true → y ++ rest ≡ ds ++ (32 ∷ 34 ∷ inner)
    → unquoted inner ≡ Some xs → may_count y ≡ true
unfolding are_digits
counts ds [] rest inner xs e f read = refl
counts [] (c ∷ cs) rest inner xs e f read =
    let same = tail_of c 32 (cs ++ rest) (34 ∷ inner) f in
    ap (λ (b : Bool). cond b (may_count cs) (may_open (c ∷ cs))) (ap is_digit same.0)
    ∙ opens (c ∷ cs) rest inner xs f read
counts (d ∷ ds) (c ∷ cs) rest inner xs e f read =
    let parts = and_parts (is_digit d) (are_digits ds) e in
    let same = tail_of c d (cs ++ rest) (ds ++ (32 ∷ 34 ∷ inner)) f in
    ap (λ (b : Bool). cond b (may_count cs) (may_open (c ∷ cs))) (ap is_digit same.0 ∙ parts.0)
    ∙ counts ds cs rest inner xs parts.1 same.1 read

digits_follow : (ds y rest inner xs : List ℕ) → are_digits ds ≡ true → (ds ≡ [] → ⊥)
    → y ++ rest ≡ ds ++ (32 ∷ 34 ∷ inner) → unquoted inner ≡ Some xs → may_follow y ≡ true
unfolding are_digits
digits_follow ds [] rest inner xs e some f read = refl
digits_follow [] (c ∷ cs) rest inner xs e some f read = absurd (some refl)
digits_follow (d ∷ ds) (c ∷ cs) rest inner xs e some f read =
    let parts = and_parts (is_digit d) (are_digits ds) e in
    let same = tail_of c d (cs ++ rest) (ds ++ (32 ∷ 34 ∷ inner)) f in
    let least = leb-true 48 d (and_parts (nat_le 48 d) (nat_le d 57) parts.0).0 in
    let first = same.0 in
    ap (λ (b : Bool). cond b (may_go_on cs) (is_digit c && may_count cs)) (ne_eqb c 34 (λ k. omega arith))
    ∙ and_from (is_digit c) (may_count cs) (ap is_digit same.0 ∙ parts.0)
    (counts ds cs rest inner xs parts.1 same.1 read)

some_digits : (n : ℕ) → n < 2 ^ 64 → decimal n ≡ [] → ⊥
some_digits n fits =
    decimal_by_steps (λ m ds. ds ≡ [] → ⊥) (λ m lt e. absurd cc) (λ m ds ten h e. none ds (48 + m % 10) e) n fits where
      none : (ds : List ℕ) (d : ℕ) → ds ++ d ∷ [] ≡ [] → ⊥
      none [] d e = absurd cc
      none (c ∷ cs) d e = absurd cc

-- The bytes `y` begin the rest `t` of a line after its name.
follows : (y rest t xs : List ℕ) → y ++ rest ≡ t → IsAfterName t xs → may_follow y ≡ true
follows y rest t xs e (read, inl (fits, k)) =
    digits_follow (decimal (length xs)) y rest (inside xs) xs (decimal_digits (length xs) fits)
    (some_digits (length xs) fits) (e ∙ k) read
follows [] rest t xs e (read, inr k) = refl
follows (c ∷ cs) rest t xs e (read, inr k) =
    let same = tail_of c 34 (cs ++ rest) (inside xs) (e ∙ k) in
    ap (λ (b : Bool). cond b (may_go_on cs) (is_digit c && may_count cs)) (eq-eqb c 34 same.0)
    ∙ goes_on_before cs rest xs (ap unquoted same.1 ∙ read)

unindented : (front rest t : List ℕ) → front ++ rest ≡ codes "bytes " ++ t → levels_at front ≡ (0, front)
unindented [] rest t e = refl
unindented (c ∷ []) rest t e = refl
unindented (c ∷ d ∷ cs) rest t e =
    let same : c ≡ 98 = cc in
    ap (λ (b : ℕ). levels_at (b ∷ d ∷ cs)) same ∙ ap (λ (b : ℕ). pair_of (b ∷ d ∷ cs)) (sym same) where
      pair_of : List ℕ → ℕ × List ℕ
      pair_of l = (0, l)

named : (front rest t xs : List ℕ) → front ++ rest ≡ codes "bytes " ++ t → IsAfterName t xs → may_begin front ≡ true
named front rest t xs e h =
    let none = unindented front rest t e in
    let here = shorter (codes "bytes ") front rest t e in
    let name = or_right (begins (codes " ") front)
    (begins (codes "bytes ") front || may_follow_in (strip (codes "bytes ") front))
    (elim here [
      | inl b ↦ or_left (begins (codes "bytes ") front) (may_follow_in (strip (codes "bytes ") front)) b
      | inr y ↦
          or_right (begins (codes "bytes ") front) (may_follow_in (strip (codes "bytes ") front))
          (ap may_follow_in y.1 ∙ follows y.0 rest t xs y.2 h)
    ]) in
    ap (λ (p : ℕ × List ℕ). begins (codes " ") p.1
    || (begins (codes "bytes ") p.1 || may_follow_in (strip (codes "bytes ") p.1))) none ∙ name

indented : (front rest tail : List ℕ) → front ++ rest ≡ 32 ∷ 32 ∷ tail
    → ((cs : List ℕ) → cs ++ rest ≡ tail → may_begin cs ≡ true) → may_begin front ≡ true
indented [] rest tail f below = refl
indented (c ∷ []) rest tail f below = let same : c ≡ 32 = cc in ap (λ (b : ℕ). may_begin (b ∷ [])) same
indented (c ∷ d ∷ cs) rest tail f below =
    let first : c ≡ 32 = cc in
    let second : d ≡ 32 = cc in
    let left : cs ++ rest ≡ tail = cc in
    ap₂ (λ (a b : ℕ). may_begin (a ∷ b ∷ cs)) first second ∙ below cs left

begun : (level : ℕ) (front rest t xs : List ℕ) → front ++ rest ≡ spaces level ++ (codes "bytes " ++ t)
    → IsAfterName t xs → may_begin front ≡ true
begun zero front rest t xs e h = named front rest t xs e h
begun (suc level) front rest t xs e h =
    indented front rest (spaces level ++ (codes "bytes " ++ t))
    (e ∙ ap (λ (l : List ℕ). l ++ (codes "bytes " ++ t)) (two_more level))
    (λ cs below. begun level cs rest t xs below h)

abbrev pub Never : List ℕ → Type 0
Never front = (rest : List ℕ) → quoted_at (front ++ rest) ≡ None

-- If `may_begin` is false of the first bytes of `front`, no line that begins with `front` has bytes between quotes.
pub never : (front : List ℕ) → may_begin (take looked_at front) ≡ false → Never front
never front other rest = by (quoted_at (front ++ rest)) refl where
  by : (r : Option (ℕ × List ℕ)) → quoted_at (front ++ rest) ≡ r → r ≡ None
  by None e = refl
  by (Some q) e =
      let line = names_line (front ++ rest) q e in
      let cut : take looked_at front ++ (drop looked_at front ++ rest) ≡ front ++ rest =
      sym (append_assoc (take looked_at front) (drop looked_at front) rest)
      ∙ ap (λ (l : List ℕ). l ++ rest) (take-append-drop looked_at front) in
      let yes =
      begun line.0 (take looked_at front) (drop looked_at front ++ rest) line.1 line.3.0 (cut ∙ line.2) line.3.1 in
      absurd cc

-- ---- the line stays as it is

never_more : (front : List ℕ) (c : ℕ) → Never front → Never (front ++ c ∷ [])
never_more front c h rest = ap quoted_at (append_assoc front (c ∷ []) rest) ∙ h (c ∷ rest)

as_it_is : (front : List ℕ) → Never front → quoted_at front ≡ None
as_it_is front h = ap quoted_at (sym (append-nil front)) ∙ h []

pub never_plain : (more front : List ℕ) → Never front → plain_after front more ≡ front ++ plain_through more
never_plain [] front h = sym (append-nil front)
never_plain (c ∷ cs) front h =
    by (c == 10) refl (never_plain cs (front ++ c ∷ []) (never_more front c h)) where
      by : (b : Bool) → (c == 10) ≡ b → plain_after (front ++ c ∷ []) cs ≡ (front ++ c ∷ []) ++ plain_through cs
          → plain_after front (c ∷ cs) ≡ front ++ plain_through (c ∷ cs)
      by true e below =
          let ten = eqb-true c 10 e in
          ap (λ b. cond b (plain_line front ++ plain cs) (plain_after (front ++ c ∷ []) cs)) e
          ∙ ap (λ (r : Option (ℕ × List ℕ)). plain_or r front ++ plain cs) (as_it_is front h)
          ∙ append_assoc front (10 ∷ []) (plain cs)
          ∙ ap (λ (l : List ℕ). front ++ l)
          (ap (λ (k : ℕ). k ∷ plain cs) (sym ten)
          ∙ ap (λ b. c ∷ cond b (plain cs) (plain_through cs)) (sym e))
      by false e below =
          ap (λ b. cond b (plain_line front ++ plain cs) (plain_after (front ++ c ∷ []) cs)) e ∙ below
          ∙ append_assoc front (c ∷ []) (plain_through cs)
          ∙ ap (λ (l : List ℕ). front ++ l) (ap (λ b. c ∷ cond b (plain cs) (plain_through cs)) (sym e))

pub never_digits : (n : ℕ) (more front : List ℕ) → Never front → digits_after n front more ≡ digits_through n more
never_digits n [] front h = refl
never_digits n (c ∷ cs) front h =
    by (c == 10) (is_quoted front) (ap is_there (as_it_is front h))
    (never_digits n cs (front ++ c ∷ []) (never_more front c h)) where
      by : (b q : Bool) → q ≡ false → digits_after n (front ++ c ∷ []) cs ≡ digits_through n cs
          → cond b (cond q ((n + 1) ∷ []) [] ++ digits_after (n + cond q 2 1) [] cs)
          (digits_after n (front ++ c ∷ []) cs) ≡ cond b (digits_after (n + 1) [] cs) (digits_through n cs)
      by true true e below = absurd cc
      by true false e below = refl
      by false q e below = below

-- ---- bytes without a newline, and the newline

pub through_past : (x more : List ℕ) → ended_lines x ≡ 0 → plain_through (x ++ more) ≡ x ++ plain_through more
through_past [] more quiet = refl
through_past (c ∷ cs) more quiet = by (c == 10) refl (through_past cs more) where
  by : (b : Bool) → (c == 10) ≡ b → (ended_lines cs ≡ 0 → plain_through (cs ++ more) ≡ cs ++ plain_through more)
      → plain_through (c ∷ cs ++ more) ≡ c ∷ cs ++ plain_through more
  by true e below =
      let one : ◌≡◌ {A = ℕ} (cond (c == 10) 1 0) 1 = ap (λ (b : Bool). cond {A = ℕ} b 1 0) e in
      absurd (omega arith)
  by false e below =
      let zero_lines : ◌≡◌ {A = ℕ} (cond (c == 10) 1 0) 0 = ap (λ (b : Bool). cond {A = ℕ} b 1 0) e in
      ap (λ b. c ∷ cond b (plain (cs ++ more)) (plain_through (cs ++ more))) e
      ∙ ap (λ (l : List ℕ). c ∷ l) (below (omega arith))

pub digits_past_through : (n : ℕ) (x more : List ℕ) → ended_lines x ≡ 0
    → digits_through n (x ++ more) ≡ digits_through n more
digits_past_through n [] more quiet = refl
digits_past_through n (c ∷ cs) more quiet = by (c == 10) refl (digits_past_through n cs more) where
  by : (b : Bool) → (c == 10) ≡ b → (ended_lines cs ≡ 0 → digits_through n (cs ++ more) ≡ digits_through n more)
      → digits_through n (c ∷ cs ++ more) ≡ digits_through n more
  by true e below =
      let one : ◌≡◌ {A = ℕ} (cond (c == 10) 1 0) 1 = ap (λ (b : Bool). cond {A = ℕ} b 1 0) e in
      absurd (omega arith)
  by false e below =
      let zero_lines : ◌≡◌ {A = ℕ} (cond (c == 10) 1 0) 0 = ap (λ (b : Bool). cond {A = ℕ} b 1 0) e in
      ap (λ b. cond b (digits_after (n + 1) [] (cs ++ more)) (digits_through n (cs ++ more))) e
      ∙ below (omega arith)
