-- Lemmas for `quoted_texts`: what is read, code point by code point, is what was written.
use Rattle.std.proofs.Common.{◌≡◌, ℕ, ◌+◌, ◌-◌, ◌*◌, ◌%◌, ◌≤◌, ◌<◌, ◌==◌, ◌||◌, ◌&&◌, Bool, true, false, not, cond}
use Rattle.std.proofs.Common.{List, [], ◌∷◌, ◌++◌, length, Option, Some, None, refl, sym, ap, ap₂, ◌∙◌, append_assoc}
use Rattle.std.proofs.Common.{arith, nat_lt, nat_le, inl, inr, ◌⊎◌, subst}
use Rattle.std.proofs.lemmas.Bool.{lt-ltb, le-ltb, ne_eqb, leb-true, lt-leb, and_parts, and_from, cases_eq}
use lib.Utf8.{scalar, encode}
use Rattle.capn_quoted.specs.Texts.{is_printable, is_control}
use Rattle.capn_quoted.specs.Hidden.{is_from, is_hidden, numbered, hexadecimal}
use Rattle.capn_quoted.specs.Escapes.{escaped, written}
use Rattle.capn_quoted.specs.declared.stage.Stage.{Stage}
use Rattle.capn_quoted.specs.declared.stage.Stage.TheVariants as stages
use Rattle.capn_quoted.specs.Reading.{stands, leads, inside, after_mark, gives, preceded, after_some, read_from}
use Rattle.capn_quoted.proofs.CodePoints.{is_control_point, no_low_control}
use Rattle.capn_quoted.proofs.ReadBack.{encoded_scalar, hidden_facts}
use Rattle.capn_quoted.proofs.Taken.{IsWide, IsTaken, Below, wide_more, low_more, printable_more, split_read, wide_only}
use Rattle.capn_quoted.proofs.Taken.{zero_taken}
use Rattle.capn_quoted.proofs.NumbersTaken.{number_taken}

no_point : (c : ℕ) → 160 ≤ c → is_control_point c ≡ false
no_point c h =
    ap₂ (λ (x y : Bool). x || (nat_le 128 c && y)) (no_low_control c (omega arith)) (lt-leb c 159 h)
    ∙ none (nat_le 128 c) where
      none : (x : Bool) → (false || (x && false)) ≡ false
      none true = refl
      none false = refl

-- ---- a hidden code point

mark_taken : (n : ℕ) (w : Bool) (cs ys : List ℕ) → length cs < n → Below n → read_from (stages.Number 0) cs ≡ Some ys
    → IsTaken w (92 ∷ 117 ∷ 123 ∷ cs) ys
mark_taken n w cs ys l below e =
    let r = number_taken n 0 cs ys l e in
    let facts = hidden_facts r.code r.hidden in
    let wide = wide_more r.code r.rest r.bytes facts.0 (no_point r.code facts.1)
    (wide_only r.rest r.bytes (below true r.rest r.bytes r.short r.goes_on)) in
    let least = facts.1 in
    let text : written r.code ++ r.rest ≡ 92 ∷ 117 ∷ 123 ∷ cs =
    ap₂ (λ (x y : Bool). cond x (escaped r.code) (cond y (numbered r.code) (encode r.code)) ++ r.rest)
    (le-ltb r.code 128 (omega arith)) r.hidden
    ∙ ap (λ (x : List ℕ). 92 ∷ 117 ∷ 123 ∷ x) (append_assoc (hexadecimal r.code) (125 ∷ []) r.rest ∙ sym r.text_is) in
    let bytes : encode r.code ++ r.bytes ≡ ys =
    ap (λ (x : List ℕ). x ++ r.bytes) (sym (encoded_scalar r.code facts.0)) ∙ sym r.bytes_are in
    inl (subst (λ (x : List ℕ). IsWide x ys) text
    (subst (λ (x : List ℕ). IsWide (written r.code ++ r.rest) x) bytes wide))

opening_taken : (n : ℕ) (w : Bool) (cs ys : List ℕ) → length cs < n → Below n → read_from stages.Opening cs ≡ Some ys
    → IsTaken w (92 ∷ 117 ∷ cs) ys
opening_taken n w [] ys l below e = absurd cc
opening_taken n w (c ∷ cs) ys l below e = elim (cases_eq c 123) [
  | inl k ↦
      let f : read_from stages.Opening (123 ∷ cs) ≡ Some ys =
      subst (λ (j : ℕ). read_from stages.Opening (j ∷ cs) ≡ Some ys) k e in
      let r = split_read [] (read_from (stages.Number 0) cs) ys f in
      subst (λ (j : ℕ). IsTaken w (92 ∷ 117 ∷ j ∷ cs) ys) (sym k)
      (subst (λ (x : List ℕ). IsTaken w (92 ∷ 117 ∷ 123 ∷ cs) x) (sym r.2)
      (mark_taken n w cs r.0 (omega arith) below r.1))
  | inr k ↦
      let f : after_some (cond false (Some (stages.Number 0)) None) None (λ u. preceded [] (read_from u cs)) ≡ Some ys =
      ap (λ (b : Bool). after_some (cond b (Some (stages.Number 0)) None) None (λ u. preceded [] (read_from u cs)))
      (sym (ne_eqb c 123 k)) ∙ e in
      absurd cc
]

-- ---- a backslash

-- Case: the byte `d` after the backslash stands for the printable byte `d`.
same_taken : (n : ℕ) (w : Bool) (d : ℕ) (cs ys : List ℕ) → length cs < n → Below n → is_printable d ≡ true
    → escaped d ≡ 92 ∷ d ∷ [] → preceded (d ∷ []) (read_from (stages.Next w) cs) ≡ Some ys → IsTaken w (92 ∷ d ∷ cs) ys
same_taken n w d cs ys l below p f e =
    let r = split_read (d ∷ []) (read_from (stages.Next w) cs) ys e in
    subst (λ (x : List ℕ). IsTaken w (92 ∷ d ∷ cs) x) (sym r.2)
    (printable_more w d (92 ∷ d ∷ []) cs r.0 p f (below w cs r.0 l r.1))

-- Case: the byte `d` after the backslash stands for the byte `c`: tab, newline or carriage return.
blank_taken : (n : ℕ) (w : Bool) (c d : ℕ) (cs ys : List ℕ) → length cs < n → Below n → c < 128 → is_control c ≡ false
    → escaped c ≡ 92 ∷ d ∷ [] → preceded (c ∷ []) (read_from (stages.Next true) cs) ≡ Some ys
    → IsTaken w (92 ∷ d ∷ cs) ys
blank_taken n w c d cs ys l below low k f e =
    let r = split_read (c ∷ []) (read_from (stages.Next true) cs) ys e in
    subst (λ (x : List ℕ). IsTaken w (92 ∷ d ∷ cs) x) (sym r.2)
    (low_more w c (92 ∷ d ∷ []) cs r.0 low k f (wide_only cs r.0 (below true cs r.0 l r.1)))

abbrev IsOr : ℕ → ℕ → Type 0
IsOr d j = (d ≡ j) ⊎ (d ≡ j → ⊥)

pub marked_taken : (n : ℕ) (w : Bool) (cs ys : List ℕ) → length cs < n → Below n
    → read_from (stages.Marked w) cs ≡ Some ys
    → IsTaken w (92 ∷ cs) ys
marked_taken n w [] ys l below e = absurd cc
marked_taken n w (d ∷ cs) ys l below e =
    by (cases_eq d 34) (cases_eq d 92) (cases_eq d 48) (cases_eq d 116) (cases_eq d 110) (cases_eq d 114)
    (cases_eq d 117) where
      -- What is read if the byte after the backslash is `j`.
      at : (j : ℕ) → d ≡ j → read_from (stages.Marked w) (j ∷ cs) ≡ Some ys
      at j k = subst (λ (i : ℕ). read_from (stages.Marked w) (i ∷ cs) ≡ Some ys) k e

      back : (j : ℕ) → d ≡ j → IsTaken w (92 ∷ j ∷ cs) ys → IsTaken w (92 ∷ d ∷ cs) ys
      back j k h = subst (λ (i : ℕ). IsTaken w (92 ∷ i ∷ cs) ys) (sym k) h

      by : IsOr d 34 → IsOr d 92 → IsOr d 48 → IsOr d 116 → IsOr d 110 → IsOr d 114 → IsOr d 117
          → IsTaken w (92 ∷ d ∷ cs) ys
      by (inl k) o2 o3 o4 o5 o6 o7 = back 34 k (same_taken n w 34 cs ys (omega arith) below refl refl (at 34 k))
      by (inr n1) (inl k) o3 o4 o5 o6 o7 = back 92 k (same_taken n w 92 cs ys (omega arith) below refl refl (at 92 k))
      by (inr n1) (inr n2) (inl k) o4 o5 o6 o7 =
          let r = split_read (0 ∷ []) (read_from stages.Zero cs) ys (at 48 k) in
          back 48 k (subst (λ (x : List ℕ). IsTaken w (92 ∷ 48 ∷ cs) x) (sym r.2) (zero_taken w cs r.0 r.1))
      by (inr n1) (inr n2) (inr n3) (inl k) o5 o6 o7 =
          back 116 k (blank_taken n w 9 116 cs ys (omega arith) below (omega arith) refl refl (at 116 k))
      by (inr n1) (inr n2) (inr n3) (inr n4) (inl k) o6 o7 =
          back 110 k (blank_taken n w 10 110 cs ys (omega arith) below (omega arith) refl refl (at 110 k))
      by (inr n1) (inr n2) (inr n3) (inr n4) (inr n5) (inl k) o7 =
          back 114 k (blank_taken n w 13 114 cs ys (omega arith) below (omega arith) refl refl (at 114 k))
      by (inr n1) (inr n2) (inr n3) (inr n4) (inr n5) (inr n6) (inl k) =
          let r = split_read [] (read_from stages.Opening cs) ys (at 117 k) in
          back 117 k (subst (λ (x : List ℕ). IsTaken w (92 ∷ 117 ∷ cs) x) (sym r.2)
          (opening_taken n w cs r.0 (omega arith) below r.1))
      by (inr n1) (inr n2) (inr n3) (inr n4) (inr n5) (inr n6) (inr n7) =
          let none : after_mark w d ≡ None =
          ap₂ (λ (x y : Bool). cond (x || y) (Some (stages.Next w)) (cond (d == 48) (Some stages.Zero)
          (cond (d == 116 || (d == 110 || d == 114)) (Some (stages.Next true))
          (cond (d == 117) (Some stages.Opening) None)))) (ne_eqb d 34 n1) (ne_eqb d 92 n2)
          ∙ ap₂ (λ (x y : Bool). cond x (Some stages.Zero) (cond (y || (d == 110 || d == 114)) (Some (stages.Next true))
          (cond (d == 117) (Some stages.Opening) None))) (ne_eqb d 48 n3) (ne_eqb d 116 n4)
          ∙ ap₂ (λ (x y : Bool). cond (x || y) (Some (stages.Next true))
          (cond (d == 117) (Some stages.Opening) None)) (ne_eqb d 110 n5) (ne_eqb d 114 n6)
          ∙ ap (λ (x : Bool). cond x (Some stages.Opening) None) (ne_eqb d 117 n7) in
          let f : Rattle.std.proofs.Common.None ≡ Some ys =
          sym (ap (λ (o : Option Stage). after_some o None
          (λ u. preceded (gives (stages.Marked w) d) (read_from u cs))) none) ∙ e in
          absurd cc

-- ---- a code point of several bytes

pub record IsLast (n least code : ℕ) (t ys : List ℕ) : Type 0 where
  pub byte : ℕ
  pub low : 128 ≤ byte
  pub high : byte ≤ 191
  pub rest : List ℕ
  pub bytes : List ℕ
  pub text : t ≡ byte ∷ rest
  pub bytes_are : ys ≡ byte ∷ bytes
  pub stands_so : stands least (code * 64 + byte % 64) ≡ true
  pub goes_on : read_from (stages.Next true) rest ≡ Some bytes
  pub short : length rest < n

pub last_taken : (n least code : ℕ) (t ys : List ℕ) → length t < n → read_from (stages.Inside least 1 code) t ≡ Some ys
    → IsLast n least code t ys
last_taken n least code [] ys l e = absurd cc
last_taken n least code (c ∷ cs) ys l e = by (is_from 128 191 c) (stands least (code * 64 + c % 64)) refl refl e where
  by : (x y : Bool) → is_from 128 191 c ≡ x → stands least (code * 64 + c % 64) ≡ y
      → after_some (cond (x && y) (Some (stages.Next true)) None) None (λ u. preceded (c ∷ []) (read_from u cs))
      ≡ Some ys
      → IsLast n least code (c ∷ cs) ys
  by false y f g k = absurd cc
  by true false f g k = absurd cc
  by true true f g k =
      let r = split_read (c ∷ []) (read_from (stages.Next true) cs) ys k in
      let parts = and_parts (nat_le 128 c) (nat_le c 191) f in
      record {
        byte = c;
        low = leb-true 128 c parts.0;
        high = leb-true c 191 parts.1;
        rest = cs;
        bytes = r.0;
        text = refl;
        bytes_are = r.2;
        stands_so = g;
        goes_on = r.1;
        short = omega arith;
      }

pub record IsMore (n least left code : ℕ) (t ys : List ℕ) : Type 0 where
  pub byte : ℕ
  pub low : 128 ≤ byte
  pub high : byte ≤ 191
  pub rest : List ℕ
  pub bytes : List ℕ
  pub text : t ≡ byte ∷ rest
  pub bytes_are : ys ≡ byte ∷ bytes
  pub goes_on : read_from (inside least (left - 1) (code * 64 + byte % 64)) rest ≡ Some bytes
  pub short : length rest < n

pub more_taken : (n least left code : ℕ) (t ys : List ℕ) → length t < n
    → read_from (stages.Inside least left code) t ≡ Some ys
    → IsMore n least left code t ys
more_taken n least left code [] ys l e = absurd cc
more_taken n least left code (c ∷ cs) ys l e =
    by (is_from 128 191 c) (leads least (left - 1) (code * 64 + c % 64)) refl e where
      by : (x y : Bool) → is_from 128 191 c ≡ x
          → after_some (cond (x && y) (Some (inside least (left - 1) (code * 64 + c % 64))) None) None
          (λ u. preceded (c ∷ []) (read_from u cs)) ≡ Some ys → IsMore n least left code (c ∷ cs) ys
      by false y f k = absurd cc
      by true false f k = absurd cc
      by true true f k =
          let r = split_read (c ∷ []) (read_from (inside least (left - 1) (code * 64 + c % 64)) cs) ys k in
          let parts = and_parts (nat_le 128 c) (nat_le c 191) f in
          record {
            byte = c;
            low = leb-true 128 c parts.0;
            high = leb-true c 191 parts.1;
            rest = cs;
            bytes = r.0;
            text = refl;
            bytes_are = r.2;
            goes_on = r.1;
            short = omega arith;
          }

-- What `stands` tells.
pub record StandsAsItIs (least c : ℕ) : Type 0 where
  pub at_least : least ≤ c
  pub wide : 160 ≤ c
  pub point : scalar c ≡ true
  pub bare : is_hidden c ≡ false

pub stands_tells : (least c : ℕ) → stands least c ≡ true → StandsAsItIs least c
stands_tells least c e =
    let parts = and_parts (nat_le least c && nat_le 160 c)
    ((nat_lt c 55296 || is_from 57344 1114111 c) && not (is_hidden c)) e in
    let low = and_parts (nat_le least c) (nat_le 160 c) parts.0 in
    let range = and_parts (nat_lt c 55296 || is_from 57344 1114111 c) (not (is_hidden c)) parts.1 in
    record {
      at_least = leb-true least c low.0;
      wide = leb-true 160 c low.1;
      point = by (nat_lt c 55296) range.0;
      bare = un (is_hidden c) range.1;
    } where
      by : (x : Bool) → (x || is_from 57344 1114111 c) ≡ true → cond x true (nat_le 57344 c && nat_lt c 1114112) ≡ true
      by true f = refl
      by false f =
          let h = and_parts (nat_le 57344 c) (nat_le c 1114111) f in
          let top = leb-true c 1114111 h.1 in
          and_from (nat_le 57344 c) (nat_lt c 1114112) h.0 (lt-ltb c 1114112 (omega arith))

      un : (x : Bool) → not x ≡ true → x ≡ false
      un true f = absurd cc
      un false f = refl

-- A code point that stands as it is, whose bytes are `front`, is one code point more.
pub stands_more : (least c : ℕ) (front rest bytes text ys : List ℕ) → StandsAsItIs least c → encode c ≡ front
    → text ≡ front ++ rest → ys ≡ front ++ bytes → IsWide rest bytes → IsWide text ys
stands_more least c front rest bytes text ys h e f g wide =
    let w = h.wide in
    let same : written c ≡ front =
    ap₂ (λ (x y : Bool). cond x (escaped c) (cond y (numbered c) (encode c))) (le-ltb c 128 (omega arith)) h.bare ∙ e in
    subst (λ (x : List ℕ). IsWide x ys) (ap (λ (x : List ℕ). x ++ rest) same ∙ sym f)
    (subst (λ (x : List ℕ). IsWide (written c ++ rest) x) (ap (λ (x : List ℕ). x ++ bytes) e ∙ sym g)
    (wide_more c rest bytes h.point (no_point c h.wide) wide))
