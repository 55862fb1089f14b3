-- Lemmas for `quoted_texts`: what is written for each code point of a text.
use Rattle.std.proofs.Common.{◌≡◌, ℕ, ◌+◌, ◌-◌, ◌*◌, ◌%◌, ◌≤◌, ◌<◌, ◌==◌, ◌||◌, ◌&&◌, Bool, true, false, not, cond}
use Rattle.std.proofs.Common.{List, [], ◌∷◌, ◌++◌, refl, sym, ap, ap₂, ◌∙◌, append_assoc, arith, nat_lt, nat_le}
use Rattle.std.proofs.lemmas.Bool.{lt-ltb, le-ltb, ne_eqb, lt-leb, le-leb, eqb-true, eqb-false, and_parts}
use Rattle.std.specs.Str.{all_scalars, encode_utf8_all}
use lib.Utf8.{scalar, encode}
use Rattle.capn_quoted.specs.Texts.{is_control, has_control}
use Rattle.capn_quoted.specs.Hidden.{is_from, is_hidden, numbered}
use Rattle.capn_quoted.specs.Escapes.{escaped, written, all_written, of_two, of_three, of_four, code_at, more_of}
use Rattle.capn_quoted.specs.Escapes.{escapes_after, escapes}
use Rattle.capn_quoted.proofs.Shapes.{Shape, of1, of2, of3, of4, shape_of}

-- ---- the bytes at the front

code_low : (b : ℕ) (bs : List ℕ) → b < 192 → code_at b bs ≡ 0
code_low b bs h =
    ap (λ (t : Bool). cond t 0 (cond (nat_lt b 224) (of_two b bs) (cond (nat_lt b 240) (of_three b bs) (of_four b bs))))
    (lt-ltb b 192 h)

code_of_two : (b : ℕ) (bs : List ℕ) → 192 ≤ b → b < 224 → code_at b bs ≡ of_two b bs
code_of_two b bs l h =
    ap₂ (λ (s t : Bool). cond s 0 (cond t (of_two b bs) (cond (nat_lt b 240) (of_three b bs) (of_four b bs))))
    (le-ltb b 192 l) (lt-ltb b 224 h)

code_of_three : (b : ℕ) (bs : List ℕ) → 224 ≤ b → b < 240 → code_at b bs ≡ of_three b bs
code_of_three b bs l h =
    ap₂ (λ (s t : Bool). cond s 0 (cond t (of_two b bs) (cond (nat_lt b 240) (of_three b bs) (of_four b bs))))
    (le-ltb b 192 (omega arith)) (le-ltb b 224 l)
    ∙ ap (λ (t : Bool). cond t (of_three b bs) (of_four b bs)) (lt-ltb b 240 h)

code_of_four : (b : ℕ) (bs : List ℕ) → 240 ≤ b → code_at b bs ≡ of_four b bs
code_of_four b bs l =
    ap₂ (λ (s t : Bool). cond s 0 (cond t (of_two b bs) (cond (nat_lt b 240) (of_three b bs) (of_four b bs))))
    (le-ltb b 192 (omega arith)) (le-ltb b 224 (omega arith))
    ∙ ap (λ (t : Bool). cond t (of_three b bs) (of_four b bs)) (le-ltb b 240 l)

more_two : (b : ℕ) → b < 224 → more_of b ≡ 1
more_two b h = ap (λ (t : Bool). cond {A = ℕ} t 1 (cond (nat_lt b 240) 2 3)) (lt-ltb b 224 h)

more_three : (b : ℕ) → 224 ≤ b → b < 240 → more_of b ≡ 2
more_three b l h =
    ap₂ (λ (s t : Bool). cond {A = ℕ} s 1 (cond t 2 3)) (le-ltb b 224 l) (lt-ltb b 240 h)

more_four : (b : ℕ) → 240 ≤ b → more_of b ≡ 3
more_four b l =
    ap₂ (λ (s t : Bool). cond {A = ℕ} s 1 (cond t 2 3)) (le-ltb b 224 (omega arith)) (le-ltb b 240 l)

-- A byte that is no first byte of a code point of several bytes is written by itself.
pub low_written : (b : ℕ) (bs : List ℕ) → b < 192 → escapes (b ∷ bs) ≡ escaped b ++ escapes bs
low_written b bs h =
    ap (λ (n : ℕ). cond (is_hidden n) (numbered n ++ escapes_after (more_of b) bs) (escaped b ++ escapes bs))
    (code_low b bs h)

pub as_it_is : (b : ℕ) → (b ≡ 34 → ⊥) → (b ≡ 92 → ⊥) → 32 ≤ b → escaped b ≡ b ∷ []
as_it_is b e f h = by (b == 34) (b == 92) (b == 9) (b == 10) (b == 13) (b == 0) (ne_eqb b 34 e) (ne_eqb b 92 f)
    (ne_eqb b 9 (λ k. omega arith)) (ne_eqb b 10 (λ k. omega arith)) (ne_eqb b 13 (λ k. omega arith))
    (ne_eqb b 0 (λ k. omega arith)) where
      by : (u v w x y z : Bool) → u ≡ false → v ≡ false → w ≡ false → x ≡ false → y ≡ false → z ≡ false
          → cond u (92 ∷ 34 ∷ []) (cond v (92 ∷ 92 ∷ []) (cond w (92 ∷ 116 ∷ []) (cond x (92 ∷ 110 ∷ [])
          (cond y (92 ∷ 114 ∷ []) (cond z (92 ∷ 48 ∷ []) (b ∷ [])))))) ≡ b ∷ []
      by true v w x y z p q r s t o = absurd cc
      by false true w x y z p q r s t o = absurd cc
      by false false true x y z p q r s t o = absurd cc
      by false false false true y z p q r s t o = absurd cc
      by false false false false true z p q r s t o = absurd cc
      by false false false false false true p q r s t o = absurd cc
      by false false false false false false p q r s t o = refl

pub high : (b : ℕ) → 128 ≤ b → escaped b ≡ b ∷ []
high b h = as_it_is b (λ e. omega arith) (λ e. omega arith) (omega arith)

follows_written : (b : ℕ) (bs : List ℕ) → 128 ≤ b → b < 192 → escapes (b ∷ bs) ≡ b ∷ escapes bs
follows_written b bs l h = low_written b bs h ∙ ap (λ (l : List ℕ). l ++ escapes bs) (high b l)

-- ---- one code point

-- The code point `c` begins with the byte `b` and goes on with `bs`, of which `rest` is left after `c`.
front_written : (b : ℕ) (bs rest : List ℕ) (c : ℕ) → code_at b bs ≡ c → 128 ≤ c
    → escapes_after (more_of b) bs ≡ escapes rest → escaped b ++ escapes bs ≡ encode c ++ escapes rest
    → escapes (b ∷ bs) ≡ written c ++ escapes rest
front_written b bs rest c is l after bare =
    ap (λ (n : ℕ). cond (is_hidden n) (numbered n ++ escapes_after (more_of b) bs) (escaped b ++ escapes bs)) is
    ∙ by (is_hidden c)
    ∙ ap (λ (t : Bool). cond t (escaped c) (cond (is_hidden c) (numbered c) (encode c)) ++ escapes rest)
    (sym (le-ltb c 128 l)) where
      by : (t : Bool) → cond t (numbered c ++ escapes_after (more_of b) bs) (escaped b ++ escapes bs)
          ≡ cond t (numbered c) (encode c) ++ escapes rest
      by true = ap (λ (l : List ℕ). numbered c ++ l) after
      by false = bare

pub one_written : (c : ℕ) (rest : List ℕ) → Shape c → escapes (encode c ++ rest) ≡ written c ++ escapes rest
one_written c rest (of1 h e) =
    ap (λ (l : List ℕ). escapes (l ++ rest)) e
    ∙ low_written c rest (omega arith)
    ∙ ap (λ (t : Bool). cond t (escaped c) (cond (is_hidden c) (numbered c) (encode c)) ++ escapes rest)
    (sym (lt-ltb c 128 h))
one_written c rest (of2 a b big l h f s e) =
    let k = f.0 in
    let m = f.1 in
    let code : (a - 192) * 64 + b % 64 ≡ c = omega arith in
    ap (λ (l : List ℕ). escapes (l ++ rest)) e
    ∙ front_written a (b ∷ rest) rest c (code_of_two a (b ∷ rest) (omega arith) h ∙ code) big
    (ap (λ (n : ℕ). escapes_after n (b ∷ rest)) (more_two a h))
    (ap₂ (λ (x y : List ℕ). x ++ y) (high a (omega arith)) (follows_written b rest k m)
    ∙ ap (λ (l : List ℕ). l ++ escapes rest) (sym e))
one_written c rest (of3 a b d big l h f g s e) =
    let k = f.0 in
    let m = f.1 in
    let k2 = g.0 in
    let m2 = g.1 in
    let code : (a - 224) * 4096 + b % 64 * 64 + d % 64 ≡ c = omega arith in
    ap (λ (l : List ℕ). escapes (l ++ rest)) e
    ∙ front_written a (b ∷ d ∷ rest) rest c (code_of_three a (b ∷ d ∷ rest) l h ∙ code) (omega arith)
    (ap (λ (n : ℕ). escapes_after n (b ∷ d ∷ rest)) (more_three a l h))
    (ap₂ (λ (x y : List ℕ). x ++ y) (high a (omega arith)) (follows_written b (d ∷ rest) k m
    ∙ ap (λ (l : List ℕ). b ∷ l) (follows_written d rest k2 m2))
    ∙ ap (λ (l : List ℕ). l ++ escapes rest) (sym e))
one_written c rest (of4 a b d x big l h f g j s e) =
    let k = f.0 in
    let m = f.1 in
    let k2 = g.0 in
    let m2 = g.1 in
    let k3 = j.0 in
    let m3 = j.1 in
    let code : (a - 240) * 262144 + b % 64 * 4096 + d % 64 * 64 + x % 64 ≡ c = omega arith in
    ap (λ (l : List ℕ). escapes (l ++ rest)) e
    ∙ front_written a (b ∷ d ∷ x ∷ rest) rest c (code_of_four a (b ∷ d ∷ x ∷ rest) l ∙ code) (omega arith)
    (ap (λ (n : ℕ). escapes_after n (b ∷ d ∷ x ∷ rest)) (more_four a l))
    (ap₂ (λ (x y : List ℕ). x ++ y) (high a (omega arith)) (follows_written b (d ∷ x ∷ rest) k m
    ∙ ap (λ (l : List ℕ). b ∷ l) (follows_written d (x ∷ rest) k2 m2
    ∙ ap (λ (l : List ℕ). d ∷ l) (follows_written x rest k3 m3)))
    ∙ ap (λ (l : List ℕ). l ++ escapes rest) (sym e))

-- ---- all code points

pub points_then : (cs rest : List ℕ) → all_scalars cs ≡ true
    → escapes (encode_utf8_all cs ++ rest) ≡ all_written cs ++ escapes rest
points_then [] rest s = refl
points_then (c ∷ cs) rest s =
    let h = and_parts (scalar c) (all_scalars cs) s in
    ap escapes (append_assoc (encode c) (encode_utf8_all cs) rest)
    ∙ one_written c (encode_utf8_all cs ++ rest) (shape_of c h.0)
    ∙ ap (λ (l : List ℕ). written c ++ l) (points_then cs rest h.1)
    ∙ sym (append_assoc (written c) (all_written cs) (escapes rest))

-- ---- control characters

-- True if the code point `c` is a control character other than tab, newline and carriage return.
abbrev pub is_control_point : ℕ → Bool
is_control_point c = is_control c || is_from 128 159 c

no_or : (x : Bool) → (x || false) ≡ x
no_or true = refl
no_or false = refl

-- If a byte other than 194 comes first, it decides by itself, and then the other bytes decide.
byte_decides : (b : ℕ) (bs : List ℕ) → (b ≡ 194 → ⊥) → has_control (b ∷ bs) ≡ (is_control b || has_control bs)
byte_decides b [] e = sym (no_or (is_control b))
byte_decides b (c ∷ cs) e =
    ap (λ (t : Bool). (is_control b || (t && nat_le c 159)) || has_control (c ∷ cs)) (ne_eqb b 194 e)
    ∙ ap (λ (t : Bool). t || has_control (c ∷ cs)) (no_or (is_control b))

pub no_low_control : (b : ℕ) → 128 ≤ b → is_control b ≡ false
no_low_control b h = by (nat_le b 31) (b == 127) (lt-leb b 31 (omega arith)) (ne_eqb b 127 (λ e. omega arith)) where
  by : (x y : Bool) → x ≡ false → y ≡ false → ((x && not (b == 9 || (b == 10 || b == 13))) || y) ≡ false
  by true y e f = absurd cc
  by false y e f = f

byte_passes : (b : ℕ) (bs : List ℕ) → 128 ≤ b → (b ≡ 194 → ⊥) → has_control (b ∷ bs) ≡ has_control bs
byte_passes b bs h e = byte_decides b bs e ∙ ap (λ (t : Bool). t || has_control bs) (no_low_control b h)

no_point : (c : ℕ) → 160 ≤ c → is_control_point c ≡ false
no_point c h =
    ap₂ (λ (x y : Bool). x || (nat_le 128 c && y)) (no_low_control c (omega arith)) (lt-leb c 159 h)
    ∙ none (nat_le 128 c) where
      none : (x : Bool) → (false || (x && false)) ≡ false
      none true = refl
      none false = refl

-- The bytes `a` and `b` of a code point say whether it is a control character.
second : (c a b : ℕ) → 128 ≤ b → b < 192 → c + 12416 ≡ a * 64 + b → 128 ≤ c
    → (a == 194 && nat_le b 159) ≡ is_from 128 159 c
second c a b p q s big = by (a == 194) refl where
  by : (t : Bool) → (a == 194) ≡ t → (t && nat_le b 159) ≡ (nat_le 128 c && nat_le c 159)
  by true e =
      let same = eqb-true a 194 e in
      let is : b ≡ c = omega arith in
      ap₂ (λ (x : Bool) (n : ℕ). x && nat_le n 159) (sym (le-leb 128 c big)) is
  by false e =
      let other = eqb-false a 194 e in
      sym (ap₂ (λ (x y : Bool). x && y) (le-leb 128 c big) (lt-leb c 159 (omega arith)))

pub one_control : (c : ℕ) (rest : List ℕ) → Shape c
    → has_control (encode c ++ rest) ≡ (is_control_point c || has_control rest)
one_control c rest (of1 h e) =
    ap (λ (l : List ℕ). has_control (l ++ rest)) e
    ∙ byte_decides c rest (λ k. omega arith)
    ∙ ap (λ (t : Bool). t || has_control rest) (sym (no_or (is_control c)))
    ∙ ap (λ (t : Bool). (is_control c || (t && nat_le c 159)) || has_control rest) (sym (lt-leb 128 c h))
one_control c rest (of2 a b big l h f s e) =
    let p = f.0 in
    let q = f.1 in
    ap (λ (l : List ℕ). has_control (l ++ rest)) e
    ∙ ap (λ (t : Bool). (t || (a == 194 && nat_le b 159)) || has_control (b ∷ rest)) (no_low_control a (omega arith))
    ∙ ap₂ (λ (x y : Bool). x || y) (second c a b p q s big) (byte_passes b rest p (λ k. omega arith))
    ∙ ap (λ (t : Bool). (t || is_from 128 159 c) || has_control rest) (sym (no_low_control c big))
one_control c rest (of3 a b d big l h f g s e) =
    let p = f.0 in
    let q = f.1 in
    let p2 = g.0 in
    let q2 = g.1 in
    ap (λ (l : List ℕ). has_control (l ++ rest)) e
    ∙ byte_passes a (b ∷ d ∷ rest) (omega arith) (λ k. omega arith)
    ∙ byte_passes b (d ∷ rest) p (λ k. omega arith)
    ∙ byte_passes d rest p2 (λ k. omega arith)
    ∙ ap (λ (t : Bool). t || has_control rest) (sym (no_point c (omega arith)))
one_control c rest (of4 a b d x big l h f g j s e) =
    let p = f.0 in
    let q = f.1 in
    let p2 = g.0 in
    let q2 = g.1 in
    let p3 = j.0 in
    let q3 = j.1 in
    ap (λ (l : List ℕ). has_control (l ++ rest)) e
    ∙ byte_passes a (b ∷ d ∷ x ∷ rest) (omega arith) (λ k. omega arith)
    ∙ byte_passes b (d ∷ x ∷ rest) p (λ k. omega arith)
    ∙ byte_passes d (x ∷ rest) p2 (λ k. omega arith)
    ∙ byte_passes x rest p3 (λ k. omega arith)
    ∙ ap (λ (t : Bool). t || has_control rest) (sym (no_point c (omega arith)))
