-- Lemmas for `quoted_texts`: a number that is read in hexadecimal digits is written with these digits.
use Rattle.std.proofs.Common.{◌≡◌, ℕ, ◌+◌, ◌-◌, ◌*◌, ◌/◌, ◌%◌, ◌<◌, ◌==◌, ◌&&◌, Bool, true, false, cond, List, []}
use Rattle.std.proofs.Common.{◌∷◌, ◌++◌, length, Some, None, refl, sym, ap, ap₂, ◌∙◌, append_assoc, arith, nat_lt}
use Rattle.std.proofs.Common.{nat_le, inl, inr, ◌⊎◌}
use Rattle.std.proofs.lemmas.Bool.{lt-ltb, ltb-true, ne_eqb, leb-true, eqb-true, and_parts, cases_eq, agree_below}
use Rattle.std.proofs.lemmas.Bool.{agree_below_at}
use Rattle.capn_quoted.specs.Hidden.{is_from, is_hidden, begins_hidden, hexadecimal, digit, five_digits, without_zeros}
use Rattle.capn_quoted.specs.declared.stage.Stage.TheVariants as stages
use Rattle.capn_quoted.specs.Reading.{digit_value, encoded, preceded, after_some, read_from}
use Rattle.capn_quoted.proofs.Taken.{some, split_read}

digit_is : ℕ → Bool
digit_is c = nat_lt (digit_value c) 16 && (digit (digit_value c) == c)

is_digit : ℕ → Bool
is_digit c = nat_lt (digit_value c) 16

all_digits : agree_below digit_is is_digit 103 ≡ true
unfolding digit_is is_digit
all_digits = refl

-- A byte that is a digit is the digit of its value.
digit_back : (c : ℕ) → digit_value c < 16 → digit (digit_value c) ≡ c
unfolding digit_is is_digit
digit_back c h = by (cases (is_from 48 57 c) (is_from 97 102 c) refl refl) where
  cases : (x y : Bool) → is_from 48 57 c ≡ x → is_from 97 102 c ≡ y → c < 103
  cases true y e f =
      let m = leb-true c 57 (and_parts (nat_le 48 c) (nat_le c 57) e).1 in omega arith
  cases false true e f =
      let m = leb-true c 102 (and_parts (nat_le 97 c) (nat_le c 102) f).1 in omega arith
  cases false false e f =
      let v : digit_value c ≡ 16 =
      ap₂ (λ (x y : Bool). cond x (c - 48) (cond y (c - 87) 16)) e f in
      absurd (omega arith)

  by : c < 103 → digit (digit_value c) ≡ c
  by l =
      let e = agree_below_at digit_is is_digit 103 c all_digits l in
      eqb-true (digit (digit_value c)) c (and_parts (nat_lt (digit_value c) 16) (digit (digit_value c) == c)
      (e ∙ lt-ltb (digit_value c) 16 h)).1

-- A digit other than zero stays at the end.
stays : (xs : List ℕ) (y : ℕ) → (y == 48) ≡ false → without_zeros (xs ++ y ∷ []) ≡ without_zeros xs ++ y ∷ []
stays [] y e = ap (λ (b : Bool). cond b (without_zeros []) (y ∷ [])) e
stays (x ∷ xs) y e = by (x == 48) (stays xs y e) where
  by : (b : Bool) → without_zeros (xs ++ y ∷ []) ≡ without_zeros xs ++ y ∷ []
      → cond b (without_zeros (xs ++ y ∷ [])) (x ∷ (xs ++ y ∷ [])) ≡ cond b (without_zeros xs) (x ∷ xs) ++ y ∷ []
  by true below = below
  by false below = refl

-- After a digit other than zero, each digit stays.
stays_after : (xs : List ℕ) (y : ℕ) → (without_zeros xs ≡ [] → ⊥)
    → without_zeros (xs ++ y ∷ []) ≡ without_zeros xs ++ y ∷ []
stays_after [] y n = absurd (n refl)
stays_after (x ∷ xs) y n = by (x == 48) (stays_after xs y) n where
  by : (b : Bool)
      → ((without_zeros xs ≡ [] → ⊥) → without_zeros (xs ++ y ∷ []) ≡ without_zeros xs ++ y ∷ [])
      → (cond b (without_zeros xs) (x ∷ xs) ≡ [] → ⊥)
      → cond b (without_zeros (xs ++ y ∷ [])) (x ∷ (xs ++ y ∷ [])) ≡ cond b (without_zeros xs) (x ∷ xs) ++ y ∷ []
  by true below k = below k
  by false below k = refl

is_zero_digit : ℕ → Bool
is_zero_digit n = digit n == 48

is_zero : ℕ → Bool
is_zero n = n == 0

zero_digits : agree_below is_zero_digit is_zero 16 ≡ true
unfolding is_zero_digit is_zero
zero_digits = refl

zero_digit : (n : ℕ) → n < 16 → (digit n == 48) ≡ (n == 0)
unfolding is_zero_digit is_zero
zero_digit n h = agree_below_at is_zero_digit is_zero 16 n zero_digits h

first_zero : (x : ℕ) (xs : List ℕ) → without_zeros (x ∷ xs) ≡ [] → ((x == 48) ≡ true) × (without_zeros xs ≡ [])
first_zero x xs e = by (x == 48) refl e where
  by : (b : Bool) → (x == 48) ≡ b → cond b (without_zeros xs) (x ∷ xs) ≡ []
      → ((x == 48) ≡ true) × (without_zeros xs ≡ [])
  by true f h = (f, h)
  by false f h = absurd cc

-- The last four of the five digits of `m`.
abbrev four_digits : ℕ → List ℕ
four_digits m = digit (m / 4096 % 16) ∷ digit (m / 256 % 16) ∷ digit (m / 16 % 16) ∷ digit (m % 16) ∷ []

some_digit : (m : ℕ) → m < 65536 → 0 < m → without_zeros (four_digits m) ≡ [] → ⊥
some_digit m h l e =
    let a = first_zero (digit (m / 4096 % 16)) (digit (m / 256 % 16) ∷ digit (m / 16 % 16) ∷ digit (m % 16) ∷ []) e in
    let b = first_zero (digit (m / 256 % 16)) (digit (m / 16 % 16) ∷ digit (m % 16) ∷ []) a.1 in
    let c = first_zero (digit (m / 16 % 16)) (digit (m % 16) ∷ []) b.1 in
    let d = first_zero (digit (m % 16)) [] c.1 in
    let k1 = eqb-true (m / 4096 % 16) 0 (sym (zero_digit (m / 4096 % 16) (omega arith)) ∙ a.0) in
    let k2 = eqb-true (m / 256 % 16) 0 (sym (zero_digit (m / 256 % 16) (omega arith)) ∙ b.0) in
    let k3 = eqb-true (m / 16 % 16) 0 (sym (zero_digit (m / 16 % 16) (omega arith)) ∙ c.0) in
    let k4 = eqb-true (m % 16) 0 (sym (zero_digit (m % 16) (omega arith)) ∙ d.0) in
    omega arith

last_four : (m : ℕ) → m < 65536 → hexadecimal m ≡ without_zeros (four_digits m)
last_four m h =
    let z : m / 65536 % 16 ≡ 0 = omega arith in
    ap (λ (n : ℕ). without_zeros (digit n ∷ four_digits m)) z

five_are : (m d : ℕ) → m < 65536 → d < 16 → five_digits (m * 16 + d) ≡ four_digits m ++ digit d ∷ []
five_are m d h l =
    let a : (m * 16 + d) / 65536 % 16 ≡ m / 4096 % 16 = omega arith in
    let b : (m * 16 + d) / 4096 % 16 ≡ m / 256 % 16 = omega arith in
    let c : (m * 16 + d) / 256 % 16 ≡ m / 16 % 16 = omega arith in
    let e : (m * 16 + d) / 16 % 16 ≡ m % 16 = omega arith in
    let f : (m * 16 + d) % 16 ≡ d = omega arith in
    ap₂ (λ (x y : ℕ). digit x ∷ digit y ∷ digit ((m * 16 + d) / 256 % 16) ∷ digit ((m * 16 + d) / 16 % 16)
    ∷ digit ((m * 16 + d) % 16) ∷ []) a b
    ∙ ap₂ (λ (x y : ℕ). digit (m / 4096 % 16) ∷ digit (m / 256 % 16) ∷ digit x ∷ digit y
    ∷ digit ((m * 16 + d) % 16) ∷ []) c e
    ∙ ap (λ (x : ℕ). digit (m / 4096 % 16) ∷ digit (m / 256 % 16) ∷ digit (m / 16 % 16) ∷ digit (m % 16)
    ∷ digit x ∷ []) f

-- One digit more.
digit_more : (m d : ℕ) → m < 65536 → d < 16 → 0 < m + d → hexadecimal (m * 16 + d) ≡ hexadecimal m ++ digit d ∷ []
digit_more m d h l some =
    ap without_zeros (five_are m d h l)
    ∙ by (cases_eq d 0)
    ∙ ap (λ (x : List ℕ). x ++ digit d ∷ []) (sym (last_four m h)) where
      by : (d ≡ 0) ⊎ (d ≡ 0 → ⊥)
          → without_zeros (four_digits m ++ digit d ∷ []) ≡ without_zeros (four_digits m) ++ digit d ∷ []
      by (inl z) = stays_after (four_digits m) (digit d) (some_digit m h (omega arith))
      by (inr n) = stays (four_digits m) (digit d) (zero_digit d l ∙ ne_eqb d 0 n)

-- The digits `t` after those of the number `m` are read as a hidden code point, and then `rest` as `zs`.
pub record IsNumbered (n m : ℕ) (t ys : List ℕ) : Type 0 where
  pub code : ℕ
  pub hidden : is_hidden code ≡ true
  pub rest : List ℕ
  pub bytes : List ℕ
  pub text_is : hexadecimal m ++ t ≡ hexadecimal code ++ 125 ∷ rest
  pub bytes_are : ys ≡ encoded code ++ bytes
  pub goes_on : read_from (stages.Next true) rest ≡ Some bytes
  pub short : length rest < n

pub number_taken : (n m : ℕ) (t ys : List ℕ) → length t < n → read_from (stages.Number m) t ≡ Some ys
    → IsNumbered n m t ys
number_taken n m [] ys l e = absurd cc
number_taken n m (c ∷ cs) ys l e =
    by (c == 125) (is_hidden m) (nat_lt (digit_value c) 16) (begins_hidden (m * 16 + digit_value c)) refl refl refl refl
    (number_taken n (m * 16 + digit_value c) cs) e where
      by : (x y z o : Bool) → (c == 125) ≡ x → is_hidden m ≡ y → nat_lt (digit_value c) 16 ≡ z
          → begins_hidden (m * 16 + digit_value c) ≡ o
          → ((zs : List ℕ) → length cs < n → read_from (stages.Number (m * 16 + digit_value c)) cs ≡ Some zs
          → IsNumbered n (m * 16 + digit_value c) cs zs)
          → after_some (cond x (cond y (Some (stages.Next true)) None)
          (cond (z && o) (Some (stages.Number (m * 16 + digit_value c))) None)) None
          (λ u. preceded (cond x (encoded m) []) (read_from u cs)) ≡ Some ys → IsNumbered n m (c ∷ cs) ys
      by true false z o f g h i on k = absurd cc
      by true true z o f g h i on k =
          let r = split_read (encoded m) (read_from (stages.Next true) cs) ys k in
          record {
            code = m;
            hidden = g;
            rest = cs;
            bytes = r.0;
            text_is = ap (λ (j : ℕ). hexadecimal m ++ j ∷ cs) (eqb-true c 125 f);
            bytes_are = r.2;
            goes_on = r.1;
            short = omega arith;
          }
      by false y false o f g h i on k = absurd cc
      by false y true false f g h i on k = absurd cc
      by false y true true f g h i on k =
          let r = split_read [] (read_from (stages.Number (m * 16 + digit_value c)) cs) ys k in
          let below = on r.0 (omega arith) r.1 in
          let small = ltb-true (digit_value c) 16 h in
          let below_top = and_parts (nat_lt (m * 16 + digit_value c) 1048576) _ i in
          let bound = ltb-true (m * 16 + digit_value c) 1048576 below_top.0 in
          let one : hexadecimal (m * 16 + digit_value c) ≡ hexadecimal m ++ c ∷ [] =
          digit_more m (digit_value c) (omega arith) small (some m (digit_value c) i)
          ∙ ap (λ (j : ℕ). hexadecimal m ++ j ∷ []) (digit_back c small) in
          record {
            code = below.code;
            hidden = below.hidden;
            rest = below.rest;
            bytes = below.bytes;
            text_is = sym (append_assoc (hexadecimal m) (c ∷ []) cs)
                ∙ ap (λ (x : List ℕ). x ++ cs) (sym one) ∙ below.text_is;
            bytes_are = r.2 ∙ below.bytes_are;
            goes_on = below.goes_on;
            short = below.short;
          } where
            some : (m d : ℕ) → begins_hidden (m * 16 + d) ≡ true → 0 < m + d
            some m d e = elim (cases_eq (m + d) 0) [
              | inl z ↦
                  let k : m * 16 + d ≡ 0 = omega arith in
                  let no : begins_hidden 0 ≡ true = sym (ap begins_hidden k) ∙ e in
                  absurd cc
              | inr s ↦ omega arith
            ]
