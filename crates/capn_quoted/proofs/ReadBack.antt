-- Lemmas for `quoted_texts`: what is written of a text is read as that text.
use Rattle.std.proofs.Common.{◌≡◌, ℕ, ◌+◌, ◌-◌, ◌*◌, ◌≤◌, ◌<◌, ◌==◌, ◌||◌, ◌&&◌, Bool, true, false, not, cond, List, []}
use Rattle.std.proofs.Common.{◌∷◌, ◌++◌, Option, Some, None, refl, sym, ap, ap₂, ◌∙◌, append_assoc, arith, nat_lt}
use Rattle.std.proofs.Common.{nat_le, inl, inr, ◌⊎◌}
use Rattle.std.proofs.lemmas.Bool.{lt-ltb, le-leb, leb-true, eqb-true, and_parts, and_from, agree_below, agree_below_at}
use lib.Utf8.{scalar, encode, scalar_cases}
use Rattle.capn_quoted.specs.Hidden.{is_from, is_hidden, begins_hidden, numbered, hexadecimal}
use Rattle.capn_quoted.specs.declared.stage.Stage.{Stage}
use Rattle.capn_quoted.specs.declared.stage.Stage.TheVariants as stages
use Rattle.capn_quoted.specs.Reading.{digit_value, follow, encoded, gives, preceded, after_some, read_from}

abbrev some : List ℕ → Option (List ℕ)
some xs = Some xs

pub none_before : (r : Option (List ℕ)) → preceded [] r ≡ r
none_before (Some xs) = refl
none_before None = refl

pub two_before : (x y : List ℕ) (r : Option (List ℕ)) → preceded x (preceded y r) ≡ preceded (x ++ y) r
two_before x y (Some xs) = ap some (sym (append_assoc x y xs))
two_before x y None = refl

-- If `s` follows the stage `t` by the byte `c`, the bytes are read on from `s`.
pub on : (t s : Stage) (c : ℕ) (cs : List ℕ) → follow t c ≡ Some s
    → read_from t (c ∷ cs) ≡ preceded (gives t c) (read_from s cs)
on t s c cs e = ap (λ (o : Option Stage). after_some o None (λ u. preceded (gives t c) (read_from u cs))) e

-- ---- the digits of a number

-- The number after the digits `ds`, which follow the number `n`. `None` if one of them is wrong.
abbrev number_after : ℕ → List ℕ → Option ℕ
number_after n [] = Some n
number_after n (d ∷ ds) = cond (not (d == 125) && (nat_lt (digit_value d) 16 && begins_hidden (n * 16 + digit_value d)))
    (number_after (n * 16 + digit_value d) ds) None

digits_on : (n m : ℕ) (ds t : List ℕ) → number_after n ds ≡ Some m
    → read_from (stages.Number n) (ds ++ t) ≡ read_from (stages.Number m) t
digits_on n m [] t e = let k : n ≡ m = cc in ap (λ (j : ℕ). read_from (stages.Number j) t) k
digits_on n m (d ∷ ds) t e =
    by (d == 125) (nat_lt (digit_value d) 16 && begins_hidden (n * 16 + digit_value d)) refl refl
    (digits_on (n * 16 + digit_value d) m ds t) e where
      by : (x y : Bool) → (d == 125) ≡ x → (nat_lt (digit_value d) 16 && begins_hidden (n * 16 + digit_value d)) ≡ y
          → (number_after (n * 16 + digit_value d) ds ≡ Some m
          → read_from (stages.Number (n * 16 + digit_value d)) (ds ++ t) ≡ read_from (stages.Number m) t)
          → cond (not x && y) (number_after (n * 16 + digit_value d) ds) None ≡ Some m
          → read_from (stages.Number n) (d ∷ (ds ++ t)) ≡ read_from (stages.Number m) t
      by true y f g below h = absurd cc
      by false false f g below h = absurd cc
      by false true f g below h =
          on (stages.Number n) (stages.Number (n * 16 + digit_value d)) d (ds ++ t)
          (ap₂ (λ (x y : Bool). cond x (cond (is_hidden n) (Some (stages.Next true)) None)
          (cond y (Some (stages.Number (n * 16 + digit_value d))) None)) f g)
          ∙ ap (λ (b : Bool). preceded (cond b (encoded n) [])
          (read_from (stages.Number (n * 16 + digit_value d)) (ds ++ t))) f
          ∙ none_before (read_from (stages.Number (n * 16 + digit_value d)) (ds ++ t))
          ∙ below h

is_number : ℕ → Option ℕ → Bool
is_number n (Some m) = m == n
is_number n None = false

reaches : ℕ → Bool
reaches c = is_number c (number_after 0 (hexadecimal c)) && (is_hidden c && (scalar c && nat_le 160 c))

always : ℕ → Bool
always c = true

reaches_from : ℕ → ℕ → Bool
reaches_from low c = reaches (low + c)

reached_by : (c : ℕ) (r : Option ℕ) → is_number c r ≡ true → r ≡ Some c
unfolding is_number
reached_by c (Some m) e = ap (λ (k : ℕ). Some k) (eqb-true m c e)
reached_by c None e = absurd cc

in_range : (low high c : ℕ) → is_from low high c ≡ true → (low ≤ c) × (c ≤ high)
in_range low high c e =
    let h = and_parts (nat_le low c) (nat_le c high) e in (leb-true low c h.0, leb-true c high h.1)

range_reached : (low n c : ℕ) → agree_below (reaches_from low) always n ≡ true → low ≤ c → c < low + n
    → reaches c ≡ true
unfolding reaches_from always
range_reached low n c e l h =
    let is : low + (c - low) ≡ c = omega arith in
    sym (ap reaches is) ∙ agree_below_at (reaches_from low) always n (c - low) e (omega arith)

soft : reaches 0xad ≡ true
unfolding reaches is_number
soft = refl

arabic : reaches 0x61c ≡ true
unfolding reaches is_number
arabic = refl

vowel : reaches 0x180e ≡ true
unfolding reaches is_number
vowel = refl

spaces : agree_below (reaches_from 0x200b) always 5 ≡ true
unfolding reaches_from reaches is_number always
spaces = refl

turns : agree_below (reaches_from 0x2028) always 7 ≡ true
unfolding reaches_from reaches is_number always
turns = refl

joiners : agree_below (reaches_from 0x2060) always 16 ≡ true
unfolding reaches_from reaches is_number always
joiners = refl

mark : reaches 0xfeff ≡ true
unfolding reaches is_number
mark = refl

notes : agree_below (reaches_from 0xfff9) always 3 ≡ true
unfolding reaches_from reaches is_number always
notes = refl

tags : agree_below (reaches_from 0xe0000) always 128 ≡ true
unfolding reaches_from reaches is_number always
tags = refl

either : (x y : Bool) → (x || y) ≡ true → (x ≡ true) ⊎ (y ≡ true)
either true y e = inl refl
either false y e = inr e

-- A hidden code point is reached by the digits of its number.
hidden_reached : (c : ℕ) → is_hidden c ≡ true → reaches c ≡ true
hidden_reached c e = first (either _ _ e) where
  ninth : is_from 0xe0000 0xe007f c ≡ true → reaches c ≡ true
  ninth h = let r = in_range 0xe0000 0xe007f c h in range_reached 0xe0000 128 c tags r.0 (omega arith)

  eighth : (is_from 0xfff9 0xfffb c ≡ true) ⊎ (is_from 0xe0000 0xe007f c ≡ true) → reaches c ≡ true
  eighth (inl h) = let r = in_range 0xfff9 0xfffb c h in range_reached 0xfff9 3 c notes r.0 (omega arith)
  eighth (inr h) = ninth h

  seventh : ((c == 0xfeff) ≡ true) ⊎ ((is_from 0xfff9 0xfffb c || is_from 0xe0000 0xe007f c) ≡ true) → reaches c ≡ true
  seventh (inl h) = ap reaches (eqb-true c 0xfeff h) ∙ mark
  seventh (inr h) = eighth (either _ _ h)

  sixth : (is_from 0x2060 0x206f c ≡ true)
      ⊎ ((c == 0xfeff || (is_from 0xfff9 0xfffb c || is_from 0xe0000 0xe007f c)) ≡ true) → reaches c ≡ true
  sixth (inl h) = let r = in_range 0x2060 0x206f c h in range_reached 0x2060 16 c joiners r.0 (omega arith)
  sixth (inr h) = seventh (either _ _ h)

  fifth : (is_from 0x2028 0x202e c ≡ true) ⊎ ((is_from 0x2060 0x206f c
      || (c == 0xfeff || (is_from 0xfff9 0xfffb c || is_from 0xe0000 0xe007f c))) ≡ true) → reaches c ≡ true
  fifth (inl h) = let r = in_range 0x2028 0x202e c h in range_reached 0x2028 7 c turns r.0 (omega arith)
  fifth (inr h) = sixth (either _ _ h)

  fourth : (is_from 0x200b 0x200f c ≡ true) ⊎ ((is_from 0x2028 0x202e c || (is_from 0x2060 0x206f c
      || (c == 0xfeff || (is_from 0xfff9 0xfffb c || is_from 0xe0000 0xe007f c)))) ≡ true) → reaches c ≡ true
  fourth (inl h) = let r = in_range 0x200b 0x200f c h in range_reached 0x200b 5 c spaces r.0 (omega arith)
  fourth (inr h) = fifth (either _ _ h)

  third : ((c == 0x180e) ≡ true) ⊎ ((is_from 0x200b 0x200f c || (is_from 0x2028 0x202e c || (is_from 0x2060 0x206f c
      || (c == 0xfeff || (is_from 0xfff9 0xfffb c || is_from 0xe0000 0xe007f c))))) ≡ true) → reaches c ≡ true
  third (inl h) = ap reaches (eqb-true c 0x180e h) ∙ vowel
  third (inr h) = fourth (either _ _ h)

  second : ((c == 0x61c) ≡ true) ⊎ ((c == 0x180e || (is_from 0x200b 0x200f c || (is_from 0x2028 0x202e c
      || (is_from 0x2060 0x206f c || (c == 0xfeff || (is_from 0xfff9 0xfffb c || is_from 0xe0000 0xe007f c)))))) ≡ true)
      → reaches c ≡ true
  second (inl h) = ap reaches (eqb-true c 0x61c h) ∙ arabic
  second (inr h) = third (either _ _ h)

  first : ((c == 0xad) ≡ true) ⊎ ((c == 0x61c || (c == 0x180e || (is_from 0x200b 0x200f c || (is_from 0x2028 0x202e c
      || (is_from 0x2060 0x206f c || (c == 0xfeff || (is_from 0xfff9 0xfffb c || is_from 0xe0000 0xe007f c)))))))
      ≡ true)
      → reaches c ≡ true
  first (inl h) = ap reaches (eqb-true c 0xad h) ∙ soft
  first (inr h) = second (either _ _ h)

pub encoded_scalar : (n : ℕ) → scalar n ≡ true → encoded n ≡ encode n
encoded_scalar n s = by (scalar_cases n s) where
  by : (n < 55296) ⊎ ((57344 ≤ n) × (n < 1114112)) → encoded n ≡ encode n
  by (inl h) = ap (λ (t : Bool). cond (t || is_from 57344 1114111 n) (encode n) []) (lt-ltb n 55296 h)
  by (inr h) = up (nat_lt n 55296) (and_from _ _ (le-leb 57344 n h.0) (le-leb n 1114111 (omega (arith, h.1)))) where
    up : (x : Bool) → is_from 57344 1114111 n ≡ true → cond (x || is_from 57344 1114111 n) (encode n) [] ≡ encode n
    up true r = refl
    up false r = ap (λ (t : Bool). cond t (encode n) []) r

-- A hidden code point is one, and is at least U+00A0.
pub hidden_facts : (c : ℕ) → is_hidden c ≡ true → (scalar c ≡ true) × (160 ≤ c)
unfolding reaches
hidden_facts c e =
    let h = and_parts (is_number c (number_after 0 (hexadecimal c))) (is_hidden c && (scalar c && nat_le 160 c))
    (hidden_reached c e) in
    let k = and_parts (is_hidden c) (scalar c && nat_le 160 c) h.1 in
    let m = and_parts (scalar c) (nat_le 160 c) k.1 in
    (m.0, leb-true 160 c m.1)

-- A hidden code point, written as its number, is read as the code point.
pub numbered_read : (w : Bool) (c : ℕ) (t : List ℕ) → is_hidden c ≡ true
    → read_from (stages.Next w) (numbered c ++ t) ≡ preceded (encode c) (read_from (stages.Next true) t)
unfolding reaches
numbered_read w c t e =
    let h = and_parts (is_number c (number_after 0 (hexadecimal c))) (is_hidden c && (scalar c && nat_le 160 c))
    (hidden_reached c e) in
    let r = read_from (stages.Next true) t in
    ap (λ (l : List ℕ). read_from (stages.Next w) (92 ∷ 117 ∷ 123 ∷ l)) (append_assoc (hexadecimal c) (125 ∷ []) t)
    ∙ none_before _ ∙ none_before _ ∙ none_before _
    ∙ digits_on 0 c (hexadecimal c) (125 ∷ t) (reached_by c (number_after 0 (hexadecimal c)) h.0)
    ∙ on (stages.Number c) (stages.Next true) 125 t (ap (λ (b : Bool). cond b (Some (stages.Next true)) None) e)
    ∙ ap (λ (l : List ℕ). preceded l r) (encoded_scalar c (hidden_facts c e).0)
