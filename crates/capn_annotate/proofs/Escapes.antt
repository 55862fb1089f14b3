-- Lemmas for `put_escapes`: an ASCII text is written byte by byte.
use Rattle.std.proofs.Common.{◌≡◌, ℕ, zero, ◌&&◌, ◌==◌, Bool, true, false, List, [], ◌∷◌, ◌++◌}
use Rattle.std.proofs.Common.{refl, arith, nat_le, nat_lt, suc, length, get_or}
use Rattle.std.proofs.lemmas.Bool.Decides.{nat_tests}
use Rattle.capn_quoted.specs.Texts.{ends_in_zero, is_ascii_text}
use Rattle.capn_quoted.specs.Escapes.{escaped, escapes}

-- If byte `i` is the last one, the bytes end in zero exactly if it is zero.
pub zero_at : (xs : List ℕ) (i : ℕ) → suc i ≡ length xs → ends_in_zero xs ≡ (get_or xs i 0 == 0)
zero_at [] i h = absurd (omega arith)
zero_at (b ∷ []) zero h = refl
zero_at (b ∷ []) (suc i) h = absurd (omega arith)
zero_at (b ∷ c ∷ cs) zero h = absurd (omega arith)
zero_at (b ∷ c ∷ cs) (suc i) h = zero_at (c ∷ cs) i (omega arith)

-- each byte is below 192
abbrev pub is_low : List ℕ → Bool
is_low [] = true
is_low (b ∷ bs) = nat_lt b 192 && is_low bs

low_step : (b : ℕ) (bs : List ℕ) (t : Bool) → nat_lt b 192 ≡ t → t ≡ true
    → escapes (b ∷ bs) ≡ escaped b ++ escapes bs
low_step b bs true e f = rw e refl
low_step b bs false e f = absurd cc

pub escapes_step : (b : ℕ) (bs : List ℕ) → is_low (b ∷ bs) ≡ true → escapes (b ∷ bs) ≡ escaped b ++ escapes bs
escapes_step b bs e = by (nat_lt b 192) refl e where
  by : (t : Bool) → nat_lt b 192 ≡ t → (t && is_low bs) ≡ true → escapes (b ∷ bs) ≡ escaped b ++ escapes bs
  by true f g = low_step b bs true f refl
  by false f g = absurd cc

pub ascii_low : (xs : List ℕ) → is_ascii_text xs ≡ true → is_low xs ≡ true
ascii_low [] e = refl
ascii_low (b ∷ []) e = grind (arith, nat_tests)
ascii_low (b ∷ c ∷ bs) e =
    by (nat_le 32 b) (nat_le b 126) (is_ascii_text (c ∷ bs)) refl refl e (ascii_low (c ∷ bs)) where
      by : (t u v : Bool) → nat_le b 126 ≡ u → is_ascii_text (c ∷ bs) ≡ v → ((t && u) && v) ≡ true
          → (is_ascii_text (c ∷ bs) ≡ true → is_low (c ∷ bs) ≡ true) → (nat_lt b 192 && is_low (c ∷ bs)) ≡ true
      by true true true f g h k =
          let a = k g in
          let l : nat_lt b 192 ≡ true = grind (arith, nat_tests) in
          rw (l, a) refl
      by true true false f g h k = absurd cc
      by true false v f g h k = absurd cc
      by false u v f g h k = absurd cc
