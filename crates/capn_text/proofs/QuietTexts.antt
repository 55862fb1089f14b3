-- Lemmas for `ShownPlain`: what is written of a text has no newline.
use Rattle.std.proofs.Common.{◌≡◌, ℕ, zero, suc, ◌+◌, ◌/◌, ◌%◌, ◌<◌, ◌==◌, Bool, true, false, cond, List, [], ◌∷◌, ◌++◌}
use Rattle.std.proofs.Common.{refl, ap, ap₂, arith}
use Rattle.std.proofs.lemmas.Bool.{agree_below, agree_below_at}
use Rattle.capn_quoted.specs.Hidden.{digit, five_digits, without_zeros, hexadecimal, numbered}
use Rattle.capn_quoted.specs.Escapes.{escaped, code_at, more_of, hides, escapes_after, escapes}
use Rattle.capn_text.specs.Streams.{ended_lines}
use Rattle.capn_text.proofs.LineCounts.{lines_append}

quiet_both : (x y : List ℕ) → ended_lines x ≡ 0 → ended_lines y ≡ 0 → ended_lines (x ++ y) ≡ 0
quiet_both x y p q = let h = lines_append x y in omega arith

escaped_quiet : (b : ℕ) → ended_lines (escaped b) ≡ 0
escaped_quiet b = by (b == 34) (b == 92) (b == 9) (b == 10) (b == 13) (b == 0) refl where
  by : (u v x y z o : Bool) → (b == 10) ≡ y → ended_lines (cond u (92 ∷ 34 ∷ []) (cond v (92 ∷ 92 ∷ [])
      (cond x (92 ∷ 116 ∷ []) (cond y (92 ∷ 110 ∷ []) (cond z (92 ∷ 114 ∷ []) (cond o (92 ∷ 48 ∷ []) (b ∷ []))))))) ≡ 0
  by true v x y z o e = refl
  by false true x y z o e = refl
  by false false true y z o e = refl
  by false false false true z o e = refl
  by false false false false true o e = refl
  by false false false false false true e = refl
  by false false false false false false e = ap (λ (t : Bool). cond {A = ℕ} t 1 0 + 0) e

is_newline : ℕ → Bool
is_newline n = digit n == 10

never : ℕ → Bool
never n = false

no_newlines : agree_below is_newline never 16 ≡ true
unfolding is_newline never
no_newlines = refl

one_quiet : (n : ℕ) (ds : List ℕ) → n < 16 → ended_lines ds ≡ 0 → ended_lines (digit n ∷ ds) ≡ 0
unfolding is_newline never
one_quiet n ds h e =
    ap₂ (λ (b : Bool) (k : ℕ). cond {A = ℕ} b 1 0 + k) (agree_below_at is_newline never 16 n no_newlines h) e

zeros_quiet : (ds : List ℕ) → ended_lines ds ≡ 0 → ended_lines (without_zeros ds) ≡ 0
zeros_quiet [] e = refl
zeros_quiet (d ∷ ds) e = by (d == 48) (zeros_quiet ds (omega (arith, e))) where
  by : (b : Bool) → ended_lines (without_zeros ds) ≡ 0 → ended_lines (cond b (without_zeros ds) (d ∷ ds)) ≡ 0
  by true below = below
  by false below = e

numbered_quiet : (c : ℕ) → ended_lines (numbered c) ≡ 0
numbered_quiet c =
    let one = one_quiet (c % 16) [] (omega arith) refl in
    let two = one_quiet (c / 16 % 16) (digit (c % 16) ∷ []) (omega arith) one in
    let three = one_quiet (c / 256 % 16) (digit (c / 16 % 16) ∷ digit (c % 16) ∷ []) (omega arith) two in
    let four = one_quiet (c / 4096 % 16) (digit (c / 256 % 16) ∷ digit (c / 16 % 16) ∷ digit (c % 16) ∷ [])
    (omega arith) three in
    let five = one_quiet (c / 65536 % 16)
    (digit (c / 4096 % 16) ∷ digit (c / 256 % 16) ∷ digit (c / 16 % 16) ∷ digit (c % 16) ∷ []) (omega arith) four in
    quiet_both (92 ∷ 117 ∷ 123 ∷ []) (hexadecimal c ++ 125 ∷ []) refl
    (quiet_both (hexadecimal c) (125 ∷ []) (zeros_quiet (five_digits c) five) refl)

after_quiet : (k : ℕ) (xs : List ℕ) → ended_lines (escapes_after k xs) ≡ 0
after_quiet k [] = refl
after_quiet zero (b ∷ bs) = by (hides b bs) (after_quiet (more_of b) bs) (after_quiet zero bs) where
  by : (t : Bool) → ended_lines (escapes_after (more_of b) bs) ≡ 0 → ended_lines (escapes_after zero bs) ≡ 0
      → ended_lines (cond t (numbered (code_at b bs) ++ escapes_after (more_of b) bs)
      (escaped b ++ escapes_after zero bs)) ≡ 0
  by true others rest =
      quiet_both (numbered (code_at b bs)) (escapes_after (more_of b) bs) (numbered_quiet (code_at b bs)) others
  by false others rest = quiet_both (escaped b) (escapes_after zero bs) (escaped_quiet b) rest
after_quiet (suc k) (b ∷ bs) = after_quiet k bs

pub escapes_quiet : (xs : List ℕ) → ended_lines (escapes xs) ≡ 0
escapes_quiet xs = after_quiet 0 xs
