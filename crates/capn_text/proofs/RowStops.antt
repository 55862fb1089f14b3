-- Lemmas for `stop_in_bits` and `stop_in_bytes`: lines of digits that no bytes can complete, and lines of digits that
-- some bytes can complete.
use Rattle.std.proofs.Common.{◌≡◌, ◌+◌, ◌-◌, ◌*◌, ◌≤◌, ◌<◌, ◌==◌, ◌&&◌, ◌||◌, ℕ, zero, suc, Bool, true, false, cond}
use Rattle.std.proofs.Common.{List, [], ◌∷◌, ◌++◌, length, replicate, Option, Some, None}
use Rattle.std.proofs.Common.{refl, sym, ap, subst, ◌∙◌, append_assoc, arith, inl, inr}
use Rattle.std.specs.Prelude.{nat_le, nat_lt}
use Rattle.std.proofs.lemmas.Bool.{cases_lt, ne_eqb, ltb-true, ltb-false}
use Rattle.std.proofs.lemmas.List.{append-nil, length-append, length-replicate}
use Rattle.capn_text.specs.Streams.{few}
use Rattle.capn_text.specs.inner.Stops.{LineFails, IsLineLost, stop_in}
use Rattle.capn_text.specs.inner.Tokens.{◌>>=◌, strip, indent_at, nibble, byte_at, bit_at, many, row_line_at}
use Rattle.capn_text.specs.inner.Tokens.{are_all, is_hex, is_bit}
use Rattle.capn_text.specs.declared.fault.Stop.TheVariants as stops
use Rattle.capn_text.proofs.Steps.{bind_some, some_is}
use Rattle.capn_text.proofs.TokenText.{indent_takes, indent_again}
use Rattle.capn_text.proofs.LostLines.{split}

both_true : (a b : Bool) → (a && b) ≡ true → (a ≡ true) × (b ≡ true)
both_true true true e = (refl, refl)
both_true true false e = absurd cc
both_true false b e = absurd cc

are_both : (a b : Bool) → a ≡ true → b ≡ true → (a && b) ≡ true
are_both true true p q = refl
are_both true false p q = absurd cc
are_both false b p q = absurd cc

all_both : (is : ℕ → Bool) (x y : List ℕ) → are_all is x ≡ true → are_all is y ≡ true → are_all is (x ++ y) ≡ true
all_both is [] y p q = q
all_both is (c ∷ cs) y p q =
    let h = both_true (is c) (are_all is cs) p in
    are_both (is c) (are_all is (cs ++ y)) h.0 (all_both is cs y h.1 q)

zeros : (is : ℕ → Bool) → is 48 ≡ true → (n : ℕ) → are_all is (replicate n 48) ≡ true
zeros is p zero = refl
zeros is p (suc n) = are_both (is 48) (are_all is (replicate n 48)) p (zeros is p n)

newline_by : (b : Bool) (x y r : List ℕ) → cond b (Some y) None ≡ Some r → cond b (Some x) None ≡ Some x
newline_by true x y r e = refl
newline_by false x y r e = absurd cc

newline : (c : ℕ) (cs z r : List ℕ) → strip (10 ∷ []) ((c ∷ cs) ++ z) ≡ Some r → strip (10 ∷ []) (c ∷ cs) ≡ Some cs
newline c cs z r e = newline_by (10 == c) cs (cs ++ z) r e

some_bytes : (u z r : List ℕ) → 0 < length u → strip (10 ∷ []) (u ++ z) ≡ Some r
    → (v : List ℕ) × (strip (10 ∷ []) u ≡ Some v)
some_bytes [] z r more e = absurd (omega arith)
some_bytes (c ∷ cs) z r more e = (cs, newline c cs z r e)

-- ---- one digit, or two

abbrev bit_from : Bool → Bool → List ℕ → Option (Bool × List ℕ)
bit_from a b cs = cond a (Some (true, cs)) (cond b (Some (false, cs)) None)

abbrev pair_from : Option ℕ → Option ℕ → List ℕ → Option (ℕ × List ℕ)
pair_from p q rest = p >>= λ a. q >>= λ b. Some (a * 16 + b, rest)

bit_by : (a b : Bool) (cs : List ℕ) → (a || b) ≡ true
    → (x : Bool) × (bit_from a b cs ≡ Some (x, cs))
bit_by true b cs e = (true, refl)
bit_by false true cs e = (false, refl)
bit_by false false cs e = absurd cc

bit_read_by : (a b : Bool) (cs : List ℕ) (y : Bool × List ℕ)
    → bit_from a b cs ≡ Some y → ((a || b) ≡ true) × (y.1 ≡ cs)
    × ((z : List ℕ) → bit_from a b z ≡ Some (y.0, z))
bit_read_by true b cs y e =
    let p = some_is (true, cs) y e in
    subst (λ (y : Bool × List ℕ). (true ≡ true) × (y.1 ≡ cs) × ((z : List ℕ) → bit_from true b z ≡ Some (y.0, z))) p
    (refl, refl, λ z. refl)
bit_read_by false true cs y e =
    let p = some_is (false, cs) y e in
    subst (λ (y : Bool × List ℕ). (true ≡ true) × (y.1 ≡ cs) × ((z : List ℕ) → bit_from false true z ≡ Some (y.0, z))) p
    (refl, refl, λ z. refl)
bit_read_by false false cs y e = absurd cc

nibble_by : (a b : Bool) (x y : ℕ) → (a || b) ≡ true → (n : ℕ) × (cond a (Some x) (cond b (Some y) None) ≡ Some n)
nibble_by true b x y e = (x, refl)
nibble_by false true x y e = (y, refl)
nibble_by false false x y e = absurd cc

nibble_is_by : (a b : Bool) (x y n : ℕ) → cond a (Some x) (cond b (Some y) None) ≡ Some n → (a || b) ≡ true
nibble_is_by true b x y n e = refl
nibble_is_by false true x y n e = refl
nibble_is_by false false x y n e = absurd cc

nibble_of : (c : ℕ) → is_hex c ≡ true → (n : ℕ) × (nibble c ≡ Some n)
nibble_of c e = nibble_by (nat_le 48 c && nat_le c 57) (nat_le 97 c && nat_le c 102) (c - 48) (c - 87) e

nibble_is : (c n : ℕ) → nibble c ≡ Some n → is_hex c ≡ true
nibble_is c n e = nibble_is_by (nat_le 48 c && nat_le c 57) (nat_le 97 c && nat_le c 102) (c - 48) (c - 87) n e

pair_of : (p q : Option ℕ) (rest : List ℕ) (a b : ℕ) → p ≡ Some a → q ≡ Some b
    → pair_from p q rest ≡ Some (a * 16 + b, rest)
pair_of p q rest a b e f =
    ap (λ (p : Option ℕ). pair_from p q rest) e ∙ ap (λ (q : Option ℕ). pair_from (Some a) q rest) f

byte_one : (c d : ℕ) (rest : List ℕ) → is_hex c ≡ true → is_hex d ≡ true
    → (x : ℕ) × (byte_at (c ∷ d ∷ rest) ≡ Some (x, rest))
byte_one c d rest p q =
    let a = nibble_of c p in
    let b = nibble_of d q in
    (a.0 * 16 + b.0, pair_of (nibble c) (nibble d) rest a.0 b.0 a.1 b.1)

byte_read : (c d : ℕ) (rest : List ℕ) (y : ℕ × List ℕ) → byte_at (c ∷ d ∷ rest) ≡ Some y
    → (is_hex c ≡ true) × (is_hex d ≡ true) × (y.1 ≡ rest) × ((z : List ℕ) → byte_at (c ∷ d ∷ z) ≡ Some (y.0, z))
byte_read c d rest y e =
    let a = bind_some (nibble c) (λ a. nibble d >>= λ b. Some (a * 16 + b, rest)) y e in
    let b = bind_some (nibble d) (λ b. Some (a.0 * 16 + b, rest)) y a.2 in
    let p = some_is (a.0 * 16 + b.0, rest) y b.2 in (
      nibble_is c a.0 a.1,
      nibble_is d b.0 b.1,
      sym (ap (λ (y : ℕ × List ℕ). y.1) p),
      λ z. pair_of (nibble c) (nibble d) z a.0 b.0 a.1 b.1 ∙ ap (λ (y : ℕ × List ℕ). Some (y.0, z)) p,
    )

-- ---- the digits of a line

module _ {X : Type 0} (one : List ℕ → Option (X × List ℕ)) (level : ℕ) where
  abbrev within : ℕ → List ℕ → Option (List X × List ℕ)
  within n l = many one (suc n) l >>= λ ys. strip (10 ∷ []) ys.1 >>= λ r. Some (ys.0, r)

  some_row : (n : ℕ) (t : List ℕ) → row_line_at one level (suc n) t ≡ (indent_at level t >>= within n)
  unfolding row_line_at
  some_row n t = ap (λ b. cond b (Some ([], t)) (indent_at level t >>= within n)) (ne_eqb (suc n) 0 (λ e. omega arith))

  in_row : (n : ℕ) (t digits : List ℕ) → indent_at level t ≡ Some digits
      → row_line_at one level (suc n) t ≡ within n digits
  in_row n t digits e = some_row n t ∙ ap (λ o. o >>= within n) e

  indent_on : (t digits z : List ℕ) → indent_at level t ≡ Some digits → indent_at level (t ++ z) ≡ Some (digits ++ z)
  indent_on t digits z e =
      ap (indent_at level) (ap (λ x. x ++ z) (indent_takes level t digits e)
      ∙ append_assoc (replicate (2 * level) 32) digits z) ∙ indent_again level (digits ++ z)

  ended : (n : ℕ) (l : List ℕ) (xs : List X) → many one (suc n) (l ++ 10 ∷ []) ≡ Some (xs, 10 ∷ [])
      → within n (l ++ 10 ∷ []) ≡ Some (xs, [])
  ended n l xs e = ap (λ (o : Option (List X × List ℕ)). o >>= λ ys. strip (10 ∷ []) ys.1 >>= λ r. Some (ys.0, r)) e

  module _ (width : ℕ) (is : ℕ → Bool) (zero_is : is 48 ≡ true)
      (fills : (n : ℕ) (ds rest : List ℕ) → length ds ≡ width * n → are_all is ds ≡ true
      → (xs : List X) × (many one n (ds ++ rest) ≡ Some (xs, rest)))
      (digits_in : (n : ℕ) (ds z : List ℕ) (xs : List X) (rest : List ℕ) → many one n (ds ++ z) ≡ Some (xs, rest)
      → length ds ≤ width * n → are_all is ds ≡ true)
      (all_in : (n : ℕ) (ds z : List ℕ) (xs : List X) (rest : List ℕ) → many one n (ds ++ z) ≡ Some (xs, rest)
      → width * n ≤ length ds
      → (u : List ℕ) × (many one n ds ≡ Some (xs, u)) × (rest ≡ u ++ z) × (width * n < length ds → 0 < length u)) where
    -- If `digits` are valid digits, and no more than the line needs, some bytes `y` complete the line.
    open_row : (n : ℕ) (t digits : List ℕ) → indent_at level t ≡ Some digits → are_all is digits ≡ true
        → length digits ≤ width * suc n → (y : List ℕ) × (xs : List X)
        × (row_line_at one level (suc n) (t ++ y) ≡ Some (xs, []))
    open_row n t digits e all low =
        let more : List ℕ = replicate (width * suc n - length digits) 48 in
        let sized = length-append digits more in
        let size : length more ≡ width * suc n - length digits = length-replicate (width * suc n - length digits) 48 in
        let f = fills (suc n) (digits ++ more) (10 ∷ []) (omega arith)
        (all_both is digits more all (zeros is zero_is (width * suc n - length digits))) in (
          more ++ 10 ∷ [],
          f.0,
          in_row n (t ++ (more ++ 10 ∷ [])) (digits ++ (more ++ 10 ∷ []))
              (indent_on t digits (more ++ 10 ∷ []) e)
              ∙ ap (within n) (sym (append_assoc digits more (10 ∷ []))) ∙ ended n (digits ++ more) f.0 f.1,
        )

    -- Case: the bytes `u` are left after the items of `digits`. Then no bytes `z` complete the line.
    too_long : (n : ℕ) (t digits z : List ℕ) → indent_at level t ≡ Some digits
        → row_line_at one level (suc n) t ≡ None → (u : List ℕ) (xs : List X) (r : List ℕ)
        → many one (suc n) digits ≡ Some (xs, u) → strip (10 ∷ []) (u ++ z) ≡ Some r → 0 < length u → ⊥
    too_long n t digits z e none u xs r items stripped more =
        let v = some_bytes u z r more stripped in
        let read : within n digits ≡ Some (xs, v.0) =
        ap (λ (o : Option (List X × List ℕ)). o >>= λ ys. strip (10 ∷ []) ys.1 >>= λ r. Some (ys.0, r)) items
        ∙ ap (λ (o : Option (List ℕ)). o >>= λ r. Some (xs, r)) v.1 in
        let some = sym none ∙ in_row n t digits e ∙ read in
        absurd cc

    never_read : (n : ℕ) (t digits z : List ℕ) → indent_at level t ≡ Some digits
        → row_line_at one level (suc n) t ≡ None → (length digits ≤ width * suc n → are_all is digits ≡ true → ⊥)
        → (y : List X × List ℕ) → within n (digits ++ z) ≡ Some y → ⊥
    never_read n t digits z e none other y read =
        let m = bind_some (many one (suc n) (digits ++ z)) (λ ys. strip (10 ∷ []) ys.1 >>= λ r. Some (ys.0, r)) y read
        in
        let s = bind_some (strip (10 ∷ []) m.0.1) (λ r. Some (m.0.0, r)) y m.2 in
        elim (cases_lt (width * suc n) (length digits)) [
          | inl long ↦
              (let a = all_in (suc n) digits z m.0.0 m.0.1 m.1 (omega arith) in
              too_long n t digits z e none a.0 m.0.0 s.0 a.1 (subst (λ x. strip (10 ∷ []) x ≡ Some s.0) a.2 s.1)
              (a.3 long))
          | inr short ↦ other (omega arith) (digits_in (suc n) digits z m.0.0 m.0.1 m.1 (omega arith))
        ]

    lost_by : (n : ℕ) (t digits z : List ℕ) → indent_at level t ≡ Some digits
        → row_line_at one level (suc n) t ≡ None → (length digits ≤ width * suc n → are_all is digits ≡ true → ⊥)
        → (o : Option (List X × List ℕ)) → within n (digits ++ z) ≡ o → within n (digits ++ z) ≡ None
    lost_by n t digits z e none other (Some y) read = absurd (never_read n t digits z e none other y read)
    lost_by n t digits z e none other None read = read

    -- No bytes complete a line that has too many digits, or a byte that is no digit.
    lost_row : (n : ℕ) (t digits : List ℕ) → indent_at level t ≡ Some digits
        → row_line_at one level (suc n) t ≡ None → (length digits ≤ width * suc n → are_all is digits ≡ true → ⊥)
        → IsLineLost (row_line_at one level (suc n)) t
    lost_row n t digits e none other z =
        in_row n (t ++ z) (digits ++ z) (indent_on t digits z e)
        ∙ lost_by n t digits z e none other (within n (digits ++ z)) refl

    pub row_open : (count : ℕ) (t digits : List ℕ) → row_line_at one level count t ≡ None
        → indent_at level t ≡ Some digits → are_all is digits ≡ true → length digits ≤ width * count
        → LineFails (stops.Cut (length t)) (row_line_at one level count) t
    unfolding row_line_at
    row_open zero t digits none e all low = absurd cc
    row_open (suc n) t digits none e all low =
        let o = open_row n t digits e all low in
        (none, refl, (t, [], sym (append-nil t), omega arith, o.0, o.1, o.2))

    pub row_lost : (count : ℕ) (t digits : List ℕ) → row_line_at one level count t ≡ None
        → indent_at level t ≡ Some digits → (length digits ≤ width * count → are_all is digits ≡ true → ⊥)
        → LineFails (stops.Left (length t)) (row_line_at one level count) t
    unfolding row_line_at
    row_lost zero t digits none e other = absurd cc
    row_lost (suc n) t digits none e other = (none, refl, lost_row n t digits e none other)

  -- ---- less than the indent of a line

  unindented : (t z : List ℕ) → indent_at level t ≡ None → 2 * level ≤ length t → (o : Option (List ℕ))
      → indent_at level (t ++ z) ≡ o → indent_at level (t ++ z) ≡ None
  unindented t z none long (Some l) e =
      let size = length-replicate {A = ℕ} (2 * level) 32 in
      let u = split t (replicate (2 * level) 32) l z (indent_takes level (t ++ z) l e) (omega arith) in
      let some = sym none ∙ ap (indent_at level) u.1 ∙ indent_again level u.0 in
      absurd cc
  unindented t z none long None e = e

  by_length : (b : Bool) (n : ℕ) (t : List ℕ) → nat_lt (length t) few ≡ b → level ≤ 600
      → row_line_at one level (suc n) t ≡ None → indent_at level t ≡ None
      → ((y : List ℕ) × (x : List X) × (row_line_at one level (suc n) y ≡ Some (x, [])))
      → LineFails (cond b (stops.Cut (length t)) (stops.Left (length t))) (row_line_at one level (suc n)) t
  by_length true n t is low none out full =
      let short = ltb-true (length t) few is in
      (none, refl, ([], t, refl, omega arith, full.0, full.1, full.2))
  by_length false n t is low none out full =
      let long = ltb-false (length t) few is in (
        none,
        refl,
        λ z. some_row n (t ++ z) ∙ ap (λ o. o >>= within n)
            (unindented t z out (omega arith) (indent_at level (t ++ z)) refl),
      )

  pub row_unindented : (count : ℕ) (t : List ℕ) → level ≤ 600 → row_line_at one level count t ≡ None
      → indent_at level t ≡ None
      → ((n : ℕ) → (y : List ℕ) × (x : List X) × (row_line_at one level n y ≡ Some (x, [])))
      → LineFails (stop_in t) (row_line_at one level count) t
  unfolding row_line_at
  row_unindented zero t low none out full = absurd cc
  row_unindented (suc n) t low none out full = by_length (nat_lt (length t) few) n t refl low none out (full (suc n))

-- ---- bits

bit_one : (c : ℕ) (cs : List ℕ) → is_bit c ≡ true → (b : Bool) × (bit_at (c ∷ cs) ≡ Some (b, cs))
bit_one c cs e = bit_by (c == 49) (c == 48) cs e

pub bits_fill : (n : ℕ) (ds rest : List ℕ) → length ds ≡ 1 * n → are_all is_bit ds ≡ true
    → (xs : List Bool) × (many bit_at n (ds ++ rest) ≡ Some (xs, rest))
unfolding many
bits_fill zero [] rest size all = ([], refl)
bits_fill zero (c ∷ cs) rest size all = absurd (omega arith)
bits_fill (suc n) [] rest size all = absurd (omega arith)
bits_fill (suc n) (c ∷ cs) rest size all =
    let h = both_true (is_bit c) (are_all is_bit cs) all in
    let x = bit_one c (cs ++ rest) h.0 in
    let xs = bits_fill n cs rest (omega arith) h.1 in (
      x.0 ∷ xs.0,
      ap (λ (o : Option (Bool × List ℕ)). o >>= λ x. many bit_at n x.1 >>= λ xs. Some (x.0 ∷ xs.0, xs.1)) x.1
          ∙ ap (λ (o : Option (List Bool × List ℕ)). o >>= λ xs. Some (x.0 ∷ xs.0, xs.1)) xs.1,
    )

bit_read : (c : ℕ) (cs : List ℕ) (y : Bool × List ℕ) → bit_at (c ∷ cs) ≡ Some y → (is_bit c ≡ true) × (y.1 ≡ cs)
    × ((z : List ℕ) → bit_at (c ∷ z) ≡ Some (y.0, z))
bit_read c cs y e = bit_read_by (c == 49) (c == 48) cs y e

pub bits_in : (n : ℕ) (ds z : List ℕ) (xs : List Bool) (rest : List ℕ) → many bit_at n (ds ++ z) ≡ Some (xs, rest)
    → length ds ≤ 1 * n → are_all is_bit ds ≡ true
unfolding many
bits_in n [] z xs rest e low = refl
bits_in zero (c ∷ cs) z xs rest e low = absurd (omega arith)
bits_in (suc n) (c ∷ cs) z xs rest e low =
    let a = bind_some (bit_at (c ∷ (cs ++ z))) (λ x. many bit_at n x.1 >>= λ ys. Some (x.0 ∷ ys.0, ys.1))
    (xs, rest) e in
    let b = bind_some (many bit_at n a.0.1) (λ ys. Some (a.0.0 ∷ ys.0, ys.1)) (xs, rest) a.2 in
    let r = bit_read c (cs ++ z) a.0 a.1 in
    are_both (is_bit c) (are_all is_bit cs) r.0
    (bits_in n cs z b.0.0 b.0.1 (ap (many bit_at n) (sym r.1) ∙ b.1) (omega arith))

pub bits_all : (n : ℕ) (ds z : List ℕ) (xs : List Bool) (rest : List ℕ) → many bit_at n (ds ++ z) ≡ Some (xs, rest)
    → 1 * n ≤ length ds
    → (u : List ℕ) × (many bit_at n ds ≡ Some (xs, u)) × (rest ≡ u ++ z) × (1 * n < length ds → 0 < length u)
unfolding many
bits_all zero ds z xs rest e low =
    let p = some_is ([], ds ++ z) (xs, rest) e in (
      ds,
      ap (λ (y : List Bool × List ℕ). Some (y.0, ds)) p,
      sym (ap (λ (y : List Bool × List ℕ). y.1) p),
      λ h. omega arith,
    )
bits_all (suc n) [] z xs rest e low = absurd (omega arith)
bits_all (suc n) (c ∷ cs) z xs rest e low =
    let a = bind_some (bit_at (c ∷ (cs ++ z))) (λ x. many bit_at n x.1 >>= λ ys. Some (x.0 ∷ ys.0, ys.1))
    (xs, rest) e in
    let b = bind_some (many bit_at n a.0.1) (λ ys. Some (a.0.0 ∷ ys.0, ys.1)) (xs, rest) a.2 in
    let r = bit_read c (cs ++ z) a.0 a.1 in
    let more = bits_all n cs z b.0.0 b.0.1 (ap (many bit_at n) (sym r.1) ∙ b.1) (omega arith) in
    let same = some_is (a.0.0 ∷ b.0.0, b.0.1) (xs, rest) b.2 in (
      more.0,
      ap (λ (o : Option (Bool × List ℕ)). o >>= λ x. many bit_at n x.1 >>= λ xs. Some (x.0 ∷ xs.0, xs.1)) (r.2 cs)
          ∙ ap (λ (o : Option (List Bool × List ℕ)). o >>= λ xs. Some (a.0.0 ∷ xs.0, xs.1)) more.1
          ∙ ap (λ (y : List Bool × List ℕ). Some (y.0, more.0)) same,
      sym (ap (λ (y : List Bool × List ℕ). y.1) same) ∙ more.2,
      λ h. more.3 (omega arith),
    )

-- ---- bytes

pub bytes_fill : (n : ℕ) (ds rest : List ℕ) → length ds ≡ 2 * n → are_all is_hex ds ≡ true
    → (xs : List ℕ) × (many byte_at n (ds ++ rest) ≡ Some (xs, rest))
unfolding many
bytes_fill zero [] rest size all = ([], refl)
bytes_fill zero (c ∷ cs) rest size all = absurd (omega arith)
bytes_fill (suc n) [] rest size all = absurd (omega arith)
bytes_fill (suc n) (c ∷ []) rest size all = absurd (omega arith)
bytes_fill (suc n) (c ∷ d ∷ cs) rest size all =
    let h = both_true (is_hex c) (is_hex d && are_all is_hex cs) all in
    let k = both_true (is_hex d) (are_all is_hex cs) h.1 in
    let x = byte_one c d (cs ++ rest) h.0 k.0 in
    let xs = bytes_fill n cs rest (omega arith) k.1 in (
      x.0 ∷ xs.0,
      ap (λ (o : Option (ℕ × List ℕ)). o >>= λ x. many byte_at n x.1 >>= λ xs. Some (x.0 ∷ xs.0, xs.1)) x.1
          ∙ ap (λ (o : Option (List ℕ × List ℕ)). o >>= λ xs. Some (x.0 ∷ xs.0, xs.1)) xs.1,
    )

pub bytes_in : (n : ℕ) (ds z : List ℕ) (xs : List ℕ) (rest : List ℕ) → many byte_at n (ds ++ z) ≡ Some (xs, rest)
    → length ds ≤ 2 * n → are_all is_hex ds ≡ true
unfolding many
bytes_in n [] z xs rest e low = refl
bytes_in zero (c ∷ cs) z xs rest e low = absurd (omega arith)
bytes_in (suc n) (c ∷ []) [] xs rest e low = absurd cc
bytes_in (suc n) (c ∷ []) (d ∷ z) xs rest e low =
    let a = bind_some (byte_at (c ∷ d ∷ z)) (λ x. many byte_at n x.1 >>= λ ys. Some (x.0 ∷ ys.0, ys.1)) (xs, rest) e in
    are_both (is_hex c) true (byte_read c d z a.0 a.1).0 refl
bytes_in (suc n) (c ∷ d ∷ cs) z xs rest e low =
    let a = bind_some (byte_at (c ∷ d ∷ (cs ++ z))) (λ x. many byte_at n x.1 >>= λ ys. Some (x.0 ∷ ys.0, ys.1))
    (xs, rest) e in
    let b = bind_some (many byte_at n a.0.1) (λ ys. Some (a.0.0 ∷ ys.0, ys.1)) (xs, rest) a.2 in
    let r = byte_read c d (cs ++ z) a.0 a.1 in
    are_both (is_hex c) (is_hex d && are_all is_hex cs) r.0 (are_both (is_hex d) (are_all is_hex cs) r.1
    (bytes_in n cs z b.0.0 b.0.1 (ap (many byte_at n) (sym r.2) ∙ b.1) (omega arith)))

pub bytes_all : (n : ℕ) (ds z : List ℕ) (xs : List ℕ) (rest : List ℕ) → many byte_at n (ds ++ z) ≡ Some (xs, rest)
    → 2 * n ≤ length ds
    → (u : List ℕ) × (many byte_at n ds ≡ Some (xs, u)) × (rest ≡ u ++ z) × (2 * n < length ds → 0 < length u)
unfolding many
bytes_all zero ds z xs rest e low =
    let p = some_is ([], ds ++ z) (xs, rest) e in
    (ds, ap (λ (y : List ℕ × List ℕ). Some (y.0, ds)) p, sym (ap (λ (y : List ℕ × List ℕ). y.1) p), λ h. omega arith)
bytes_all (suc n) [] z xs rest e low = absurd (omega arith)
bytes_all (suc n) (c ∷ []) z xs rest e low = absurd (omega arith)
bytes_all (suc n) (c ∷ d ∷ cs) z xs rest e low =
    let a = bind_some (byte_at (c ∷ d ∷ (cs ++ z))) (λ x. many byte_at n x.1 >>= λ ys. Some (x.0 ∷ ys.0, ys.1))
    (xs, rest) e in
    let b = bind_some (many byte_at n a.0.1) (λ ys. Some (a.0.0 ∷ ys.0, ys.1)) (xs, rest) a.2 in
    let r = byte_read c d (cs ++ z) a.0 a.1 in
    let more = bytes_all n cs z b.0.0 b.0.1 (ap (many byte_at n) (sym r.2) ∙ b.1) (omega arith) in
    let same = some_is (a.0.0 ∷ b.0.0, b.0.1) (xs, rest) b.2 in (
      more.0,
      ap (λ (o : Option (ℕ × List ℕ)). o >>= λ x. many byte_at n x.1 >>= λ xs. Some (x.0 ∷ xs.0, xs.1)) (r.3 cs)
          ∙ ap (λ (o : Option (List ℕ × List ℕ)). o >>= λ xs. Some (a.0.0 ∷ xs.0, xs.1)) more.1
          ∙ ap (λ (y : List ℕ × List ℕ). Some (y.0, more.0)) same,
      sym (ap (λ (y : List ℕ × List ℕ). y.1) same) ∙ more.2,
      λ h. more.3 (omega arith),
    )
