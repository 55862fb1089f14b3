-- Lemmas that other crates cite: what is written of a text is read as that text, and nothing else is read.
use Rattle.std.proofs.Common.{◌≡◌, ℕ, zero, suc, ◌+◌, ◌^◌, ◌≤◌, ◌<◌, ◌==◌, ◌||◌, Bool, true, false, cond, Option, Some}
use Rattle.std.proofs.Common.{None, List, [], ◌∷◌, ◌++◌, length, refl, sym, arith, subst, length-append, nat_le, nat_lt}
use Rattle.std.specs.List.{AllByRecursion}
use Rattle.std.specs.Str.{all_scalars, encode_utf8_all, is_utf8}
use Rattle.std.proofs.lemmas.Bool.{and_parts, leb-true, eqb-true}
use Rattle.std.proofs.lemmas.Str.{IsUtf8-from_is_utf8}
use lib.Utf8.{scalar, encode}
use Rattle.capn_quoted.specs.Texts.{is_printable, is_ascii_text, is_clear_text, is_text, ends_in_zero, before_last}
use Rattle.capn_quoted.specs.Texts.{is_clear}
use Rattle.capn_quoted.specs.Hidden.{hexadecimal, numbered}
use Rattle.capn_quoted.specs.Escapes.{escaped, code_at, more_of, hides, escapes_after, escapes}
use Rattle.capn_quoted.specs.declared.stage.Stage.{Stage}
use Rattle.capn_quoted.specs.Reading.{after_some, follow, gives, preceded, read_from, unquoted, goes_on_from, may_go_on}
use Rattle.capn_quoted.proofs.Taken.{split_read}
use Rattle.capn_quoted.proofs.Shapes.{Shape, of1, of2, of3, of4, shape_of}
use Rattle.capn_quoted.proofs.TextsRead.{zero_last}
pub use Rattle.capn_quoted.proofs.TextsRead.{text_again}
pub use Rattle.capn_quoted.proofs.Takes.{text_takes}

-- ---- sizes

escaped_size : (b : ℕ) → 1 ≤ length (escaped b)
escaped_size b = by (b == 34) (b == 92) (b == 9) (b == 10) (b == 13) (b == 0) where
  by : (u v x y z o : Bool) → 1 ≤ length (cond u (92 ∷ 34 ∷ []) (cond v (92 ∷ 92 ∷ []) (cond x (92 ∷ 116 ∷ [])
      (cond y (92 ∷ 110 ∷ []) (cond z (92 ∷ 114 ∷ []) (cond o (92 ∷ 48 ∷ []) (b ∷ [])))))))
  by true v x y z o = omega arith
  by false true x y z o = omega arith
  by false false true y z o = omega arith
  by false false false true z o = omega arith
  by false false false false true o = omega arith
  by false false false false false true = omega arith
  by false false false false false false = omega arith

more_size : (b : ℕ) → more_of b ≤ 3
more_size b = by (nat_lt b 224) (nat_lt b 240) where
  by : (x y : Bool) → cond {A = ℕ} x 1 (cond y 2 3) ≤ 3
  by true y = omega arith
  by false true = omega arith
  by false false = omega arith

after_size : (k : ℕ) (xs : List ℕ) → length xs ≤ length (escapes_after k xs) + k
after_size k [] = omega arith
after_size zero (b ∷ bs) = by (hides b bs) (after_size (more_of b) bs) (after_size zero bs) where
  by : (t : Bool) → length bs ≤ length (escapes_after (more_of b) bs) + more_of b
      → length bs ≤ length (escapes_after zero bs) + zero → length (b ∷ bs)
      ≤ length (cond t (numbered (code_at b bs) ++ escapes_after (more_of b) bs)
      (escaped b ++ escapes_after zero bs)) + zero
  by true others rest =
      let few = more_size b in
      let both = length-append (numbered (code_at b bs)) (escapes_after (more_of b) bs) in
      let digits = length-append (hexadecimal (code_at b bs)) (125 ∷ []) in
      omega arith
  by false others rest =
      let first = escaped_size b in
      let both = length-append (escaped b) (escapes_after zero bs) in
      omega arith
after_size (suc k) (b ∷ bs) = let others = after_size k bs in omega arith

pub escapes_size : (xs : List ℕ) → length xs ≤ length (escapes xs)
escapes_size xs = let h = after_size 0 xs in omega arith

-- ---- bytes

abbrev AreBytes : List ℕ → Type 0
AreBytes xs = AllByRecursion (λ b. b < 2 ^ 8) xs

both_bytes : (xs ys : List ℕ) → AreBytes xs → AreBytes ys → AreBytes (xs ++ ys)
both_bytes [] ys h k = k
both_bytes (x ∷ xs) ys h k = (h.0, both_bytes xs ys h.1 k)

one_bytes : (c : ℕ) → Shape c → AreBytes (encode c)
one_bytes c (of1 h e) = subst AreBytes (sym e) (omega arith, tt)
one_bytes c (of2 a b big l h f g e) = let y = f.1 in subst AreBytes (sym e) (omega arith, (omega arith, tt))
one_bytes c (of3 a b d big l h f f2 g e) =
    let y = f.1 in
    let z = f2.1 in
    subst AreBytes (sym e) (omega arith, (omega arith, (omega arith, tt)))
one_bytes c (of4 a b d x big l h f f2 f3 g e) =
    let y = f.1 in
    let z = f2.1 in
    let u = f3.1 in
    subst AreBytes (sym e) (omega arith, (omega arith, (omega arith, (omega arith, tt))))

points_bytes : (cs : List ℕ) → all_scalars cs ≡ true → AreBytes (encode_utf8_all cs)
points_bytes [] s = tt
points_bytes (c ∷ cs) s =
    let h = and_parts (scalar c) (all_scalars cs) s in
    both_bytes (encode c) (encode_utf8_all cs) (one_bytes c (shape_of c h.0)) (points_bytes cs h.1)

ascii_bytes : (xs : List ℕ) → is_ascii_text xs ≡ true → AreBytes xs
ascii_bytes [] p = tt
ascii_bytes (x ∷ []) p = (last (is_printable x) refl p, tt) where
  last : (b : Bool) → is_printable x ≡ b → (b || x == 0) ≡ true → x < 2 ^ 8
  last true e p = let h = and_parts (nat_le 32 x) (nat_le x 126) e in let k = leb-true x 126 h.1 in omega arith
  last false e p = let h = eqb-true x 0 p in omega arith
ascii_bytes (x ∷ y ∷ xs) p =
    let h = and_parts (is_printable x) (is_ascii_text (y ∷ xs)) p in
    let i = and_parts (nat_le 32 x) (nat_le x 126) h.0 in
    let k = leb-true x 126 i.1 in (omega arith, ascii_bytes (y ∷ xs) h.1)

clear_bytes : (xs : List ℕ) → is_clear_text xs ≡ true → AreBytes xs
clear_bytes xs e =
    let parts = and_parts (ends_in_zero xs) (is_clear (before_last xs)) e in
    let utf8 = IsUtf8-from_is_utf8 (before_last xs) (and_parts (is_utf8 (before_last xs)) _ parts.1).0 in
    subst AreBytes (sym (zero_last xs parts.0))
    (both_bytes (before_last xs) (0 ∷ []) (subst AreBytes utf8.1.1 (points_bytes utf8.0 utf8.1.0)) (omega arith, tt))

-- The elements of a text are bytes.
pub low_text : (xs : List ℕ) → is_text xs ≡ true → AreBytes xs
low_text xs e = by (is_ascii_text xs) refl e where
  by : (b : Bool) → is_ascii_text xs ≡ b → (b || is_clear_text xs) ≡ true → AreBytes xs
  by true f p = ascii_bytes xs f
  by false f p = clear_bytes xs p

-- ---- the beginning of a text

on_before : (s : Stage) (p q ys : List ℕ) → read_from s (p ++ q) ≡ Some ys → goes_on_from s p ≡ true
on_before s [] q ys e = refl
on_before s (c ∷ cs) q ys e = by (follow s c) (λ u zs. on_before u cs q zs) e where
  by : (o : Option Stage) → ((u : Stage) (zs : List ℕ) → read_from u (cs ++ q) ≡ Some zs → goes_on_from u cs ≡ true)
      → after_some o None (λ t. preceded (gives s c) (read_from t (cs ++ q))) ≡ Some ys
      → after_some o false (λ t. goes_on_from t cs) ≡ true
  by None below f = absurd cc
  by (Some u) below f = let r = split_read (gives s c) (read_from u (cs ++ q)) ys f in below u r.0 r.1

-- No byte at the front of what is read is wrong.
pub goes_on_before : (p q ys : List ℕ) → unquoted (p ++ q) ≡ Some ys → may_go_on p ≡ true
goes_on_before p q ys e = on_before _ p q ys e
