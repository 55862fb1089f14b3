-- Lemmas for `compare`, `lines_apart` and `split_line`: the lines of two texts, one after the other.
use Rattle.std.proofs.Common.{◌≡◌, ◌≢◌, ◌↔◌, ℕ, suc, ◌+◌, ◌<◌, List, [], ◌∷◌, ◌++◌, length, take, refl, sym, ap, subst}
use Rattle.std.proofs.Common.{◌∙◌, slice_index_or, arith, Bool, true, false, not, nat_eq}
use Rattle.std.specs.Cmp.Lexicographic.{pointwise, pointwise_decides}
use Rattle.std.proofs.lemmas.Bool.{eqb-true, eq-eqb}
use Rattle.std.proofs.Math.Seq.{take-suc}
use Rattle.std.proofs.lemmas.List.{append_assoc}
use Rattle.capn_cmp.specs.LinesApart.{AreApart, AreLines, IsUnbroken, joined}
use Rattle.capn_cmp.specs.inner.Alike.{BeginAlike}

pub unbroken_more : (xs : List ℕ) (c : ℕ) → IsUnbroken xs → c ≢ 10 → IsUnbroken (xs ++ c ∷ [])
unbroken_more [] c h other = (other, tt)
unbroken_more (x ∷ xs) c h other = (h.0, unbroken_more xs c h.1 other)

pub unbroken_next : (xs : List ℕ) (n : ℕ) → n < length xs → IsUnbroken (take n xs) → slice_index_or xs n 0 ≢ 10
    → IsUnbroken (take (n + 1) xs)
unbroken_next xs n within h other =
    let one : n + 1 ≡ suc n = omega arith in
    subst (λ (k : ℕ). IsUnbroken (take k xs)) (sym one)
    (subst IsUnbroken (sym (take-suc xs n 0 within)) (unbroken_more (take n xs) (slice_index_or xs n 0) h other))

-- ---- a test for equal bytes

same_bytes : (xs ys : List ℕ) → (pointwise nat_eq xs ys ≡ true) ↔ (xs ≡ ys)
same_bytes = pointwise_decides {E = nat_eq} (λ x y. (eqb-true x y, eq-eqb x y))

not_not : (b : Bool) → not b ≡ false → b ≡ true
not_not true e = refl
not_not false e = absurd (cc)

pub found_same : (xs ys : List ℕ) (r : Bool) → r ≡ not (pointwise nat_eq xs ys) → r ≡ false → xs ≡ ys
found_same xs ys r is e = (same_bytes xs ys).0 (not_not (pointwise nat_eq xs ys) (sym is ∙ e))

pub found_equal : (xs ys : List ℕ) (r : Bool) → r ≡ pointwise nat_eq xs ys → r ≡ true → xs ≡ ys
found_equal xs ys r is e = (same_bytes xs ys).0 (sym is ∙ e)

pub found_other : (xs ys : List ℕ) (r : Bool) → r ≡ pointwise nat_eq xs ys → r ≡ false → xs ≢ ys
found_other xs ys r is e same = let bad : true ≡ false = sym ((same_bytes xs ys).1 same) ∙ sym is ∙ e in cc

lines_more : (lines : List (List ℕ)) (line : List ℕ) → AreLines lines → IsUnbroken line → AreLines (lines ++ line ∷ [])
lines_more [] line h is = (is, tt)
lines_more (l ∷ ls) line h is = (h.0, lines_more ls line h.1 is)

joined_more : (lines : List (List ℕ)) (line rest : List ℕ)
    → joined lines ++ (line ++ 10 ∷ rest) ≡ joined (lines ++ line ∷ []) ++ rest
joined_more [] line rest = sym (append_assoc line (10 ∷ []) rest)
joined_more (l ∷ ls) line rest =
    append_assoc l (10 ∷ joined ls) (line ++ 10 ∷ rest)
    ∙ ap (λ (x : List ℕ). l ++ 10 ∷ x) (joined_more ls line rest)
    ∙ sym (append_assoc l (10 ∷ joined (ls ++ line ∷ [])) rest)

pub alike_more : (text other rest left line more behind : List ℕ) → BeginAlike text other rest left
    → rest ≡ line ++ 10 ∷ more → left ≡ line ++ 10 ∷ behind → IsUnbroken line → BeginAlike text other more behind
alike_more text other rest left line more behind h is also unbroken = record {
  lines = h.lines ++ line ∷ [];
  each = lines_more h.lines line h.each unbroken;
  text_is = h.text_is ∙ ap (λ (x : List ℕ). joined h.lines ++ x) is ∙ joined_more h.lines line more;
  other_is = h.other_is ∙ ap (λ (x : List ℕ). joined h.lines ++ x) also ∙ joined_more h.lines line behind;
}

-- ---- texts with more bytes at the end

pub apart_longer : (text other first second more behind : List ℕ) → AreApart text other first second
    → AreApart (text ++ more) (other ++ behind) first second
apart_longer text other first second more behind h = record {
  lines = h.lines;
  each = h.each;
  more = h.more ++ more;
  left = h.left ++ behind;
  text_is = ap (λ (x : List ℕ). x ++ more) h.text_is
      ∙ append_assoc (joined h.lines) (first ++ 10 ∷ h.more) more
      ∙ ap (λ (x : List ℕ). joined h.lines ++ x) (append_assoc first (10 ∷ h.more) more);
  other_is = ap (λ (x : List ℕ). x ++ behind) h.other_is
      ∙ append_assoc (joined h.lines) (second ++ 10 ∷ h.left) behind
      ∙ ap (λ (x : List ℕ). joined h.lines ++ x) (append_assoc second (10 ∷ h.left) behind);
  first_line = h.first_line;
  second_line = h.second_line;
  differ = h.differ;
}

-- ---- two texts have at most one pair of first lines that differ

one_line : (a b x y : List ℕ) → IsUnbroken a → IsUnbroken b → a ++ 10 ∷ x ≡ b ++ 10 ∷ y → (a ≡ b) × (x ≡ y)
one_line [] [] x y h k e = (refl, cc)
one_line [] (c ∷ b) x y h k e = absurd (k.0 (let f : 10 ≡ c = cc in sym f))
one_line (c ∷ a) [] x y h k e = absurd (h.0 (let f : c ≡ 10 = cc in f))
one_line (c ∷ a) (d ∷ b) x y h k e =
    let first : c ≡ d = cc in
    let rest : a ++ 10 ∷ x ≡ b ++ 10 ∷ y = cc in
    let same = one_line a b x y h.1 k.1 rest in
    (λ i. first i ∷ same.0 i, same.1)

after_line : (a q x more : List ℕ) (qs : List (List ℕ)) → IsUnbroken a → IsUnbroken q
    → a ++ 10 ∷ x ≡ joined (q ∷ qs) ++ more → (a ≡ q) × (x ≡ joined qs ++ more)
after_line a q x more qs one other e =
    one_line a q x (joined qs ++ more) one other (e ∙ append_assoc q (10 ∷ joined qs) more)

apart_from : (ps qs : List (List ℕ)) (a b c d x y u v : List ℕ) → AreLines ps → AreLines qs → IsUnbroken a
    → IsUnbroken b → IsUnbroken c → IsUnbroken d → a ≢ b → c ≢ d
    → joined ps ++ (a ++ 10 ∷ x) ≡ joined qs ++ (c ++ 10 ∷ u)
    → joined ps ++ (b ++ 10 ∷ y) ≡ joined qs ++ (d ++ 10 ∷ v) → (a ≡ c) × (b ≡ d)
apart_from [] [] a b c d x y u v hp hq ha hb hc hd ab cd e f =
    ((one_line a c x u ha hc e).0, (one_line b d y v hb hd f).0)
apart_from [] (q ∷ qs) a b c d x y u v hp hq ha hb hc hd ab cd e f =
    absurd (ab ((after_line a q x (c ++ 10 ∷ u) qs ha hq.0 e).0 ∙ sym (after_line b q y (d ++ 10 ∷ v) qs hb hq.0 f).0))
apart_from (p ∷ ps) [] a b c d x y u v hp hq ha hb hc hd ab cd e f =
    absurd (cd ((after_line c p u (a ++ 10 ∷ x) ps hc hp.0 (sym e)).0
    ∙ sym (after_line d p v (b ++ 10 ∷ y) ps hd hp.0 (sym f)).0))
apart_from (p ∷ ps) (q ∷ qs) a b c d x y u v hp hq ha hb hc hd ab cd e f =
    let first = after_line p q (joined ps ++ (a ++ 10 ∷ x)) (c ++ 10 ∷ u) qs hp.0 hq.0
    (sym (append_assoc p (10 ∷ joined ps) (a ++ 10 ∷ x)) ∙ e) in
    let second = after_line p q (joined ps ++ (b ++ 10 ∷ y)) (d ++ 10 ∷ v) qs hp.0 hq.0
    (sym (append_assoc p (10 ∷ joined ps) (b ++ 10 ∷ y)) ∙ f) in
    apart_from ps qs a b c d x y u v hp.1 hq.1 ha hb hc hd ab cd first.1 second.1

pub one_apart : (text other a b c d : List ℕ) → AreApart text other a b → AreApart text other c d → (a ≡ c) × (b ≡ d)
one_apart text other a b c d h k =
    apart_from h.lines k.lines a b c d h.more h.left k.more k.left h.each k.each h.first_line h.second_line k.first_line
    k.second_line h.differ k.differ (sym h.text_is ∙ k.text_is) (sym h.other_is ∙ k.other_is)
