-- Lemmas for `Beginnings`, `OwnLines`, `PlainTexts` and `ShownPlain`: which lines `quoted_at` reads, and the bytes that
-- it gives for them (`IsQuoted`).
use Rattle.std.proofs.Common.{◌≡◌, ℕ, zero, suc, ◌+◌, ◌*◌, ◌^◌, ◌%◌, ◌≤◌, ◌<◌, ◌==◌, ◌&&◌, ◌⊎◌, Bool, true, false, cond}
use Rattle.std.proofs.Common.{List, [], ◌∷◌, ◌++◌, length, codes, Option, Some, None, replicate, refl, sym, ap, ap₂}
use Rattle.std.proofs.Common.{◌∙◌, append_assoc, arith, inl, inr, subst}
use Rattle.std.specs.Fmt.{decimal}
use Rattle.std.proofs.lemmas.Bool.{eqb-true, eq-eqb, ne_eqb}
use Rattle.std.proofs.lemmas.Fmt.{decimal_by_steps}
use Rattle.std.proofs.lemmas.List.{append_cancel_right, length-append}
use Rattle.capn_value.specs.Text.{line}
use Rattle.capn_quoted.specs.Texts.{is_text}
use Rattle.capn_quoted.specs.Escapes.{escapes}
use Rattle.capn_show.specs.Quoting.{quoted_line}
use Rattle.capn_text.specs.Quoted.{uncounted_line, IsQuoted}
use Rattle.capn_text.specs.inner.Tokens.{◌>>=◌, strip, decimal_at}
use Rattle.capn_quoted.specs.Reading.{unquoted}
use Rattle.capn_text.specs.inner.QuotedLines.{counted_text, counted_or, levels_at, quoted_at}
use Rattle.capn_text.proofs.Steps.{guard_some, bind_some}
use Rattle.capn_text.proofs.TokenText.{strip_takes, two_more, decimal_again, decimal_takes}
use Rattle.capn_quoted.proofs.shared.QuotedTexts.{text_again, text_takes, escapes_size}

abbrev pub spaces : ℕ → List ℕ
spaces level = replicate (2 * level) 32

-- ---- the levels

levels_again : (level : ℕ) (rest : List ℕ) → levels_at (spaces level ++ 98 ∷ rest) ≡ (level, 98 ∷ rest)
levels_again zero [] = refl
levels_again zero (c ∷ cs) = refl
levels_again (suc level) rest =
    ap (λ (x : List ℕ). levels_at (x ++ 98 ∷ rest)) (two_more level)
    ∙ ap (λ (p : ℕ × List ℕ). (suc p.0, p.1)) (levels_again level rest)

-- If `b` is true, the number of levels in `below` and one more, and the bytes in `below`. Otherwise 0 levels, and the
-- bytes `t`.
abbrev levels_of : Bool → ℕ × List ℕ → List ℕ → ℕ × List ℕ
levels_of b below t = cond b (suc below.0, below.1) (0, t)

levels_by : (c d : ℕ) (cs : List ℕ) (below : ℕ × List ℕ) (x y : Bool) → (32 == c) ≡ x → (32 == d) ≡ y
    → cs ≡ spaces below.0 ++ below.1
    → c ∷ d ∷ cs ≡ spaces (levels_of (x && y) below (c ∷ d ∷ cs)).0 ++ (levels_of (x && y) below (c ∷ d ∷ cs)).1
levels_by c d cs below true true e f is =
    ap₂ (λ (a b : ℕ). a ∷ b ∷ cs) (sym (eqb-true 32 c e)) (sym (eqb-true 32 d f))
    ∙ ap (λ (l : List ℕ). 32 ∷ 32 ∷ l) is
    ∙ ap (λ (l : List ℕ). l ++ below.1) (sym (two_more below.0))
levels_by c d cs below true false e f is = refl
levels_by c d cs below false y e f is = refl

levels_take : (t : List ℕ) → t ≡ spaces (levels_at t).0 ++ (levels_at t).1
levels_take [] = refl
levels_take (c ∷ []) = refl
levels_take (c ∷ d ∷ cs) = levels_by c d cs (levels_at cs) (32 == c) (32 == d) refl refl (levels_take cs)

-- ---- the bytes after the name

-- The bytes `xs` as they stand between quotes, and the closing quote.
abbrev pub inside : List ℕ → List ℕ
inside xs = escapes xs ++ 34 ∷ []

-- The count `n`, a space, the opening quote, and `rest`.
abbrev pub with_count : ℕ → List ℕ → List ℕ
with_count n rest = decimal n ++ 32 ∷ 34 ∷ rest

abbrev counted_after : ℕ × List ℕ → Option (List ℕ)
counted_after n = strip (codes " \"") n.1 >>= λ rest. unquoted rest >>= λ xs. cond (length xs == n.0) (Some xs) None

count_again : (xs : List ℕ) → length xs < 2 ^ 64 → is_text xs ≡ true
    → counted_text (with_count (length xs) (inside xs)) ≡ Some xs
count_again xs fits p =
    ap (λ (r : Option (ℕ × List ℕ)). r >>= counted_after) (decimal_again (length xs) 32 (34 ∷ inside xs) fits refl)
    ∙ ap (λ (r : Option (List ℕ)). r >>= λ ys. cond (length ys == length xs) (Some ys) None) (text_again xs p)
    ∙ ap (λ b. cond b (Some xs) None) (eq-eqb (length xs) (length xs) refl)

count_takes : (t xs : List ℕ) → counted_text t ≡ Some xs
    → (t ≡ with_count (length xs) (inside xs)) × (is_text xs ≡ true)
count_takes t xs e =
    let n = bind_some (decimal_at t) counted_after xs e in
    let rest = bind_some (strip (codes " \"") n.0.1) (λ rest. unquoted rest
    >>= λ ys. cond (length ys == n.0.0) (Some ys) None) xs n.2 in
    let ys = bind_some (unquoted rest.0) (λ ys. cond (length ys == n.0.0) (Some ys) None) xs rest.2 in
    let g = guard_some (length ys.0 == n.0.0) ys.0 xs ys.2 in
    let h = text_takes rest.0 ys.0 ys.1 in
    let count = eqb-true (length ys.0) n.0.0 g.0 in
    let spelled : t ≡ with_count (length ys.0) (inside ys.0) =
    (decimal_takes t n.0.0 n.0.1 n.1).0
    ∙ ap (λ (l : List ℕ). decimal n.0.0 ++ l) (strip_takes (codes " \"") n.0.1 rest.0 rest.1
    ∙ ap (λ (l : List ℕ). 32 ∷ 34 ∷ l) h.0)
    ∙ ap (λ (k : ℕ). with_count k (inside ys.0)) (sym count) in
    (spelled ∙ ap (λ (l : List ℕ). with_count (length l) (inside l)) g.1, sym (ap is_text g.1) ∙ h.1)

-- ---- the line

abbrev some : List ℕ → Option (List ℕ)
some xs = Some xs

abbrev pair : ℕ × List ℕ → Option (ℕ × List ℕ)
pair p = Some p

pair_is : (p q : ℕ × List ℕ) → pair p ≡ pair q → p ≡ q
pair_is p q e = cc

abbrev uncounted : ℕ → List ℕ → List ℕ
uncounted level xs = spaces level ++ (codes "bytes " ++ 34 ∷ inside xs)

abbrev pub counted : ℕ → List ℕ → List ℕ
counted level xs = spaces level ++ (codes "bytes " ++ with_count (length xs) (inside xs))

pub counted_line : (level : ℕ) (xs : List ℕ) → quoted_line level xs ≡ counted level xs ++ 10 ∷ []
unfolding line
counted_line level xs =
    ap (λ (l : List ℕ). spaces level ++ l)
    (append_assoc (codes "bytes " ++ decimal (length xs)) (32 ∷ 34 ∷ inside xs) (10 ∷ [])
    ∙ ap (λ (l : List ℕ). codes "bytes " ++ l)
    (sym (append_assoc (decimal (length xs)) (32 ∷ 34 ∷ inside xs) (10 ∷ []))))
    ∙ sym (append_assoc (spaces level) (codes "bytes " ++ with_count (length xs) (inside xs)) (10 ∷ []))

bare_line : (level : ℕ) (xs : List ℕ) → uncounted_line level xs ≡ uncounted level xs ++ 10 ∷ []
unfolding line
bare_line level xs = sym (append_assoc (spaces level) (codes "bytes " ++ 34 ∷ inside xs) (10 ∷ []))

-- The bytes between the quotes of a line, or `None`. `rest` has the bytes of the line after the name `bytes` and a
-- space.
abbrev after_name : List ℕ → Option (List ℕ)
after_name rest = counted_or (strip (34 ∷ []) rest) rest

quoted_again : (level : ℕ) (rest xs : List ℕ) → after_name rest ≡ Some xs
    → quoted_at (spaces level ++ (codes "bytes " ++ rest)) ≡ Some (level, xs)
unfolding quoted_at
quoted_again level rest xs e =
    ap (λ (p : ℕ × List ℕ). strip (codes "bytes ") p.1 >>= λ r. after_name r >>= λ ys. Some (p.0, ys))
    (levels_again level (codes "ytes " ++ rest))
    ∙ ap (λ (r : Option (List ℕ)). r >>= λ ys. Some (level, ys)) e

-- The digits `ds` of `n` do not begin with a quote, whatever bytes `rest` follow them.
abbrev HasNoQuote : ℕ → List ℕ → Type 0
HasNoQuote n ds = (rest : List ℕ) → strip (34 ∷ []) (ds ++ rest) ≡ None

no_quote : (n : ℕ) → n < 2 ^ 64 → HasNoQuote n (decimal n)
no_quote n fits = decimal_by_steps HasNoQuote
    (λ m lt rest. ap (λ b. cond b (some rest) None) (ne_eqb 34 (48 + m) (λ e. omega arith)))
    (λ m ds ten h rest. ap (strip (34 ∷ [])) (append_assoc ds ((48 + m % 10) ∷ []) rest)
    ∙ h ((48 + m % 10) ∷ rest)) n fits

pub is_read : (level : ℕ) (text xs : List ℕ) → length xs < 2 ^ 64 → IsQuoted (text ++ 10 ∷ []) level xs
    → quoted_at text ≡ Some (level, xs)
is_read level text xs fits (p, inl e) =
    let same = append_cancel_right text (counted level xs) (10 ∷ []) (e ∙ counted_line level xs) in
    let none = no_quote (length xs) fits (32 ∷ 34 ∷ inside xs) in
    ap quoted_at same
    ∙ quoted_again level (with_count (length xs) (inside xs)) xs
    (ap (λ (r : Option (List ℕ)). counted_or r (with_count (length xs) (inside xs))) none ∙ count_again xs fits p)
is_read level text xs fits (p, inr e) =
    let same = append_cancel_right text (uncounted level xs) (10 ∷ []) (e ∙ bare_line level xs) in
    ap quoted_at same ∙ quoted_again level (34 ∷ inside xs) xs (text_again xs p)

name_takes : (rest xs : List ℕ) (r : Option (List ℕ)) → strip (34 ∷ []) rest ≡ r → counted_or r rest ≡ Some xs
    → (is_text xs ≡ true) × ((rest ≡ with_count (length xs) (inside xs)) ⊎ (rest ≡ 34 ∷ inside xs))
name_takes rest xs (Some inner) e f =
    let h = text_takes inner xs f in
    (h.1, inr (strip_takes (34 ∷ []) rest inner e ∙ ap (λ (l : List ℕ). 34 ∷ l) h.0))
name_takes rest xs None e f = let h = count_takes rest xs f in (h.1, inl h.0)

pub was_read : (text : List ℕ) (level : ℕ) (xs : List ℕ) → quoted_at text ≡ Some (level, xs)
    → IsQuoted (text ++ 10 ∷ []) level xs
unfolding quoted_at
was_read text level xs e =
    let rest = bind_some (strip (codes "bytes ") (levels_at text).1)
    (λ r. after_name r >>= λ ys. Some ((levels_at text).0, ys)) (level, xs) e in
    let ys = bind_some (after_name rest.0) (λ ys. Some ((levels_at text).0, ys)) (level, xs) rest.2 in
    let same = pair_is ((levels_at text).0, ys.0) (level, xs) ys.2 in
    let line_is : text ≡ spaces (levels_at text).0 ++ (codes "bytes " ++ rest.0) =
    levels_take text ∙ ap (λ (l : List ℕ). spaces (levels_at text).0 ++ l)
    (strip_takes (codes "bytes ") (levels_at text).1 rest.0 rest.1) in
    let h = name_takes rest.0 ys.0 (strip (34 ∷ []) rest.0) refl ys.1 in
    subst (λ (p : ℕ × List ℕ). IsQuoted (text ++ 10 ∷ []) p.0 p.1) same (
      h.0,
      elim h.1 [
        | inl k ↦
            inl (ap (λ (l : List ℕ). l ++ 10 ∷ [])
            (line_is ∙ ap (λ (l : List ℕ). spaces (levels_at text).0 ++ (codes "bytes " ++ l)) k)
            ∙ sym (counted_line (levels_at text).0 ys.0))
        | inr k ↦
            inr (ap (λ (l : List ℕ). l ++ 10 ∷ [])
            (line_is ∙ ap (λ (l : List ℕ). spaces (levels_at text).0 ++ (codes "bytes " ++ l)) k)
            ∙ sym (bare_line (levels_at text).0 ys.0))
      ],
    )

-- ---- sizes

within : (a b : List ℕ) → length b ≤ length (a ++ b)
within a b = let h = length-append a b in omega arith

-- If a line has fewer than 2^64 bytes, the list `xs` between its quotes has fewer than 2^64 bytes.
pub has_size : (level : ℕ) (text xs : List ℕ) → length text < 2 ^ 64 → IsQuoted (text ++ 10 ∷ []) level xs
    → length xs < 2 ^ 64
has_size level text xs fits (p, inl e) =
    let same = append_cancel_right text (counted level xs) (10 ∷ []) (e ∙ counted_line level xs) in
    let size = ap length same in
    let least = escapes_size xs in
    let a = length-append (escapes xs) (34 ∷ []) in
    let b = within (decimal (length xs) ++ 32 ∷ 34 ∷ []) (inside xs) in
    let c = ap length (append_assoc (decimal (length xs)) (32 ∷ 34 ∷ []) (inside xs)) in
    let d = within (spaces level ++ codes "bytes ") (with_count (length xs) (inside xs)) in
    let k = ap length (append_assoc (spaces level) (codes "bytes ") (with_count (length xs) (inside xs))) in
    omega arith
has_size level text xs fits (p, inr e) =
    let same = append_cancel_right text (uncounted level xs) (10 ∷ []) (e ∙ bare_line level xs) in
    let size = ap length same in
    let least = escapes_size xs in
    let a = length-append (escapes xs) (34 ∷ []) in
    let d = within (spaces level ++ codes "bytes \"") (inside xs) in
    let k = ap length (append_assoc (spaces level) (codes "bytes \"") (inside xs)) in
    omega arith

-- ---- quotes

grouped : (s b d i : List ℕ) → s ++ (b ++ (d ++ 32 ∷ 34 ∷ i)) ≡ ((s ++ b) ++ (d ++ 32 ∷ [])) ++ 34 ∷ i
grouped s b d i = simp append_assoc refl

pub has_quote : (level : ℕ) (text xs : List ℕ) → IsQuoted (text ++ 10 ∷ []) level xs
    → (a : List ℕ) × (b : List ℕ) × (text ≡ a ++ 34 ∷ b)
has_quote level text xs (p, inl e) = (
  (spaces level ++ codes "bytes ") ++ (decimal (length xs) ++ 32 ∷ []),
  inside xs,
  append_cancel_right text (counted level xs) (10 ∷ []) (e ∙ counted_line level xs)
      ∙ grouped (spaces level) (codes "bytes ") (decimal (length xs)) (inside xs),
)
has_quote level text xs (p, inr e) = (
  spaces level ++ codes "bytes ",
  inside xs,
  append_cancel_right text (uncounted level xs) (10 ∷ []) (e ∙ bare_line level xs)
      ∙ sym (append_assoc (spaces level) (codes "bytes ") (34 ∷ inside xs)),
)

-- ---- the bytes after the name

-- The bytes `t` are the text `xs` between quotes, with its count or without it.
abbrev pub IsAfterName : List ℕ → List ℕ → Type 0
IsAfterName t xs = (unquoted (inside xs) ≡ Some xs)
    × (((length xs < 2 ^ 64) × (t ≡ with_count (length xs) (inside xs))) ⊎ (t ≡ 34 ∷ inside xs))

count_fits : (t xs : List ℕ) → counted_text t ≡ Some xs → length xs < 2 ^ 64
count_fits t xs e =
    let n = bind_some (decimal_at t) counted_after xs e in
    let rest = bind_some (strip (codes " \"") n.0.1) (λ rest. unquoted rest
    >>= λ ys. cond (length ys == n.0.0) (Some ys) None) xs n.2 in
    let ys = bind_some (unquoted rest.0) (λ ys. cond (length ys == n.0.0) (Some ys) None) xs rest.2 in
    let g = guard_some (length ys.0 == n.0.0) ys.0 xs ys.2 in
    let count = eqb-true (length ys.0) n.0.0 g.0 in
    let fits = (decimal_takes t n.0.0 n.0.1 n.1).1 in
    let same : length ys.0 ≡ length xs = ap length g.1 in
    omega arith

name_fits : (rest xs : List ℕ) (r : Option (List ℕ)) → strip (34 ∷ []) rest ≡ r → counted_or r rest ≡ Some xs
    → ((length xs < 2 ^ 64) × (rest ≡ with_count (length xs) (inside xs))) ⊎ (rest ≡ 34 ∷ inside xs)
name_fits rest xs (Some inner) e f =
    inr (strip_takes (34 ∷ []) rest inner e ∙ ap (λ (l : List ℕ). 34 ∷ l) (text_takes inner xs f).0)
name_fits rest xs None e f = inl (count_fits rest xs f, (count_takes rest xs f).0)

-- A line with bytes between quotes has an indent, the name `bytes`, and then bytes `t` that are read.
pub names_line : (text : List ℕ) (q : ℕ × List ℕ) → quoted_at text ≡ Some q
    → (level : ℕ) × (t : List ℕ) × (text ≡ spaces level ++ (codes "bytes " ++ t)) × ((xs : List ℕ) × IsAfterName t xs)
unfolding quoted_at
names_line text q e =
    let rest = bind_some (strip (codes "bytes ") (levels_at text).1)
    (λ r. after_name r >>= λ ys. Some ((levels_at text).0, ys)) q e in
    let ys = bind_some (after_name rest.0) (λ ys. Some ((levels_at text).0, ys)) q rest.2 in
    let h = name_takes rest.0 ys.0 (strip (34 ∷ []) rest.0) refl ys.1 in
    let k = name_fits rest.0 ys.0 (strip (34 ∷ []) rest.0) refl ys.1 in (
      (levels_at text).0,
      rest.0,
      levels_take text ∙ ap (λ (l : List ℕ). spaces (levels_at text).0 ++ l)
          (strip_takes (codes "bytes ") (levels_at text).1 rest.0 rest.1),
      (ys.0, (text_again ys.0 h.0, k)),
    )
