-- Lemmas on lines of numbers, and on one line of many digits. (For `HeadText`, `LineBytes`, `LineStops` and others.)
use Rattle.std.proofs.Common.{◌≡◌, ℕ, zero, suc, ◌*◌, ◌^◌, ◌<◌, Bool, true, false, cond, List, [], ◌∷◌, ◌++◌}
use Rattle.std.proofs.Common.{length, Option, Some, None, codes, replicate, refl, sym, ap, subst, ◌∙◌, append_assoc}
use Rattle.std.proofs.Common.{arith, inl, inr}
use Rattle.std.specs.Prelude.{nat_le, ◌==◌, ⊤}
use Rattle.std.specs.List.{AllByRecursion}
use Rattle.std.specs.Fmt.{decimal}
use Rattle.std.proofs.lemmas.Bool.{leb-true, le-leb, eqb-true, ne_eqb}
use Rattle.capn_value.specs.Text.{line, hex16, one_line, digit}
use Rattle.capn_text.specs.inner.Tokens.{◌>>=◌, strip, indent_at, decimal_at, bit_at, word_at, many, word_line_at}
use Rattle.capn_text.specs.inner.Tokens.{number_line_at}
use Rattle.capn_text.specs.inner.Tokens.{row_line_at}
use Rattle.capn_text.proofs.Steps.{bind_some, guard_some, chosen, some_is, then, many_again, many_takes}
use Rattle.capn_text.proofs.TokenText.{strip_takes, indent_takes, indent_again, decimal_takes, decimal_again}
use Rattle.capn_text.proofs.TokenText.{word_takes, word_again}

pub line_is : (level : ℕ) (x rest : List ℕ) → line level x ++ rest ≡ replicate (2 * level) 32 ++ (x ++ 10 ∷ rest)
unfolding line
line_is level x rest =
    append_assoc (replicate (2 * level) 32) (x ++ 10 ∷ []) rest
    ∙ ap (λ y. replicate (2 * level) 32 ++ y) (append_assoc x (10 ∷ []) rest)

pub in_line : {A : Type 0} (level : ℕ) (x rest : List ℕ) (f : List ℕ → Option A)
    → (indent_at level (line level x ++ rest) >>= f) ≡ f (x ++ 10 ∷ rest)
in_line level x rest f =
    ap (λ r. r >>= f) (ap (indent_at level) (line_is level x rest) ∙ indent_again level (x ++ 10 ∷ rest))

pub line_from : (level : ℕ) (t a x b rest : List ℕ) → indent_at level t ≡ Some a → a ≡ x ++ b
    → strip (10 ∷ []) b ≡ Some rest → t ≡ line level x ++ rest
line_from level t a x b rest e f g =
    indent_takes level t a e
    ∙ ap (λ y. replicate (2 * level) 32 ++ y) (f ∙ ap (λ y. x ++ y) (strip_takes (10 ∷ []) b rest g))
    ∙ sym (line_is level x rest)

abbrev pub word_text : ℕ → ℕ → List ℕ
word_text level w = line level (codes "word " ++ hex16 w)

pub word_line_again : (level w : ℕ) (rest : List ℕ) → w < 2 ^ 64
    → word_line_at level (word_text level w ++ rest) ≡ Some (w, rest)
unfolding word_line_at
word_line_again level w rest fits =
    let digits : List ℕ → Option (ℕ × List ℕ) =
    (λ d. word_at d >>= λ n. strip (10 ∷ []) n.1 >>= λ r. Some (n.0, r)) in
    in_line level (codes "word " ++ hex16 w) rest (λ a. strip (codes "word ") a >>= digits)
    ∙ ap (λ (r : Option (ℕ × List ℕ)). r >>= λ n. strip (10 ∷ []) n.1 >>= λ z. Some (n.0, z))
    (word_again w (10 ∷ rest) fits)

pub word_line_takes : (level : ℕ) (t : List ℕ) (w : ℕ) (rest : List ℕ) → word_line_at level t ≡ Some (w, rest)
    → (t ≡ word_text level w ++ rest) × (w < 2 ^ 64)
unfolding word_line_at
word_line_takes level t w rest e =
    let a = bind_some (indent_at level t) (λ a. strip (codes "word ") a >>= λ d. word_at d
    >>= λ n. strip (10 ∷ []) n.1 >>= λ z. Some (n.0, z)) (w, rest) e in
    let b = bind_some (strip (codes "word ") a.0) (λ d. word_at d >>= λ n. strip (10 ∷ []) n.1
    >>= λ z. Some (n.0, z)) (w, rest) a.2 in
    let n = bind_some (word_at b.0) (λ n. strip (10 ∷ []) n.1 >>= λ z. Some (n.0, z)) (w, rest) b.2 in
    let z = bind_some (strip (10 ∷ []) n.0.1) (λ z. Some (n.0.0, z)) (w, rest) n.2 in
    let spelled : a.0 ≡ (codes "word " ++ hex16 n.0.0) ++ n.0.1 =
    then a.0 (codes "word ") (hex16 n.0.0) b.0 n.0.1 (strip_takes (codes "word ") a.0 b.0 b.1)
    (word_takes b.0 n.0.0 n.0.1 n.1).0 in
    subst (λ (y : ℕ × List ℕ). (t ≡ word_text level y.0 ++ y.1) × (y.0 < 2 ^ 64)) (some_is (n.0.0, z.0) (w, rest) z.2)
    (line_from level t a.0 (codes "word " ++ hex16 n.0.0) n.0.1 z.0 a.1 spelled z.1, (word_takes b.0 n.0.0 n.0.1 n.1).1)

abbrev pub number_text : ℕ → ℕ → List ℕ
number_text level n = line level (decimal n)

module _ (greatest level : ℕ) where
  pub number_line_again : greatest < 2 ^ 64 → (n : ℕ) (rest : List ℕ) → n < suc greatest
      → number_line_at greatest level (number_text level n ++ rest) ≡ Some (n, rest)
  unfolding number_line_at
  number_line_again top n rest fits =
      in_line level (decimal n) rest (λ a. decimal_at a >>= λ n. strip (10 ∷ []) n.1
      >>= λ r. cond (nat_le n.0 greatest) (Some (n.0, r)) None)
      ∙ ap (λ (r : Option (ℕ × List ℕ)). r >>= λ n. strip (10 ∷ []) n.1
      >>= λ z. cond (nat_le n.0 greatest) (Some (n.0, z)) None) (decimal_again n 10 rest (omega arith) refl)
      ∙ ap (λ b. cond b (Some (n, rest)) None) (le-leb n greatest (omega arith))

  pub number_line_takes : (t : List ℕ) (n : ℕ) (rest : List ℕ) → number_line_at greatest level t ≡ Some (n, rest)
      → (t ≡ number_text level n ++ rest) × (n < suc greatest)
  unfolding number_line_at
  number_line_takes t k rest e =
      let a = bind_some (indent_at level t) (λ a. decimal_at a >>= λ n. strip (10 ∷ []) n.1
      >>= λ r. cond (nat_le n.0 greatest) (Some (n.0, r)) None) (k, rest) e in
      let n = bind_some (decimal_at a.0) (λ n. strip (10 ∷ []) n.1
      >>= λ r. cond (nat_le n.0 greatest) (Some (n.0, r)) None) (k, rest) a.2 in
      let z = bind_some (strip (10 ∷ []) n.0.1) (λ r. cond (nat_le n.0.0 greatest) (Some (n.0.0, r)) None)
      (k, rest) n.2 in
      let g = guard_some (nat_le n.0.0 greatest) (n.0.0, z.0) (k, rest) z.2 in
      let low = leb-true n.0.0 greatest g.0 in
      subst (λ (y : ℕ × List ℕ). (t ≡ number_text level y.0 ++ y.1) × (y.0 < suc greatest)) g.1
      (line_from level t a.0 (decimal n.0.0) n.0.1 z.0 a.1 (decimal_takes a.0 n.0.0 n.0.1 n.1).0 z.1, omega arith)

-- ---- one line of many digits

abbrev pub one_digit : Bool → List ℕ
one_digit b = digit b ∷ []

pub bit_again : (b : Bool) (rest : List ℕ) → ⊤ → bit_at (one_digit b ++ rest) ≡ Some (b, rest)
bit_again true rest h = refl
bit_again false rest h = refl

pub bit_takes : (t : List ℕ) (b : Bool) (rest : List ℕ) → bit_at t ≡ Some (b, rest) → (t ≡ one_digit b ++ rest) × ⊤
bit_takes [] b rest e = absurd cc
bit_takes (c ∷ cs) b rest e =
    elim (chosen (c == 49) (Some (true, cs)) (cond (c == 48) (Some (false, cs)) None) (b, rest) e) [
      | inl h ↦
          let is = eqb-true c 49 h.0 in
          subst (λ (y : Bool × List ℕ). (c ∷ cs ≡ one_digit y.0 ++ y.1) × ⊤) (some_is (true, cs) (b, rest) h.1)
          (ap (λ x. x ∷ cs) is, tt)
      | inr h ↦
          let g = guard_some (c == 48) (false, cs) (b, rest) h.1 in
          subst (λ (y : Bool × List ℕ). (c ∷ cs ≡ one_digit y.0 ++ y.1) × ⊤) g.1
          (ap (λ x. x ∷ cs) (eqb-true c 48 g.0), tt)
    ]

module _ {X : Type 0} (one : List ℕ → Option (X × List ℕ)) (show : X → List ℕ) (text : List X → List ℕ)
    (P : X → Type 0) (none : text [] ≡ []) (more : (x : X) (xs : List X) → text (x ∷ xs) ≡ show x ++ text xs)
    (level : ℕ) where
  row_line-some : (n : ℕ) (t : List ℕ) → row_line_at one level (suc n) t
      ≡ (indent_at level t >>= λ l. many one (suc n) l >>= λ ys. strip (10 ∷ []) ys.1 >>= λ r. Some (ys.0, r))
  unfolding row_line_at
  row_line-some n t =
      ap (λ b. cond b (Some ([], t)) (indent_at level t >>= λ l. many one (suc n) l >>= λ ys. strip (10 ∷ []) ys.1
      >>= λ r. Some (ys.0, r))) (ne_eqb (suc n) 0 (λ e. omega arith))

  pub row_again : ((x : X) (rest : List ℕ) → P x → one (show x ++ rest) ≡ Some (x, rest))
      → (xs : List X) (rest : List ℕ) → AllByRecursion P xs
      → row_line_at one level (length xs) (one_line level (length xs) (text xs) ++ rest) ≡ Some (xs, rest)
  unfolding row_line_at
  row_again again [] rest all = refl
  row_again again (x ∷ xs) rest all =
      row_line-some (length xs) (line level (text (x ∷ xs)) ++ rest)
      ∙ in_line level (text (x ∷ xs)) rest (λ l. many one (suc (length xs)) l >>= λ ys. strip (10 ∷ []) ys.1
      >>= λ r. Some (ys.0, r))
      ∙ ap (λ (r : Option (List X × List ℕ)). r >>= λ ys. strip (10 ∷ []) ys.1 >>= λ z. Some (ys.0, z))
      (many_again one show text P none more again (x ∷ xs) (10 ∷ rest) all)

  pub row_takes : ((t : List ℕ) (x : X) (rest : List ℕ) → one t ≡ Some (x, rest) → (t ≡ show x ++ rest) × P x)
      → (n : ℕ) (t : List ℕ) (xs : List X) (rest : List ℕ) → row_line_at one level n t ≡ Some (xs, rest)
      → (t ≡ one_line level (length xs) (text xs) ++ rest) × (length xs ≡ n) × AllByRecursion P xs
  unfolding row_line_at
  row_takes takes zero t xs rest e =
      subst (λ (y : List X × List ℕ). (t ≡ one_line level (length y.0) (text y.0) ++ y.1) ×
      (length y.0 ≡ 0) × AllByRecursion P y.0) (some_is ([], t) (xs, rest) e) (refl, refl, tt)
  row_takes takes (suc n) t xs rest e =
      let a = bind_some (indent_at level t) (λ l. many one (suc n) l >>= λ ys. strip (10 ∷ []) ys.1
      >>= λ r. Some (ys.0, r)) (xs, rest) (sym (row_line-some n t) ∙ e) in
      let b = bind_some (many one (suc n) a.0) (λ ys. strip (10 ∷ []) ys.1 >>= λ r. Some (ys.0, r)) (xs, rest) a.2 in
      let z = bind_some (strip (10 ∷ []) b.0.1) (λ r. Some (b.0.0, r)) (xs, rest) b.2 in
      let m = many_takes one show text P none more takes (suc n) a.0 b.0.0 b.0.1 b.1 in
      let whole = line_from level t a.0 (text b.0.0) b.0.1 z.0 a.1 m.0 z.1 in
      let here : one_line level (length b.0.0) (text b.0.0) ≡ line level (text b.0.0) =
      ap (λ k. one_line level k (text b.0.0)) m.1 in
      subst (λ (y : List X × List ℕ). (t ≡ one_line level (length y.0) (text y.0) ++ y.1) ×
      (length y.0 ≡ suc n) × AllByRecursion P y.0)
      (some_is (b.0.0, z.0) (xs, rest) z.2) (whole ∙ ap (λ k. k ++ z.0) (sym here), m.1, m.2)
