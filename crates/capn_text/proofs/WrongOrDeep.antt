-- Lemmas for the law `refusals`: a text has at most one first wrong line, and none if the text goes too deep.
use Rattle.std.proofs.Common.{◌≡◌, inl, inr, ℕ, zero, suc, ◌+◌, ◌≤◌, ◌<◌, ◌==◌, Bool, true, false, cond}
use Rattle.std.proofs.Common.{List, [], ◌∷◌, ◌++◌, refl, sym, ap, subst, ◌∙◌, append_assoc, arith}
use Rattle.std.proofs.lemmas.Bool.{cases_lt}
use Rattle.std.proofs.lemmas.List.{append-nil}
use Rattle.capn_value.specs.Tree.{Tree}
use Rattle.capn_value.specs.Cost.{height, most_height}
use Rattle.capn_value.specs.Text.{show_text}
use Rattle.capn_text.specs.Showable.{IsShowable}
use Rattle.capn_text.specs.Streams.{end_line, first_lines, ended_lines, ended_text, IsFirstWrong, GoesTooDeep}
use Rattle.capn_text.specs.Laws.{OneWrongLine, WrongIsNotDeep, DeepIsHigh}
use Rattle.capn_text.proofs.LineCounts.{lines_append}
use Rattle.capn_text.proofs.TreeOfText.{apart}
use Rattle.capn_text.proofs.WholeLines.{first_front}

-- ---- first lines

by_newline : (k : Bool) (p q x y : List ℕ) (f g : List ℕ → List ℕ) → f p ≡ x → g q ≡ y
    → cond k (f (cond k p q)) (g (cond k p q)) ≡ cond k x y
by_newline true p q x y f g e h = e
by_newline false p q x y f g e h = h

fewer : (a b : ℕ) (x : List ℕ) → a ≤ b → first_lines a (first_lines b x) ≡ first_lines a x
fewer zero b x low = refl
fewer (suc a) zero x low = absurd (omega arith)
fewer (suc a) (suc b) [] low = refl
fewer (suc a) (suc b) (c ∷ cs) low =
    ap (λ t. c ∷ t) (by_newline (c == 10) (first_lines b cs) (first_lines (suc b) cs) (first_lines a cs)
    (first_lines (suc a) cs) (first_lines a) (first_lines (suc a)) (fewer a b cs (omega arith))
    (fewer (suc a) (suc b) cs low))

same_fewer : (a b : ℕ) (x y : List ℕ) → a ≤ b → first_lines b x ≡ first_lines b y → first_lines a x ≡ first_lines a y
same_fewer a b x y low e = sym (fewer a b x low) ∙ ap (first_lines a) e ∙ fewer a b y low

by_end : (k : Bool) (n m : ℕ) (x y : ℕ → List ℕ) → suc n ≤ cond k 1 0 + m → ((a : ℕ) → a ≤ m → x a ≡ y a)
    → cond k (x n) (x (suc n)) ≡ cond k (y n) (y (suc n))
by_end true n m x y low h = h n (omega arith)
by_end false n m x y low h = h (suc n) (omega arith)

-- If `x` has at least `n` complete lines, bytes after `x` do not change its first `n` lines.
pub within : (n : ℕ) (x y : List ℕ) → n ≤ ended_lines x → first_lines n (x ++ y) ≡ first_lines n x
within zero x y low = refl
within (suc n) [] y low = absurd (omega arith)
within (suc n) (c ∷ cs) y low =
    ap (λ t. c ∷ t) (by_end (c == 10) n (ended_lines cs) (λ a. first_lines a (cs ++ y)) (λ a. first_lines a cs) low
    (λ a few. within a cs y few))

by_rest : (k : Bool) (n m : ℕ) (x : ℕ → List ℕ) (y : List ℕ) → cond k 1 0 + m < suc n
    → ((a : ℕ) → m < a → (z : List ℕ) × (x a ≡ y ++ z)) → (z : List ℕ) × (cond k (x n) (x (suc n)) ≡ y ++ z)
by_rest true n m x y more h = h n (omega arith)
by_rest false n m x y more h = h (suc n) (omega arith)

-- If `x` has fewer than `n` complete lines, the first `n` lines of `x ++ y` begin with all of `x`.
pub beyond : (n : ℕ) (x y : List ℕ) → ended_lines x < n → (z : List ℕ) × (first_lines n (x ++ y) ≡ x ++ z)
beyond n [] y more = (first_lines n y, refl)
beyond zero (c ∷ cs) y more = absurd (omega arith)
beyond (suc n) (c ∷ cs) y more =
    let p = by_rest (c == 10) n (ended_lines cs) (λ a. first_lines a (cs ++ y)) cs more (λ a few. beyond a cs y few) in
    (p.0, ap (λ t. c ∷ t) p.1)

count_by : (k : Bool) (n m : ℕ) (x : ℕ → List ℕ) → suc n ≤ cond k 1 0 + m
    → ((a : ℕ) → a ≤ m → ended_lines (x a) ≡ a) → cond k 1 0 + ended_lines (cond k (x n) (x (suc n))) ≡ suc n
count_by true n m x low h = let e = h n (omega arith) in omega arith
count_by false n m x low h = let e = h (suc n) (omega arith) in omega arith

pub counted : (n : ℕ) (x : List ℕ) → n ≤ ended_lines x → ended_lines (first_lines n x) ≡ n
counted zero x low = refl
counted (suc n) [] low = absurd (omega arith)
counted (suc n) (c ∷ cs) low =
    count_by (c == 10) n (ended_lines cs) (λ a. first_lines a cs) low (λ a few. counted a cs few)

-- If `x` and `y` have the same first `n` lines, and these are complete in `y`, they are complete in `x` too.
as_many : (n : ℕ) (x y : List ℕ) → n ≤ ended_lines y → first_lines n x ≡ first_lines n y → n ≤ ended_lines x
as_many n x y low e =
    let f = first_front n x in
    let a = ap ended_lines f.1 ∙ lines_append (first_lines n x) f.0 in
    let b = ap ended_lines e ∙ counted n y low in
    omega arith

-- ---- one wrong line

not_before : (spell : Tree → List ℕ) (m n : ℕ) (t : List ℕ) → IsFirstWrong spell m t → IsFirstWrong spell n t → m < n
    → ⊥
not_before spell m n t h g less = h.6 g.2 g.3 (same_fewer m g.0 (spell g.2) t (let e = g.1 in omega arith) g.5)

pub one_wrong_line : OneWrongLine
one_wrong_line spell m n t h g = elim (cases_lt m n) [
  | inl less ↦ absurd (not_before spell m n t h g less)
  | inr more ↦ elim (cases_lt n m) [
    | inl less ↦ absurd (not_before spell n m t g h less)
    | inr low ↦ omega arith
  ]
]

-- ---- too deep

module _ (t : List ℕ) (deep : GoesTooDeep t) where
  -- Let `v` be showable. If `show_text v ++ x` and `t` have the same first `deep.0` lines, `v` has more than 256
  -- levels.
  has_lines : (v : Tree) (x : List ℕ) → IsShowable v → first_lines deep.0 (show_text v ++ x) ≡ first_lines deep.0 t
      → most_height < height v
  has_lines v x s e = elim (cases_lt (ended_lines (show_text v)) deep.0) [
    | inl more ↦
        (let u = deep.2 in
        let p = beyond deep.0 (show_text v) x more in
        let f = first_front deep.0 (show_text u) in
        let whole : show_text u ++ [] ≡ show_text v ++ (p.0 ++ f.0) =
        append-nil (show_text u) ∙ f.1 ∙ ap (λ y. y ++ f.0) (deep.4 ∙ sym e ∙ p.1)
        ∙ append_assoc (show_text v) p.0 f.0 in
        let same = apart 0 u v [] (p.0 ++ f.0) deep.3 s whole in
        subst (λ (w : Tree). most_height < height w) same.0 (deep.5 u deep.3 deep.4))
    | inr low ↦ deep.5 v s (sym (within deep.0 (show_text v) x low) ∙ e)
  ]

  module _ (spell : Tree → List ℕ) (tail : List ℕ) (is : (v : Tree) → spell v ≡ show_text v ++ tail) where
    not_wrong : (n : ℕ) → IsFirstWrong spell n t → ⊥
    not_wrong n h = elim (cases_lt h.0 deep.0) [
      | inl less ↦
          (let u = deep.2 in
          let next = h.1 in
          let few : n ≤ deep.0 = omega arith in
          let lines = as_many deep.0 (show_text u) t deep.1 deep.4 in
          h.6 u deep.3 (ap (first_lines n) (is u) ∙ within n (show_text u) tail (omega arith)
          ∙ same_fewer n deep.0 (show_text u) t few deep.4))
      | inr low ↦
          (let high = has_lines h.2 tail h.3 (ap (first_lines deep.0) (sym (is h.2))
          ∙ same_fewer deep.0 h.0 (spell h.2) t low h.5) in
          let most = h.4 in
          absurd (omega arith))
    ]

pub wrong_is_not_deep : WrongIsNotDeep
wrong_is_not_deep n t deep = (
  not_wrong t deep show_text [] (λ v. sym (append-nil (show_text v))) n,
  not_wrong t deep ended_text end_line (λ v. refl) n,
)

pub deep_is_high : DeepIsHigh
deep_is_high v t rest deep s e = has_lines t deep v rest s (ap (first_lines deep.0) (sym e))
