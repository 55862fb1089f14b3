-- Lemmas for `end_of_one`: the bytes after the texts at the front of an input are refused with at most one fault.
use Rattle.std.proofs.Common.{◌≡◌, inl, inr, ℕ, ◌≤◌, List, [], ◌∷◌, ◌++◌, length, Some, Result, Ok, Err, refl, sym, ap}
use Rattle.std.proofs.Common.{ap₂, subst, ◌∙◌, arith}
use Rattle.std.proofs.lemmas.List.{length-append}
use Rattle.capn_value.specs.Tree.{Tree, nil}
use Rattle.capn_value.specs.FirstCap.{first_cap}
use Rattle.capn_value.specs.Fits.{misfit}
use Rattle.capn_value.proofs.shared.Fitting.{fit_parts}
use Rattle.capn_value.specs.Cost.{height, most_height}
use Rattle.capn_value.specs.Text.{show_text}
use Rattle.capn_value.specs.declared.misfit.Misfit.{Misfit}
use Rattle.capn_text.specs.Laws.{TextsAreApart, FittingIsShowable, OneWrongLine, WrongIsNotDeep, DeepIsHigh}
use Rattle.capn_text.specs.Showable.{IsShowable}
use Rattle.capn_text.specs.Streams.{end_line, ended_lines, ended_text, first_lines, GoesTooDeep}
use Rattle.capn_make.specs.MadeInput.{IsTextRefused, EndsAfter, Follows, line_after}
use Rattle.capn_make.specs.declared.fault.MakeFault.{MakeFault}
use Rattle.capn_make.specs.declared.fault.MakeFault.TheVariants as faults
use Rattle.capn_make.proofs.OneReading.{fit_not, next_same}

-- ---- nothing is refused if nothing is left

text_some : (v : Tree) (more : List ℕ) → [] ≡ show_text v ++ (end_line ++ more) → ⊥
text_some v more e =
    let a = ap length e in
    let b = length-append (show_text v) (end_line ++ more) in
    let c = length-append end_line more in
    let d : length end_line ≡ 4 = refl in
    let z : length {A = ℕ} [] ≡ 0 = refl in
    absurd (omega arith)

pub nil_front : (x y : List ℕ) → [] ≡ x ++ y → x ≡ []
nil_front [] y e = refl
nil_front (x ∷ xs) y e = absurd cc

deep_some : GoesTooDeep [] → ⊥
deep_some h =
    let few = h.1 in
    let none : h.0 ≡ 0 = omega arith in
    let high = h.5 nil tt (ap (λ n. first_lines n (show_text nil)) none ∙ ap (λ n. first_lines n []) (sym none)) in
    let low : height nil ≡ 0 = refl in
    absurd (omega arith)

pub nothing_refused : (line : ℕ) (fault : MakeFault) → IsTextRefused line [] fault → ⊥
nothing_refused line faults.Memory h = h
nothing_refused line faults.Io h = h
nothing_refused line faults.InputTooLong h = h
nothing_refused line (faults.NotText n) h = h.some refl
nothing_refused line (faults.Misfit n m) h = elim h.1 [
  | inl deep ↦ deep_some deep.1
  | inr w ↦ text_some w.0 w.1 w.5
]
nothing_refused line (faults.Capability n index) h = text_some h.1 h.2 h.5
nothing_refused line (faults.Another n) h = h
nothing_refused line faults.NoText h = h

pub nothing_follows : (line : ℕ) (fault : MakeFault) → Follows line [] fault → ⊥
nothing_follows line faults.Memory h = h
nothing_follows line faults.Io h = h
nothing_follows line faults.InputTooLong h = h
nothing_follows line (faults.NotText n) h = h.1 refl
nothing_follows line (faults.Misfit n m) h = h
nothing_follows line (faults.Capability n index) h = h
nothing_follows line (faults.Another n) h =
    let b = h.2 in
    let none = ap ended_lines (nil_front b.1 b.2 b.4) in
    let some = b.6 in
    absurd (omega arith)
nothing_follows line faults.NoText h = h

-- ---- one reason

module _ (apart : TextsAreApart) (shows : FittingIsShowable) (one_line : OneWrongLine) (not_deep : WrongIsNotDeep)
    (high : DeepIsHigh) where
  too_high : (rest more : List ℕ) (v : Tree) → GoesTooDeep rest → IsShowable v → height v ≤ most_height
      → rest ≡ show_text v ++ (end_line ++ more) → ⊥
  too_high rest more v deep s low e =
      let tall = high v rest (end_line ++ more) deep s e in
      absurd (omega arith)

  wrong_misfit : (line : ℕ) (rest : List ℕ) (n k : ℕ) (m : Misfit) → IsTextRefused line rest (faults.NotText n)
      → IsTextRefused line rest (faults.Misfit k m) → ⊥
  wrong_misfit line rest n k m h g = elim g.1 [
    | inl deep ↦ (not_deep h.first.0 rest deep.1).1 h.first.2
    | inr w ↦ h.none w.0 w.1 w.3 w.4 w.5
  ]

  wrong_cap : (line : ℕ) (rest : List ℕ) (n k i : ℕ) → IsTextRefused line rest (faults.NotText n)
      → IsTextRefused line rest (faults.Capability k i) → ⊥
  wrong_cap line rest n k i h g = h.none g.1 g.2 (shows g.1 g.3 g.4) (fit_parts g.1 g.3).low g.5

  misfit_cap : (line : ℕ) (rest : List ℕ) (n k i : ℕ) (m : Misfit) → IsTextRefused line rest (faults.Misfit n m)
      → IsTextRefused line rest (faults.Capability k i) → ⊥
  misfit_cap line rest n k i m h g = elim h.1 [
    | inl deep ↦ too_high rest g.2 g.1 deep.1 (shows g.1 g.3 g.4) (fit_parts g.1 g.3).low g.5
    | inr w ↦
        (let p = next_same apart shows g.1 w.0 g.2 w.1 rest (shows g.1 g.3 g.4) w.3 g.5 w.5 in
        fit_not g.1 m g.3 (ap misfit p.0 ∙ w.6))
  ]

  same_misfit : (rest : List ℕ) (m o : Misfit) (line : ℕ) → IsTextRefused line rest (faults.Misfit line m)
      → IsTextRefused line rest (faults.Misfit line o) → m ≡ o
  same_misfit rest m o line h g = elim h.1 [
    | inl deep ↦ elim g.1 [
      | inl too ↦ deep.0 ∙ sym too.0
      | inr w ↦ absurd (too_high rest w.1 w.0 deep.1 w.3 w.4 w.5)
    ]
    | inr v ↦ elim g.1 [
      | inl deep ↦ absurd (too_high rest v.1 v.0 deep.1 v.3 v.4 v.5)
      | inr w ↦
          (let p = next_same apart shows v.0 w.0 v.1 w.1 rest v.3 w.3 v.5 w.5 in
          let some : Some m ≡ Some o = sym v.6 ∙ ap misfit p.0 ∙ w.6 in
          cc)
    ]
  ]

  misfits : (line : ℕ) (rest : List ℕ) (n k : ℕ) (m o : Misfit) → IsTextRefused line rest (faults.Misfit n m)
      → IsTextRefused line rest (faults.Misfit k o) → faults.Misfit n m ≡ faults.Misfit k o
  misfits line rest n k m o h g =
      ap₂ (λ a b. faults.Misfit a b) (h.0 ∙ sym g.0) (same_misfit rest m o line (refl, h.1) (refl, g.1))

  caps : (line : ℕ) (rest : List ℕ) (n k i j : ℕ) → IsTextRefused line rest (faults.Capability n i)
      → IsTextRefused line rest (faults.Capability k j) → faults.Capability n i ≡ faults.Capability k j
  caps line rest n k i j h g =
      let p = next_same apart shows h.1 g.1 h.2 g.2 rest (shows h.1 h.3 h.4) (shows g.1 g.3 g.4) h.5 g.5 in
      let some : Some i ≡ Some j = sym h.6 ∙ ap first_cap p.0 ∙ g.6 in
      let same : i ≡ j = cc in
      ap₂ (λ a b. faults.Capability a b) (h.0 ∙ sym g.0) same

  wrongs : (line : ℕ) (rest : List ℕ) (n k : ℕ) → IsTextRefused line rest (faults.NotText n)
      → IsTextRefused line rest (faults.NotText k) → faults.NotText n ≡ faults.NotText k
  wrongs line rest n k h g =
      let same = one_line ended_text h.first.0 g.first.0 rest h.first.2 g.first.2 in
      let a = h.first.1 in
      let b = g.first.1 in
      ap (λ a. faults.NotText a) (omega arith)

  pub one_fault : (line : ℕ) (rest : List ℕ) (f g : MakeFault) → IsTextRefused line rest f → IsTextRefused line rest g
      → f ≡ g
  one_fault line rest faults.Memory g h k = absurd h
  one_fault line rest faults.Io g h k = absurd h
  one_fault line rest faults.InputTooLong g h k = absurd h
  one_fault line rest (faults.Another n) g h k = absurd h
  one_fault line rest faults.NoText g h k = absurd h
  one_fault line rest (faults.NotText n) faults.Memory h k = absurd k
  one_fault line rest (faults.NotText n) faults.Io h k = absurd k
  one_fault line rest (faults.NotText n) faults.InputTooLong h k = absurd k
  one_fault line rest (faults.NotText n) (faults.Another i) h k = absurd k
  one_fault line rest (faults.NotText n) faults.NoText h k = absurd k
  one_fault line rest (faults.NotText n) (faults.NotText i) h k = wrongs line rest n i h k
  one_fault line rest (faults.NotText n) (faults.Misfit i m) h k = absurd (wrong_misfit line rest n i m h k)
  one_fault line rest (faults.NotText n) (faults.Capability i j) h k = absurd (wrong_cap line rest n i j h k)
  one_fault line rest (faults.Misfit n m) faults.Memory h k = absurd k
  one_fault line rest (faults.Misfit n m) faults.Io h k = absurd k
  one_fault line rest (faults.Misfit n m) faults.InputTooLong h k = absurd k
  one_fault line rest (faults.Misfit n m) (faults.Another i) h k = absurd k
  one_fault line rest (faults.Misfit n m) faults.NoText h k = absurd k
  one_fault line rest (faults.Misfit n m) (faults.NotText i) h k = absurd (wrong_misfit line rest i n m k h)
  one_fault line rest (faults.Misfit n m) (faults.Misfit i o) h k = misfits line rest n i m o h k
  one_fault line rest (faults.Misfit n m) (faults.Capability i j) h k = absurd (misfit_cap line rest n i j m h k)
  one_fault line rest (faults.Capability n l) faults.Memory h k = absurd k
  one_fault line rest (faults.Capability n l) faults.Io h k = absurd k
  one_fault line rest (faults.Capability n l) faults.InputTooLong h k = absurd k
  one_fault line rest (faults.Capability n l) (faults.Another i) h k = absurd k
  one_fault line rest (faults.Capability n l) faults.NoText h k = absurd k
  one_fault line rest (faults.Capability n l) (faults.NotText i) h k = absurd (wrong_cap line rest i n l k h)
  one_fault line rest (faults.Capability n l) (faults.Misfit i o) h k = absurd (misfit_cap line rest i n l o k h)
  one_fault line rest (faults.Capability n l) (faults.Capability i j) h k = caps line rest n i l j h k

  pub one_ending : (vs : List Tree) (rest : List ℕ) (r s : Result (Unit {0}) MakeFault) → EndsAfter vs rest r
      → EndsAfter vs rest s → r ≡ s
  one_ending vs rest (Ok u) (Ok w) h k = refl
  one_ending vs rest (Ok u) (Err g) h k =
      absurd (nothing_refused (line_after vs) g (subst (λ t. IsTextRefused (line_after vs) t g) h k))
  one_ending vs rest (Err f) (Ok u) h k =
      absurd (nothing_refused (line_after vs) f (subst (λ t. IsTextRefused (line_after vs) t f) k h))
  one_ending vs rest (Err f) (Err g) h k = ap (λ x. Err x) (one_fault (line_after vs) rest f g h k)
