-- Runs of words: their lengths, and runs that are made of shorter ones.
use Rattle.std.proofs.Common.{◌≡◌, ℕ, zero, suc, ◌+◌, ◌-◌, ◌*◌, ◌<◌, List, [], ◌∷◌, ◌++◌, length, refl, ap, ap₂}
use Rattle.std.proofs.Common.{sym, ◌∙◌, arith, append_assoc, length-append}
use Rattle.std.proofs.lemmas.List.{append-nil}
use Rattle.capn_words.specs.declared.pointer.Width.TheVariants.{W0, W1, W8, W16, W32, W64, Link, Rows}
use Rattle.capn_target.specs.declared.target.Shape.{Shape}
use Rattle.capn_target.specs.declared.target.Shape.TheVariants as shapes
use Rattle.capn_target.specs.Shapes.{extent, RowsFit}
use Rattle.capn_target.specs.Target.{content_words}
use Rattle.capn_cover.specs.declared.covered.Role.{Role}
use Rattle.capn_cover.specs.declared.covered.Role.TheVariants as roles
use Rattle.capn_cover.specs.Covers.{Covering, run, rows_run, content_run}

-- a run has as many coverings as words
pub run-length : (slot : ℕ) (role : Role) (first n : ℕ) → length (run slot role first n) ≡ n
run-length slot role first zero = refl
run-length slot role first (suc n) = ap suc (run-length slot role (first + 1) n)

-- a run of `i + n` words is a run of the first `i` words and a run of the `n` words after them
pub run-add : (slot : ℕ) (role : Role) (first i n : ℕ)
    → run slot role first (i + n) ≡ run slot role first i ++ run slot role (first + i) n
run-add slot role first zero n =
    let a : 0 + n ≡ n = omega arith in
    let b : first + 0 ≡ first = omega arith in
    rw (a, b) refl
run-add slot role first (suc i) n =
    let a : suc i + n ≡ suc (i + n) = omega arith in
    let b : first + 1 + i ≡ first + suc i = omega arith in
    rw a (ap (λ (cs : List Covering). (record { word = first; slot = slot; role = role }) ∷ cs)
    (rw (← b) (run-add slot role (first + 1) i n)))

-- a run of `i + 1` words is a run of the first `i` words, and then the last word
pub run-next : (slot : ℕ) (role : Role) (first i : ℕ)
    → run slot role first (i + 1)
    ≡ run slot role first i ++ (record { word = first + i; slot = slot; role = role }) ∷ []
run-next slot role first i = run-add slot role first i 1

module _ (slot a b : ℕ) where
  -- one row: its data words, and then its slots
  abbrev pub row_run : ℕ → List Covering
  row_run first = run slot roles.Data first a ++ run slot roles.Slot (first + a) b

  pub row-length : (first : ℕ) → length (row_run first) ≡ a + b
  row-length first =
      length-append (run slot roles.Data first a) (run slot roles.Slot (first + a) b)
      ∙ ap₂ (λ (x y : ℕ). x + y) (run-length slot roles.Data first a) (run-length slot roles.Slot (first + a) b)

  -- rows have as many coverings as words
  pub rows-length : (first n : ℕ) → length (rows_run slot first a b n) ≡ n * (a + b)
  rows-length first zero = omega arith
  rows-length first (suc n) =
      let one = row-length first in
      let rest = rows-length (first + (a + b)) n in
      let more : suc n * (a + b) ≡ (a + b) + n * (a + b) = omega arith in
      length-append (row_run first) (rows_run slot (first + (a + b)) a b n)
      ∙ ap₂ (λ (x y : ℕ). x + y) one rest ∙ sym more

  -- `i + n` rows are the first `i` rows and the `n` rows after them
  pub rows-add : (first i n : ℕ)
      → rows_run slot first a b (i + n) ≡ rows_run slot first a b i ++ rows_run slot (first + i * (a + b)) a b n
  rows-add first zero n =
      let x : 0 + n ≡ n = omega arith in
      let y : first + 0 * (a + b) ≡ first = omega arith in
      rw (x, y) refl
  rows-add first (suc i) n =
      let x : suc i + n ≡ suc (i + n) = omega arith in
      let y : first + (a + b) + i * (a + b) ≡ first + suc i * (a + b) = omega arith in
      ap (rows_run slot first a b) x
      ∙ ap (λ (cs : List Covering). row_run first ++ cs)
      (rows-add (first + (a + b)) i n
      ∙ ap (λ (k : ℕ). rows_run slot (first + (a + b)) a b i ++ rows_run slot k a b n) y)
      ∙ sym (append_assoc (row_run first) (rows_run slot (first + (a + b)) a b i)
      (rows_run slot (first + suc i * (a + b)) a b n))

  -- `n` rows are the rows before row `i`, row `i`, and the rows after it
  pub rows-split : (first i n : ℕ) → i < n
      → rows_run slot first a b n ≡ rows_run slot first a b i
      ++ (row_run (first + i * (a + b)) ++ rows_run slot (first + i * (a + b) + (a + b)) a b (n - suc i))
  rows-split first i n h =
      let e : n ≡ i + suc (n - suc i) = omega arith in
      ap (rows_run slot first a b) e ∙ rows-add first i (suc (n - suc i))

  pub rows-next : (first i : ℕ)
      → rows_run slot first a b (i + 1) ≡ rows_run slot first a b i ++ row_run (first + i * (a + b))
  rows-next first i =
      rows-add first i 1
      ∙ ap (λ (cs : List Covering). rows_run slot first a b i ++ cs) (only (first + i * (a + b)))
    where
      only : (k : ℕ) → rows_run slot k a b 1 ≡ row_run k
      only k = append-nil (row_run k)

-- an object has as many coverings as words
pub content-length : (slot first : ℕ) (shape : Shape) → RowsFit shape
    → length (content_run slot first shape) ≡ extent shape
content-length slot first (shapes.Node a b) h = row-length slot a b first
content-length slot first (shapes.Many W0 n) h = run-length slot roles.Numbers first (content_words W0 n)
content-length slot first (shapes.Many W1 n) h = run-length slot roles.Numbers first (content_words W1 n)
content-length slot first (shapes.Many W8 n) h = run-length slot roles.Numbers first (content_words W8 n)
content-length slot first (shapes.Many W16 n) h = run-length slot roles.Numbers first (content_words W16 n)
content-length slot first (shapes.Many W32 n) h = run-length slot roles.Numbers first (content_words W32 n)
content-length slot first (shapes.Many W64 n) h = run-length slot roles.Numbers first (content_words W64 n)
content-length slot first (shapes.Many Link n) h = run-length slot roles.Slot first n
content-length slot first (shapes.Many Rows n) h = absurd h
content-length slot first (shapes.Rows n a b span) h =
    let rows = rows-length slot a b (first + 1) n in
    let slack = run-length slot roles.Slack (first + 1 + n * (a + b)) (span - n * (a + b)) in
    let both =
    length-append (rows_run slot (first + 1) a b n)
    (run slot roles.Slack (first + 1 + n * (a + b)) (span - n * (a + b))) in
    let all : n * (a + b) + (span - n * (a + b)) ≡ span = omega arith in
    ap suc (both ∙ ap₂ (λ (x y : ℕ). x + y) rows slack ∙ all) ∙ omega arith
