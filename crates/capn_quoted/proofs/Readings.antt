-- Lemmas for `unquoted`: the bytes that are read, and the first wrong byte, byte by byte.
use Rattle.std.proofs.Common.{◌≡◌, drop, take, ◌-◌, ℕ, suc, ◌+◌, ◌≤◌, List, [], ◌∷◌, ◌++◌, length, Bool, true, false}
use Rattle.std.proofs.Common.{cond, append-nil, ◌<◌, Option, Some, None, refl, sym, ap, ap₂, ◌∙◌, append_assoc, arith}
use Rattle.std.proofs.lemmas.List.{take_all}
use Rattle.std.specs.Prelude.{slice_index}
use Rattle.capn_quoted.specs.declared.stage.Stage.{Stage}
use Rattle.capn_quoted.specs.Reading.{after_some, is_closed, follow, gives, goes_on_from, preceded, read_from}
use Rattle.capn_quoted.specs.Reading.{wrong_from}

abbrev some : List ℕ → Option (List ℕ)
some xs = Some xs

more_read : (front more : List ℕ) (read : Option (List ℕ))
    → preceded front (preceded more read) ≡ preceded (front ++ more) read
more_read front more (Some xs) = ap some (sym (append_assoc front more xs))
more_read front more None = refl

abbrev pub tail_of : List ℕ → List ℕ
tail_of t = take (length t - 1) (drop 1 t)

tail_is : (c : ℕ) (cs : List ℕ) → tail_of (c ∷ cs) ≡ cs
tail_is c cs = take_all (suc (length cs) - 1) cs (omega arith)

pub step : (s next : Stage) (front t more : List ℕ) (total : Option (List ℕ)) → 1 ≤ length t
    → follow s (slice_index t 0) ≡ Some next → more ≡ front ++ gives s (slice_index t 0)
    → preceded front (read_from s t) ≡ total → preceded more (read_from next (tail_of t)) ≡ total
step s next front [] more total h e f so_far = absurd (omega arith)
step s next front (c ∷ cs) more total h e f so_far =
    ap₂ (λ (l r : List ℕ). preceded l (read_from next r)) f (tail_is c cs)
    ∙ sym (more_read front (gives s c) (read_from next cs))
    ∙ ap (λ (o : Option Stage). preceded front (after_some o None (λ t. preceded (gives s c) (read_from t cs)))) (sym e)
    ∙ so_far

pub step_wrong : (s next : Stage) (t : List ℕ) (n : ℕ) → 1 ≤ length t → follow s (slice_index t 0) ≡ Some next
    → wrong_from s t ≡ n → wrong_from next (tail_of t) ≡ n
step_wrong s next [] n h e so_far = absurd (omega arith)
step_wrong s next (c ∷ cs) n h e so_far =
    ap (wrong_from next) (tail_is c cs)
    ∙ ap (λ (o : Option Stage). after_some o (length cs + 1) (λ t. wrong_from t cs)) (sym e)
    ∙ so_far

pub step_on : (s next : Stage) (t : List ℕ) (b : Bool) → 1 ≤ length t → follow s (slice_index t 0) ≡ Some next
    → goes_on_from s t ≡ b → goes_on_from next (tail_of t) ≡ b
step_on s next [] b h e so_far = absurd (omega arith)
step_on s next (c ∷ cs) b h e so_far =
    ap (goes_on_from next) (tail_is c cs)
    ∙ ap (λ (o : Option Stage). after_some o false (λ t. goes_on_from t cs)) (sym e)
    ∙ so_far

-- After the closing quote, `front` is what was read.
pub ended : (s : Stage) (front t : List ℕ) (total : Option (List ℕ)) → length t < 1 → is_closed s ≡ true
    → preceded front (read_from s t) ≡ total → total ≡ Some front
ended s front [] total h e f =
    sym f ∙ ap (λ (b : Bool). preceded front (cond b (Some []) None)) e ∙ ap some (append-nil front)
ended s front (c ∷ cs) total h e f = absurd (omega arith)
