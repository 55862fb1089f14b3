-- Lemmas for `first_value`, `read` and `read_next`: the value that is read, and whether it fits.
use Rattle.std.proofs.Common.{◌≡◌, ◌≤◌, ◌+◌, ◌-◌, ℕ, List, [], ◌++◌, length, take, Some, None, sym, ap, ◌∙◌, arith}
use Rattle.std.proofs.Math.Seq.{take-append_seam}
use Rattle.std.proofs.lemmas.List.{length-append, append-nil}
use Rattle.capn_value.specs.Tree.{Tree}
use Rattle.capn_value.specs.Fits.{Fits, misfit}
use Rattle.capn_value.specs.declared.misfit.Misfit.{Misfit}
use Rattle.capn_value.specs.Text.{show_text}
use Rattle.capn_value.specs.Cost.{height, most_height}
use Rattle.capn_text.specs.declared.fault.TextFault.TheVariants as faults
use Rattle.capn_text.specs.inner.Values.{tree_at}
use Rattle.capn_text.specs.Showable.{IsShowable}
use Rattle.capn_text.proofs.Steps.{some_is}
use Rattle.capn_text.proofs.TreeOfText.{tree_again}

pub fits_not : (t v : Tree) (m : Misfit) → v ≡ t → Fits t → misfit v ≡ Some m → ⊥
unfolding Fits
fits_not t v m same f e = let h = sym f ∙ ap misfit (sym same) ∙ e in absurd cc

pub misfit_is : (m n : Misfit) → faults.Misfit m ≡ faults.Misfit n → m ≡ n
misfit_is m n e = cc

pub all_of : (t : List ℕ) (v : Tree) → t ≡ show_text v → t ≡ show_text v ++ []
all_of t v e = e ∙ sym (append-nil (show_text v))

-- ---- the text at the front

pub first_again : (t : List ℕ) (v : Tree) (rest : List ℕ) → IsShowable v → height v ≤ most_height
    → t ≡ show_text v ++ rest → tree_at 256 0 t ≡ Some (v, rest)
first_again t v rest s low e = ap (tree_at 256 0) e ∙ tree_again 256 0 v rest low s

-- If the text of a showable `v` of at most 256 levels is at the front of `t`, a value is read from `t`.
pub no_first : (t : List ℕ) (v : Tree) (rest : List ℕ) → tree_at 256 0 t ≡ None → IsShowable v → height v ≤ most_height
    → t ≡ show_text v ++ rest → ⊥
no_first t v rest none s low e = let h = sym (first_again t v rest s low e) ∙ none in absurd cc

pub is_first : (t : List ℕ) (v w : Tree) (rest after : List ℕ) → IsShowable v → height v ≤ most_height
    → t ≡ show_text v ++ rest → tree_at 256 0 t ≡ Some (w, after) → (w ≡ v) × (after ≡ rest)
is_first t v w rest after s low e h =
    let p = some_is (w, after) (v, rest) (sym h ∙ first_again t v rest s low e) in
    (ap (λ (q : Tree × List ℕ). q.0) p, ap (λ (q : Tree × List ℕ). q.1) p)

pub before : (t x rest : List ℕ) → t ≡ x ++ rest → take (length t - length rest) t ≡ x
before t x rest e =
    let n : length t ≡ length x + length rest = ap length e ∙ length-append x rest in
    let k : length t - length rest ≡ length x = omega arith in
    rw k (ap (take (length x)) e ∙ take-append_seam x rest)
