-- The canonical form of a value. (Page: canonicalization; what the page leaves open is our own.)
use Rattle.std.specs.Prelude.{◌≡◌, ◌↔◌, ℕ, List}
use Rattle.capn_value.specs.Tree.{Tree}
use Rattle.capn_value.specs.InRange.{InRange}
use Rattle.capn_value.specs.Fits.{Fits}
use Rattle.capn_value.specs.Same.{Same}
use Rattle.capn_value.specs.Cost.{base, cost}
use Rattle.capn_value.specs.Trim.{trimmed}
use Rattle.capn_walk.specs.Accepted.{paid}
use Rattle.capn_walk.specs.Limits.{Bounds}
use Rattle.capn_canon.specs.declared.form.Form.TheVariants as forms
use Rattle.capn_canon.specs.Reads.{Reads}
use Rattle.capn_canon.specs.Denotes.{Denotes}
use Rattle.capn_layout.specs.Layout.{canon}

-- Read bare under `limits`, `bs` denote the trimmed value of `v`. That value is the same as `v` (`Same`).
pub record ReadsBack (bs : List ℕ) (limits : Bounds) (v : Tree) : Type 0 where
  pub denotes : Denotes forms.Bare bs limits (trimmed v)
  pub same : Same (trimmed v) v

-- A walk of `bs`, read bare under `limits`, pays exactly the cost of the trimmed value of `v`.
abbrev pub PaysItsCost : List ℕ → Bounds → Tree → Type 0
PaysItsCost bs limits v =
    (message : List (List ℕ)) → Reads forms.Bare bs limits.message_words message
    → paid message limits ≡ cost (base limits.tariff) (trimmed v)

-- `bs` are the canonical bytes of the trimmed value of `v`.
abbrev pub IsItsOwnForm : List ℕ → Tree → Type 0
IsItsOwnForm bs v = canon (trimmed v) ≡ bs

-- A value `w` that fits and is in range has the canonical bytes `bs` if and only if `w` is the same as `v` (`Same`).
abbrev pub IsFormExactlyOf : List ℕ → Tree → Type 0
IsFormExactlyOf bs v = (w : Tree) → Fits w → InRange w → (canon w ≡ bs) ↔ Same v w

-- `bs` have the four properties of the canonical bytes of `v`.
pub record IsCanonicalForm (bs : List ℕ) (limits : Bounds) (v : Tree) : Type 0 where
  pub reads_back : ReadsBack bs limits v
  pub pays : PaysItsCost bs limits v
  pub own : IsItsOwnForm bs v
  pub exactly : IsFormExactlyOf bs v
