-- Lemmas on `Lies`: words that a list of words has from a given index on. (For `Belonging`, `NumbersTold`, `RowsTold`
-- and others.)
use Rattle.std.proofs.Common.{◌≡◌, ℕ, ◌+◌, ◌<◌}
use Rattle.std.proofs.Common.{List, ◌++◌, length, slice_index}
use Rattle.std.proofs.Common.{ap, subst, ◌∙◌, arith, length-append}
use Rattle.std.proofs.Math.ListN.{get_or-append}
use Rattle.std.proofs.Math.Seq.{get_or-append-add}
use Rattle.capn_layout.specs.Layout.{size}

module _ (cs : List ℕ) where
  -- ---- `xs` are the words of `cs` from index `at` on

  abbrev pub Lies : ℕ → List ℕ → Type 0
  Lies at xs = (j : ℕ) → j < length xs → slice_index cs (at + j) ≡ slice_index xs j

  pub lies-front : (at : ℕ) (xs ys : List ℕ) → Lies at (xs ++ ys) → Lies at xs
  lies-front at xs ys h j lt =
      let l = length-append xs ys in
      h j (omega arith) ∙ get_or-append xs ys 0 j lt

  pub lies-back : (at size : ℕ) (xs ys : List ℕ) → length xs ≡ size → Lies at (xs ++ ys) → Lies (at + size) ys
  lies-back at size xs ys s h j lt =
      let l = length-append xs ys in
      let e : at + size + j ≡ at + (length xs + j) = omega arith in
      ap (slice_index cs) e ∙ h (length xs + j) (omega arith) ∙ get_or-append-add xs ys j 0

  pub lies-as : (at : ℕ) (xs ys : List ℕ) → xs ≡ ys → Lies at xs → Lies at ys
  lies-as at xs ys e h = subst (Lies at) e h
