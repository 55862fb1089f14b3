-- Lemmas for `make_first` and `make_one`: the only text that form `Bare` takes, and the bytes after that text.
use Rattle.std.proofs.Common.{◌≡◌, inl, inr, ℕ, ◌+◌, ◌≤◌, List, [], ◌∷◌, ◌++◌, length, Some}
use Rattle.std.proofs.Common.{Result, Ok, Err, refl, sym, ap, subst, ◌∙◌, arith, Vec}
use Rattle.std.proofs.lemmas.List.{append-nil}
use Rattle.capn_value.specs.Tree.{Tree}
use Rattle.capn_value.specs.Text.{show_text}
use Rattle.capn_text.specs.Streams.{Place, end_line, ended_lines, stream_text}
use Rattle.capn_canon.specs.declared.form.Form.TheVariants as forms
use Rattle.capn_make.specs.WrittenValue.{AreMade}
use Rattle.capn_make.specs.MadeInput.{AreFirst, Follows, IsTextRefused, line_after}
use Rattle.capn_make.specs.inner.RunParts.{HasMade, GoesOn, MakesNext, EndsOne}
use Rattle.capn_make.specs.declared.fault.MakeFault.{MakeFault}
use Rattle.capn_make.specs.declared.fault.MakeFault.TheVariants as faults
use Rattle.capn_make.proofs.FirstTexts.{lines_append}
use Rattle.capn_make.proofs.NextTexts.{one_more}

line_more : (v : Tree) (vs : List Tree) → 1 ≤ ended_lines (stream_text (v ∷ vs))
line_more v vs =
    let a = lines_append (show_text v) (end_line ++ stream_text vs) in
    let b = lines_append end_line (stream_text vs) in
    let one : ended_lines end_line ≡ 1 = refl in
    omega arith

pub none_at : (vs : List Tree) (line : ℕ) → line ≡ line_after vs → line ≡ 1 → vs ≡ []
none_at [] line is first = refl
none_at (v ∷ vs) line is first = let more = line_more v vs in absurd (omega arith)

pub one_at : (vs : List Tree) (line : ℕ) → line ≡ line_after vs → (line ≡ 1 → ⊥) → length vs ≤ 1
    → (v : Tree) × (vs ≡ v ∷ [])
one_at [] line is later few = absurd (later is)
one_at (v ∷ []) line is later few = (v, refl)
one_at (v ∷ w ∷ vs) line is later few = absurd (omega arith)

pub ends_for_a_reason : (place : Place) (r : Result (Unit {0}) MakeFault) → EndsOne place r → r ≡ Err faults.Memory → ⊥
ends_for_a_reason place (Ok u) h e = absurd cc
ends_for_a_reason place (Err faults.Memory) h e = h
ends_for_a_reason place (Err faults.Io) h e = h
ends_for_a_reason place (Err faults.InputTooLong) h e = h
ends_for_a_reason place (Err (faults.NotText n)) h e = absurd cc
ends_for_a_reason place (Err (faults.Misfit n m)) h e = h
ends_for_a_reason place (Err (faults.Capability n index)) h e = h
ends_for_a_reason place (Err (faults.Another n)) h e = absurd cc
ends_for_a_reason place (Err faults.NoText) h e = h

module _ (input : List ℕ) (place : Place) (made : List ℕ) (h : HasMade forms.Bare input place made) where
  pub none_yet : place.line ≡ 1 → h.values ≡ []
  none_yet first = none_at h.values place.line h.line first

  pub whole_input : h.values ≡ [] → input ≡ place.rest
  whole_input none = h.first.are ∙ ap (λ vs. stream_text vs ++ place.rest) none

  pub no_text : place.line ≡ 1 → place.rest ≡ [] → GoesOn forms.Bare input place made (Err faults.NoText)
  no_text first over = inr (inr h, inl (whole_input (none_yet first) ∙ over, refl))

  pub first_refused : (A : Type 0) (new : Place) (fault : MakeFault) → place.line ≡ 1
      → MakesNext {A = A} forms.Bare place new (Err fault) → GoesOn forms.Bare input new made (Err fault)
  first_refused A new fault first (inl memory) = inl memory
  first_refused A new fault first (inr (at, refused)) =
      let all = whole_input (none_yet first) in
      inr (
        elim at [
          | inl capability ↦ inl capability
          | inr same ↦ inr (subst (λ p. HasMade forms.Bare input p made) (sym same) h)
        ],
        inr (inl (subst (λ t. IsTextRefused 1 t fault) (sym all) (
            subst (λ n. IsTextRefused n place.rest fault) first refused
            ))),
      )

  -- Case: if the only text was parsed before, the bytes at `place`, which follow that text, decide the result `r`.
  pub ends_so : (r : Result (Unit {0}) MakeFault) → (place.line ≡ 1 → ⊥) → EndsOne place r
      → GoesOn forms.Bare input place made r
  ends_so (Ok u) later over =
      let one = one_at h.values place.line h.line later (h.few refl) in
      let first = subst (λ vs. AreFirst vs input place.rest) one.1 h.first in
      let are = subst (λ vs. AreMade forms.Bare vs made) one.1 h.are in
      let text = are.4 ∙ ap (λ t. are.0 ++ t) are.3 ∙ append-nil are.0 ∙ are.2 in
      (h, (one.0, subst (AreFirst (one.0 ∷ []) input) over first, text), over)
  ends_so (Err fault) later follows =
      let one = one_at h.values place.line h.line later (h.few refl) in
      let first = subst (λ vs. AreFirst vs input place.rest) one.1 h.first in
      let line = h.line ∙ ap line_after one.1 in
      inr (inr h, inr (inr (one.0, place.rest, first, subst (λ n. Follows n place.rest fault) line follows)))

pub later_line : (v : Tree) (old new : Place) → old.rest ≡ show_text v ++ (end_line ++ new.rest)
    → new.line + ended_lines new.rest ≡ old.line + ended_lines old.rest → old.line ≡ 1 → new.line ≡ 1 → ⊥
later_line v old new is counted first again =
    let a = ap ended_lines is ∙ lines_append (show_text v) (end_line ++ new.rest) in
    let b = lines_append end_line new.rest in
    let one : ended_lines end_line ≡ 1 = refl in
    absurd (omega arith)

-- Case: if the first text is parsed now, the bytes at `new`, which follow that text, decide the result `r`.
pub first_made : (A : Type 0) (input : List ℕ) (old new : Place) (made after : List ℕ) (piece : Vec ℕ A)
    → HasMade forms.Bare input old made → old.line ≡ 1 → MakesNext {A = A} forms.Bare old new (Ok (Some piece))
    → after ≡ made ++ piece.items → (r : Result (Unit {0}) MakeFault) → EndsOne new r
    → GoesOn forms.Bare input new after r
first_made A input old new made after piece h first next is r follows =
    let m = one_more forms.Bare input A old new made piece h next (λ e. none_yet input old made h first) in
    ends_so input new after (subst (HasMade forms.Bare input new) (sym is) m) r
    (later_line next.0 old new next.2 next.4 first) follows
