-- Lemmas for `one_text`: the input determines the result and the complete text of a run that writes no text about a
-- refusal.
use Rattle.std.proofs.Common.{◌≡◌, ℕ, List, [], ◌++◌, Result, Ok, Err, refl, ap, sym, ◌∙◌}
use Rattle.capn_canon.specs.declared.form.Form.{Form}
use Rattle.capn_canon.specs.declared.refusal.Refusal.{Refusal}
use Rattle.capn_serve.specs.declared.fault.RunFault.{RunFault}
use Rattle.capn_serve.specs.declared.fault.RunFault.TheVariants as faults
use Rattle.capn_serve.specs.declared.position.Position.{Position}
use Rattle.capn_serve.specs.Finish.{Finish, IsWholeText, last_result, last_text}
use Rattle.capn_serve.specs.Fold.{Fold}
use Rattle.capn_serve.specs.WhatCame.{Came}
use Rattle.capn_serve.proofs.shared.OneServing.{Ending, IsOneWay, done, one_serving, stopped}

-- A run writes no text about a refusal.
abbrev pub TellsNothing : {X A E : Type 0} → Finish X A E → Type 0
TellsNothing {X} finish = (y : X) (at : Position) (r : Refusal) (came : Came) → finish.told y at r came ≡ []

module _ {X A E : Type 0} (finish : Finish X A E) (none : TellsNothing finish) where
  pub no_text : (fault : RunFault) (y : X) (came : Came) → last_text finish (stopped fault) y came ≡ []
  no_text (faults.Refused at r) y came = none y at r came
  no_text faults.Memory y came = refl
  no_text faults.Io y came = refl
  no_text faults.InputTooLong y came = refl

  same_text : (p : Ending) (y : X) (a b : Came) → last_text finish p y a ≡ last_text finish p y b
  same_text (Ok u) y a b = refl
  same_text (Err fault) y a b = no_text fault y a ∙ sym (no_text fault y b)

  module _ (f : Fold X) (one : IsOneWay f) (x : X) (form : Form) (input : List ℕ) where
    -- An `input` has at most one complete text and at most one result.
    pub one_whole : (t u : List ℕ) (r s : Result A E) → IsWholeText f x finish form input t r
        → IsWholeText f x finish form input u s → (t ≡ u) × (r ≡ s)
    one_whole t u r s (m, p, y, a, are, tells, e, i) (n, q, z, b, also, told, c, j) =
        let same = one_serving f one x form input m n p q y z are also in
        let ends : p ≡ q = same.1.0 in
        let last : y ≡ z = same.1.1 in (
          e ∙ ap (λ (l : List ℕ). l ++ last_text finish p y a) same.0
              ∙ ap (λ (l : List ℕ). n ++ l) (same_text p y a b
              ∙ ap (λ (o : Ending). last_text finish o y b) ends ∙ ap (λ (w : X). last_text finish q w b) last)
              ∙ sym c,
          i ∙ ap (λ (o : Ending). last_result finish o y) ends ∙ ap (λ (w : X). last_result finish q w) last ∙ sym j,
        )
