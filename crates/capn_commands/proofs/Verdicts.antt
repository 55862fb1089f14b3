-- Lemmas on the verdict line of a bare message. (For `put_verdict`.)
use Rattle.std.proofs.Common.{◌≡◌, inl, inr, ℕ, List, [], ◌∷◌, ◌++◌, codes, true, false, Result, Ok, Err, ap, sym, ◌∙◌}
use Rattle.std.proofs.Common.{◌≢◌, ◌⊎◌, IsErrAnd, refl}
use Rattle.capn_walk.specs.Limits.{Bounds}
use Rattle.capn_walk.specs.Accepted.{paid, number_of_visits}
use Rattle.capn_walk.specs.Accepted as walks
use Rattle.capn_walk.specs.declared.walk_answer.Stopped.{Stopped}
use Rattle.capn_target.specs.declared.target.Fault.TheVariants as walk_faults
use Rattle.capn_canon.specs.BareVerdict.{IsBareSurvey}
use Rattle.capn_canon.specs.declared.surveyed_bare.SurveyedBare.{SurveyedBare}
use Rattle.capn_commands.specs.MessageText.{AreCanonical, PutsBareMessageText, PutsLine, IsStopOf, priced}
use Rattle.capn_commands.specs.declared.plan.MessageText.TheVariants as kinds
use Rattle.capn_commands.specs.declared.fault.ToolFault.{ToolFault}

module _ (words : List ℕ) (limits : Bounds) (c : SurveyedBare) (told : IsBareSurvey words limits c) where
  same_line : (behind : List ℕ)
      → priced c.paid c.visits behind ≡ priced (paid (words ∷ []) limits) (number_of_visits (words ∷ []) limits) behind
  same_line behind = ap (λ (n : ℕ). priced n c.visits behind) told.pays
      ∙ ap (λ (n : ℕ). priced (paid (words ∷ []) limits) n behind) told.counts

  yes : c.is_canonical ≡ true → AreCanonical told.value words
  yes e = told.answer.0 e

  no : c.is_canonical ≡ false → AreCanonical told.value words → ⊥
  no e is = let bad : true ≡ false = sym (told.answer.1 is) ∙ e in cc

  pub verdict_yes : (old new : List ℕ) (r : Result (Unit {0}) ToolFault) → c.is_canonical ≡ true
      → PutsLine (priced c.paid c.visits (codes " canonical" ++ 10 ∷ [])) old new r
      → PutsBareMessageText kinds.Price words limits old new r
  verdict_yes old new (Ok u) e put = (
    priced c.paid c.visits (codes " canonical" ++ 10 ∷ []),
    (told.value, told.is, inl (yes e, same_line (codes " canonical" ++ 10 ∷ []))),
    put,
  )
  verdict_yes old new (Err fault) e put = (
    inl (
      put.0,
      (
        priced c.paid c.visits (codes " canonical" ++ 10 ∷ []),
        (told.value, told.is, inl (yes e, same_line (codes " canonical" ++ 10 ∷ []))),
      ),
    ),
    put.1,
  )

  pub verdict_no : (old new : List ℕ) (r : Result (Unit {0}) ToolFault) → c.is_canonical ≡ false
      → PutsLine (priced c.paid c.visits (codes " not-canonical" ++ 10 ∷ [])) old new r
      → PutsBareMessageText kinds.Price words limits old new r
  verdict_no old new (Ok u) e put = (
    priced c.paid c.visits (codes " not-canonical" ++ 10 ∷ []),
    (told.value, told.is, inr (no e, same_line (codes " not-canonical" ++ 10 ∷ []))),
    put,
  )
  verdict_no old new (Err fault) e put = (
    inl (
      put.0,
      (
        priced c.paid c.visits (codes " not-canonical" ++ 10 ∷ []),
        (told.value, told.is, inr (no e, same_line (codes " not-canonical" ++ 10 ∷ []))),
      ),
    ),
    put.1,
  )

pub verdict_stopped : (words : List ℕ) (limits : Bounds) (s : Stopped) (old : List ℕ) (r : Result (Unit {0}) ToolFault)
    → (s.fault ≡ walk_faults.Memory) ⊎ walks.IsWalkRefused (words ∷ []) limits s.fault s.place s.paid s.visits
    → s.fault ≢ walk_faults.Memory → IsErrAnd r (IsStopOf s) → PutsBareMessageText kinds.Price words limits old old r
verdict_stopped words limits s old (Ok u) why never is = absurd is
verdict_stopped words limits s old (Err fault) (inl memory) never is = absurd (never memory)
verdict_stopped words limits s old (Err fault) (inr refused) never is = (inr (s, is, refused), refl)
