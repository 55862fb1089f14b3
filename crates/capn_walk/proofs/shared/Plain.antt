-- No visit and no stop of a walk has the fault `Memory`. (For `verdicts` and capn_c.)
use Rattle.std.proofs.Common.{◌≡◌, ◌≢◌, inl, inr, refl, ℕ, zero, suc, List, [], ◌∷◌, ◌++◌, Result, Ok, Err, sym, subst}
use Rattle.std.proofs.Common.{◌∙◌}
use Rattle.std.specs.Bool.{⊤}
use Rattle.std.specs.List.{flat_map}
use Rattle.capn_words.specs.declared.space.Place.{Place}
use Rattle.capn_words.proofs.shared.Choices.{pick}
use Rattle.capn_value.specs.Cost.{base}
use Rattle.capn_target.specs.declared.target.Target.{Target}
use Rattle.capn_target.specs.declared.target.Target.TheVariants as targets
use Rattle.capn_target.specs.declared.target.Fault.{Fault}
use Rattle.capn_target.specs.declared.target.Fault.TheVariants as faults
use Rattle.capn_target.specs.Target.{target}
use Rattle.capn_walk.specs.Visits.{Visit, pays, fails, last_visit, visit, visits, slots}
use Rattle.capn_walk.specs.Accepted.{IsStopHere, paid_of, root, may_be_root, visits_at_root, root_visits, IsWalkRefused}
use Rattle.capn_walk.specs.Limits.{Bounds}
use Rattle.capn_target.proofs.shared.Ways.{never-memory}

-- the visit pays, or fails with a fault other than `Memory`
abbrev pub IsPlainVisit : Visit → Type 0
IsPlainVisit (pays at n) = ⊤
IsPlainVisit (fails at e) = e ≢ faults.Memory

-- each visit of the list pays, or fails with a fault other than `Memory`
abbrev pub ArePlain : List Visit → Type 0
ArePlain [] = ⊤
ArePlain (v ∷ vs) = IsPlainVisit v × ArePlain vs

plain-append : (vs ws : List Visit) → ArePlain vs → ArePlain ws → ArePlain (vs ++ ws)
plain-append [] ws h k = k
plain-append (v ∷ vs) ws h k = (h.0, plain-append vs ws h.1 k)

plain-flat : (f : Place → List Visit) (ps : List Place) → ((p : Place) → ArePlain (f p)) → ArePlain (flat_map f ps)
plain-flat f [] h = tt
plain-flat f (p ∷ ps) h = plain-append (f p) (flat_map f ps) (h p) (plain-flat f ps h)

plain-among : (vs ws : List Visit) (v : Visit) → ArePlain (vs ++ v ∷ ws) → IsPlainVisit v
plain-among [] ws v h = h.0
plain-among (u ∷ vs) ws v h = plain-among vs ws v h.1

module _ (m : List (List ℕ)) (base : ℕ) where
  plain-last : (at : Place) (r : Result Target Fault) → target m at ≡ r → ArePlain (last_visit m base at r)
  plain-last at (Ok targets.Nil) h = (tt, tt)
  plain-last at (Ok (targets.Cap k)) h = (tt, tt)
  plain-last at (Ok (targets.Content s start shape pads)) h = ((λ e. absurd cc), tt)
  plain-last at (Err e) h = (never-memory m at e h, tt)

  plain-visit : (below : Place → List Visit) (at : Place) (r : Result Target Fault) → target m at ≡ r
      → ((p : Place) → ArePlain (below p)) → ArePlain (visit m base below at r)
  plain-visit below at (Ok (targets.Content s start shape pads)) h k = (tt, plain-flat below (slots s start shape) k)
  plain-visit below at (Ok targets.Nil) h k = plain-last at (Ok targets.Nil) h
  plain-visit below at (Ok (targets.Cap c)) h k = plain-last at (Ok (targets.Cap c)) h
  plain-visit below at (Err e) h k = plain-last at (Err e) h

  plain-visits : (d : ℕ) (at : Place) → ArePlain (visits m base d at)
  unfolding visits
  plain-visits zero at = plain-last at (target m at) refl
  plain-visits (suc d) at = plain-visit (visits m base d) at (target m at) refl (plain-visits d)

  plain-at_root : (r : Result Target Fault) (vs : List Visit) → ArePlain vs → ArePlain (visits_at_root m base r vs)
  plain-at_root (Ok found) vs h = pick ArePlain (may_be_root found) _ _ (λ e. h) (λ e. ((λ f. absurd cc), tt))
  plain-at_root (Err e) vs h = h

  plain-root : (depth : ℕ) → ArePlain (root_visits m base depth)
  unfolding root_visits
  plain-root depth = plain-at_root (target m root) (visits m base depth root) (plain-visits depth root)

plain-end : (budget before : ℕ) (v : Visit) (at : Place) (e : Fault) → IsPlainVisit v → IsStopHere budget before v at e
    → e ≢ faults.Memory
plain-end budget before (fails p f) at e h k = λ x. h (k.1 ∙ x)
plain-end budget before (pays p n) at e h k = λ x. let y = k.1 ∙ x in absurd cc

-- the fault of a refused message is never `Memory`
pub plain-refusal : (m : List (List ℕ)) (limits : Bounds) (e : Fault) (at : Place) (paid visits : ℕ)
    → IsWalkRefused m limits e at paid visits → e ≢ faults.Memory
plain-refusal m limits e at paid visits (inl h) = λ x. let y = sym h.1 ∙ x in absurd cc
plain-refusal m limits e at paid visits (inr h) =
    let s = h.1 in
    let all = subst ArePlain s.split (plain-root m (base limits.tariff) limits.depth) in
    plain-end limits.budget (paid_of s.before) s.stop at e (plain-among s.before s.after s.stop all) s.ends
