-- An accepted message has a value, and that value fits and is cheap. No message is both accepted and refused, and a
-- walk has at most one stop. (For `values` and `verdicts`.)
use Rattle.std.proofs.Common.{◌≡◌, inl, inr, ℕ, List, Result, Ok, Err, ap, sym, ◌∙◌, arith}
use Rattle.capn_words.specs.declared.space.Place.{Place}
use Rattle.capn_value.specs.Cost.{base}
use Rattle.capn_target.specs.declared.target.Fault.{Fault}
use Rattle.capn_target.specs.declared.target.Fault.TheVariants as faults
use Rattle.capn_target.specs.declared.target.Target.{Target}
use Rattle.capn_target.specs.declared.target.Target.TheVariants as targets
use Rattle.capn_target.specs.Target.{target}
use Rattle.capn_walk.specs.Visits.{Visit, visits}
use Rattle.capn_walk.specs.inner.Verdict.{Verdict, accepted, refused}
use Rattle.capn_walk.specs.Accepted.{AllPay, root, root_visits, visits_at_root, visits_within}
use Rattle.capn_walk.specs.Laws.{AcceptedAreReadable, ValuesFit, ValuesAreCheap, Apart, StopsAreOne}
use Rattle.capn_walk.proofs.Exists.{exists-at}
use Rattle.capn_walk.proofs.shared.Fitting.{fits-root, root-costs}
use Rattle.capn_walk.proofs.shared.Stops.{never-both, stop-refused}

module _ (m : List (List ℕ)) (base : ℕ) where
  all-below : (r : Result Target Fault) (vs : List Visit) → AllPay (visits_at_root m base r vs) → AllPay vs
  all-below (Ok targets.Nil) vs h = h
  all-below (Ok (targets.Cap k)) vs h = absurd h
  all-below (Ok (targets.Content s start shape pads)) vs h = h
  all-below (Err e) vs h = h

  pub all-at_root : (depth : ℕ) → AllPay (root_visits m base depth) → AllPay (visits m base depth root)
  unfolding root_visits
  all-at_root depth h = all-below (target m root) (visits m base depth root) h

pub readable : AcceptedAreReadable
readable m limits h =
    let (v, is) =
    exists-at m (base limits.tariff) limits.depth root (all-at_root m (base limits.tariff) limits.depth h.within.all) in
    (v, record { accepted = h; is = is })

pub fits : ValuesFit
fits m limits v b d h = fits-root m (base limits.tariff) limits.budget limits.depth v b d h.accepted.within h.is

pub cheap : ValuesAreCheap
cheap m limits v h = root-costs m (base limits.tariff) limits.depth v h.is h.accepted.within.all

pub apart : Apart
apart m limits e at p k h (inl r) = let s = h.some in let z = r.0 in absurd (omega arith)
apart m limits e at p k h (inr r) = never-both limits.budget (visits_within m limits) e at p k h.within r.1

abbrev fault_of : Verdict → Fault
fault_of (accepted p k) = faults.NoRoot
fault_of (refused e at p k) = e

abbrev place_of : Verdict → Place
place_of (accepted p k) = root
place_of (refused e at p k) = at

abbrev paid_by : Verdict → ℕ
paid_by (accepted p k) = p
paid_by (refused e at p k) = p

abbrev visits_by : Verdict → ℕ
visits_by (accepted p k) = k
visits_by (refused e at p k) = k

pub one-stop : StopsAreOne
one-stop b vs e f at to p q k j h i =
    let same : refused e at p k ≡ refused f to q j = sym (stop-refused b vs e at p k h)
    ∙ stop-refused b vs f to q j i in
    (ap fault_of same, ap place_of same, ap paid_by same, ap visits_by same)
