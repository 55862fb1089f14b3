-- A walk from the root: the errors before the root's price is paid, and the verdict on the message. (For
-- `message_index.rt`, `message_survey.rt` and `message_walk.rt`.)
use Rattle.std.proofs.Common.{◌≡◌, ◌⊎◌, inl, inr, Bool, true, false, if◌then◌else◌, ℕ, ◌^◌, ◌<◌, ◌≤◌, List, [], ◌∷◌}
use Rattle.std.proofs.Common.{length, Ok, Err, refl, ap, ◌∙◌, arith}
use Rattle.capn_words.specs.Message.{segment_at}
use Rattle.capn_words.specs.declared.space.Place.{Place}
use Rattle.capn_value.specs.Tree.{Tree}
use Rattle.capn_value.specs.Cost.{base, cost, height}
use Rattle.capn_value.specs.Fits.{Fits}
use Rattle.capn_target.specs.declared.target.Target.{Target}
use Rattle.capn_target.specs.declared.target.Fault.{Fault}
use Rattle.capn_target.specs.declared.target.Fault.TheVariants as faults
use Rattle.capn_walk.specs.declared.walk_answer.Stopped.{Stopped}
use Rattle.capn_target.specs.Target.{target}
use Rattle.capn_walk.specs.Visits.{Visit, fails, visits}
use Rattle.capn_walk.specs.Accepted.{IsStop, root, may_be_root, visits_at_root, root_visits, IsAccepted, IsValueOf}
use Rattle.capn_walk.specs.Accepted.{IsWalkRefused, visits_within, paid, number_of_visits}
use Rattle.capn_walk.specs.ValueAt.{IsAt}
use Rattle.capn_walk.specs.Limits.{Bounds}
use Rattle.capn_walk.specs.inner.Verdict.{refused, judge}
use Rattle.capn_walk.specs.inner.Verdict.{Gives, Refuses}
use Rattle.capn_walk.proofs.shared.Stops.{accepted-within, refused-stop, never-both}
use Rattle.capn_walk.proofs.shared.Walks.{visits-fault}
use Rattle.capn_walk.proofs.shared.Unique.{unique}
use Rattle.capn_walk.proofs.shared.Fitting.{root-costs, fits-root}

-- a walk whose only visit is a fault stops at that visit
pub stops-at-once : (b : ℕ) (at : Place) (e : Fault) (vs : List Visit) → vs ≡ fails at e ∷ [] → IsStop b vs e at 0 1
stops-at-once b at e vs h = record {
  before = [];
  stop = fails at e;
  after = [];
  split = h;
  within = record { all = tt; paid = omega arith };
  ends = (refl, refl);
  sum = refl;
  number = refl;
}

module _ (m : List (List ℕ)) where
  -- if `may_be_root` is true of the root's target `t`, the visits of the walk are the visits of the root's slot and of
  -- all slots below the root
  pub from-root : (base d : ℕ) (t : Target) → target m root ≡ Ok t → may_be_root t ≡ true
      → root_visits m base d ≡ visits m base d root
  unfolding root_visits
  from-root base d t e h =
      ap (λ r. visits_at_root m base r (visits m base d root)) e
      ∙ ap (λ (b : Bool). if b then visits m base d root else fails root faults.RootKind ∷ []) h

  pub wrong-root : (base d : ℕ) (t : Target) → target m root ≡ Ok t → may_be_root t ≡ false
      → root_visits m base d ≡ fails root faults.RootKind ∷ []
  unfolding root_visits
  wrong-root base d t e h =
      ap (λ r. visits_at_root m base r (visits m base d root)) e
      ∙ ap (λ (b : Bool). if b then visits m base d root else fails root faults.RootKind ∷ []) h

  pub faulty-root : (base d : ℕ) (f : Fault) → target m root ≡ Err f → root_visits m base d ≡ fails root f ∷ []
  unfolding root_visits
  faulty-root base d f e = ap (λ r. visits_at_root m base r (visits m base d root)) e ∙ visits-fault m base root d f e

  -- ---- the errors before the root's price is paid

  at-once : (t : Stopped) (f : Fault) (limits : Bounds) → 0 < length (segment_at m 0)
      → visits_within m limits ≡ fails root f ∷ [] →
      t ≡ record { fault = f; place = root; paid = 0; visits = 1 }
      → IsWalkRefused m limits t.fault t.place t.paid t.visits
  at-once t f limits some v e = rw e (inr (some, stops-at-once limits.budget root f (visits_within m limits) v))

  pub refused-kind : (t : Stopped) (found : Target) (limits : Bounds) → 0 < length (segment_at m 0)
      → target m root ≡ Ok found → may_be_root found ≡ false →
      t ≡ record { fault = faults.RootKind; place = root; paid = 0; visits = 1 }
      → IsWalkRefused m limits t.fault t.place t.paid t.visits
  refused-kind t found limits some e h =
      at-once t faults.RootKind limits some (wrong-root (base limits.tariff) limits.depth found e h)

  pub refused-fault : (t : Stopped) (f : Fault) (limits : Bounds) → 0 < length (segment_at m 0) → target m root ≡ Err f
      →
      t ≡ record { fault = f; place = root; paid = 0; visits = 1 }
      → IsWalkRefused m limits t.fault t.place t.paid t.visits
  refused-fault t f limits some e = at-once t f limits some (faulty-root (base limits.tariff) limits.depth f e)

  -- ---- the walk after the root's price is paid

  module _ (limits : Bounds) (some : 0 < length (segment_at m 0)) (t : Target) (e : target m root ≡ Ok t)
      (kind : may_be_root t ≡ true) where
    -- `v` is the value of an accepted message, whose walk pays `p` words and makes `k` visits
    pub record IsAnswer (v : Tree) (p k : ℕ) : Type 0 where
      pub value : IsValueOf m limits v
      pub sum : p ≡ paid m limits
      pub number : k ≡ number_of_visits m limits
      pub thrifty : cost (base limits.tariff) v ≤ p
      pub low : height v ≤ limits.depth
      pub fits : limits.budget ≤ 2 ^ 28 → limits.depth ≤ 256 → Fits v

    pub answered : (v : Tree) (p k : ℕ) → Gives limits.budget (visits m (base limits.tariff) limits.depth root) 1 p k
        → IsAt m root v → IsAnswer v p k
    answered v p k g here =
        let same = from-root (base limits.tariff) limits.depth t e kind in
        let (w, s, n) =
        accepted-within limits.budget (visits_within m limits) p k (ap (judge limits.budget) same ∙ g.is) in
        let c = root-costs m (base limits.tariff) limits.depth v here w.all in
        let most = c.0 in
        record {
          value = record { accepted = record { some = some; within = w }; is = here };
          sum = s;
          number = n;
          thrifty = omega arith;
          low = c.1;
          fits = λ small shallow. fits-root m (base limits.tariff) limits.budget limits.depth v small shallow w here;
        }

    pub refused-below : (t : Stopped) → Refuses limits.budget (visits m (base limits.tariff) limits.depth root) 1 t →
        (t.fault ≡ faults.Memory) ⊎ IsWalkRefused m limits t.fault t.place t.paid t.visits
    refused-below t r = from r.is
      where
        from : (t.fault ≡ faults.Memory)
            ⊎ (judge limits.budget (visits m (base limits.tariff) limits.depth root)
            ≡ refused t.fault t.place t.paid t.visits) →
            (t.fault ≡ faults.Memory) ⊎ IsWalkRefused m limits t.fault t.place t.paid t.visits
        from (inl x) = inl x
        from (inr x) = inr (inr (
          some,
          refused-stop limits.budget (visits_within m limits) t.fault t.place t.paid t.visits
              (ap (judge limits.budget) (from-root (base limits.tariff) limits.depth _ e kind) ∙ x),
        ))

  -- no message is both accepted and refused
  pub not-refused : (limits : Bounds) (f : Fault) (at : Place) (p k : ℕ) → IsAccepted m limits
      → IsWalkRefused m limits f at p k → ⊥
  not-refused limits f at p k a (inl r) = let some = a.some in let none = r.0 in omega arith
  not-refused limits f at p k a (inr r) = never-both limits.budget (visits_within m limits) f at p k a.within r.1

  pub only-memory : (limits : Bounds) (t : Stopped) (v : Tree) → IsValueOf m limits v →
      (t.fault ≡ faults.Memory) ⊎ IsWalkRefused m limits t.fault t.place t.paid t.visits → t.fault ≡ faults.Memory
  only-memory limits t v is (inl x) = x
  only-memory limits t v is (inr r) = absurd (not-refused limits t.fault t.place t.paid t.visits is.accepted r)

  pub one-value : (limits : Bounds) (v w : Tree) → IsAt m root w → IsValueOf m limits v → w ≡ v
  one-value limits v w here is = unique m w v root here is.is
