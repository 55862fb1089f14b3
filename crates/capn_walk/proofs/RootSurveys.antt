-- The survey of a message, from the root on. (For `survey_counted`, `survey_depth_counted` and `survey_root`.)
use Rattle.std.proofs.Common.{◌≡◌, true, ℕ, ◌+◌, ◌-◌, ◌<◌, ◌≤◌, List, [], ◌∷◌, length, Option, Ok}
use Rattle.std.proofs.Common.{ap, ap₂, sym, ◌∙◌, arith}
use Rattle.std.specs.Option.{option_or}
use Rattle.capn_words.specs.Message.{segment_at}
use Rattle.capn_words.specs.declared.space.Place.{Place}
use Rattle.capn_value.specs.Cost.{base}
use Rattle.capn_value.specs.Tree.{Tree}
use Rattle.capn_value.specs.FirstCap.{first_cap}
use Rattle.capn_walk.specs.declared.slots_left.SlotsLeft.{SlotsLeft}
use Rattle.capn_target.specs.declared.target.Target.{Target}
use Rattle.capn_walk.specs.declared.survey_answer.Measured.{Measured}
use Rattle.capn_target.specs.Target.{target}
use Rattle.capn_walk.specs.Visits.{Visit, pays, visits, visits_of}
use Rattle.capn_walk.specs.inner.Verdict.{judge, after, accepted}
use Rattle.capn_walk.specs.inner.Outcomes.{SurveysAs}
use Rattle.capn_walk.specs.Accepted.{root, may_be_root, IsValueOf, visits_within}
use Rattle.capn_walk.specs.Limits.{Bounds}
use Rattle.capn_walk.specs.inner.SlotsLeft.{places_of, owed, HasRows}
use Rattle.capn_walk.specs.Surveyed.{cap_of, first_cap_of, IsSurvey}
use Rattle.capn_walk.proofs.OwedSlots.{nothing-left}
use Rattle.capn_walk.proofs.shared.Judge.{judge-pays}
use Rattle.capn_walk.proofs.shared.Stops.{accepted-within}
use Rattle.capn_walk.proofs.RootWalks.{from-root}
use Rattle.capn_walk.proofs.UnderWay.{option_or-none}
use Rattle.capn_walk.proofs.shared.CapsMet.{caps-at}
use Rattle.capn_walk.proofs.Exists.{exists-at}

module _ (m : List (List ℕ)) (base : ℕ) where
  -- Case: the visit of the slot at `at` pays, and then the slots `below` are surveyed.
  module _ (budget depth : ℕ) (at : Place) (p : ℕ) (below : SlotsLeft) (k : Option ℕ)
      (here : visits m base depth at ≡ pays at p ∷ visits_of m base (depth - 1) (places_of below)) (fits : p ≤ budget)
      (few : owed below ≤ p) (c : cap_of (target m at) ≡ k) where
    abbrev others : List Visit
    others = visits_of m base (depth - 1) (places_of below)

    both : judge budget (visits m base depth at) ≡ after p 1 (judge (budget - p) others)
    both = ap (judge budget) here ∙ judge-pays budget p at others fits

    none-below : HasRows below → owed below ≡ 0 → others ≡ []
    none-below h z = ap (visits_of m base (depth - 1)) (nothing-left below h z)

    pub tells-alone : (levels : ℕ) → HasRows below → owed below ≡ 0
        → SurveysAs m budget 1 (visits m base depth at)
        (Ok (record { survey = record { paid = p; visits = 1; capability = k }; depth = levels }))
    tells-alone levels h z =
        let y : p + 0 ≡ p = omega arith in (
          record {
            is = both ∙ ap (λ (vs : List Visit). after p 1 (judge (budget - p) vs)) (none-below h z)
                ∙ ap (λ (n : ℕ). accepted n 1) y;
            within = fits;
            few = omega arith;
          },
          ap (first_cap_of m) here ∙ ap₂ option_or c (ap (first_cap_of m) (none-below h z)) ∙ option_or-none k,
        )

module _ (m : List (List ℕ)) (limits : Bounds) (some : 0 < length (segment_at m 0)) (t : Target)
    (e : target m root ≡ Ok t) (kind : may_be_root t ≡ true) where
  pub surveyed : (s : Measured)
      → SurveysAs m limits.budget 1 (visits m (base limits.tariff) limits.depth root) (Ok s)
      → IsSurvey m limits s.survey
  surveyed s (g, c) =
      let same = from-root m (base limits.tariff) limits.depth t e kind in
      let (w, p, k) =
      accepted-within limits.budget (visits_within m limits) s.survey.paid s.survey.visits
      (ap (judge limits.budget) same ∙ g.is) in
      let all = rw same at w.all in
      let (v, i) = exists-at m (base limits.tariff) limits.depth root all in
      let first = caps-at m (base limits.tariff) v root limits.depth i all in
      record {
        value = v;
        is = record { accepted = record { some = some; within = w }; is = i };
        pays = p;
        counts = k;
        capability = sym c ∙ first;
      }

  pub one-cap : (k : Option ℕ) (v : Tree) → IsValueOf m limits v
      → first_cap_of m (visits m (base limits.tariff) limits.depth root) ≡ k → k ≡ first_cap v
  one-cap k v is c =
      let same = from-root m (base limits.tariff) limits.depth t e kind in
      let all = rw same at is.accepted.within.all in
      let first = caps-at m (base limits.tariff) v root limits.depth is.is all in
      sym c ∙ first
