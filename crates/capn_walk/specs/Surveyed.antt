-- The first capability among the visits of a walk, and the result of a survey.
use Rattle.std.specs.Prelude.{◌≡◌, ℕ, List, [], ◌∷◌, Result, Ok, Option, Some, None}
use Rattle.std.specs.Option.{option_or}
use Rattle.capn_value.specs.Tree.{Tree}
use Rattle.capn_value.specs.FirstCap.{first_cap}
use Rattle.capn_walk.specs.declared.survey_answer.Surveyed.{Surveyed}
use Rattle.capn_walk.specs.Limits.{Bounds}
use Rattle.capn_walk.specs.Accepted.{IsValueOf, paid, number_of_visits}
use Rattle.capn_target.specs.declared.target.Target.{Target}
use Rattle.capn_target.specs.declared.target.Target.TheVariants as targets
use Rattle.capn_target.specs.declared.target.Fault.{Fault}
use Rattle.capn_target.specs.Target.{target}
use Rattle.capn_walk.specs.Visits.{Visit, pays, fails}

-- the index of the capability if the target of a slot is a capability, else `None`
abbrev pub cap_of : Result Target Fault → Option ℕ
cap_of (Ok (targets.Cap k)) = Some k
cap_of _ = None

-- the index of the first capability among the targets of the visited slots, or `None` if no target is a capability
abbrev pub first_cap_of : List (List ℕ) → List Visit → Option ℕ
first_cap_of message [] = None
first_cap_of message (pays at n ∷ vs) = option_or (cap_of (target message at)) (first_cap_of message vs)
first_cap_of message (fails at e ∷ vs) = first_cap_of message vs

-- `message` is accepted, and `s` has the number of words paid, the number of visits, and the first capability of the
-- message's value
pub record IsSurvey (message : List (List ℕ)) (limits : Bounds) (s : Surveyed) : Type 0 where
  pub value : Tree
  pub is : IsValueOf message limits value
  pub pays : s.paid ≡ paid message limits
  pub counts : s.visits ≡ number_of_visits message limits
  pub capability : s.capability ≡ first_cap value
