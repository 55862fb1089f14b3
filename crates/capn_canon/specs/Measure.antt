-- The measure of an accepted message: its price, its depth, and whether it is canonical. (Our own.)
use Rattle.std.specs.Prelude.{◌≡◌, ◌↔◌, ℕ, List, [], ◌∷◌, None}
use Rattle.std.specs.Bool.{IsTrue}
use Rattle.capn_words.specs.Message.{bytes}
use Rattle.capn_value.specs.Tree.{Tree}
use Rattle.capn_value.specs.FirstCap.{first_cap}
use Rattle.capn_walk.specs.Limits.{Bounds}
use Rattle.capn_walk.specs.Accepted.{IsValueOf, paid, number_of_visits}
use Rattle.capn_walk.specs.Depth.{IsDepth}
use Rattle.capn_layout.specs.Layout.{canon}
use Rattle.capn_canon.specs.declared.surveyed_bare.MeasuredBare.{MeasuredBare}
use Rattle.capn_canon.specs.declared.surveyed_bare.SurveyedBare.{SurveyedBare}

-- `message` has only one segment. Its bytes are the canonical bytes of `v`, which has no capability.
abbrev pub IsCanonicalOf : List (List ℕ) → Tree → Type 0
IsCanonicalOf message v =
    (words : List ℕ) × (message ≡ words ∷ []) × (first_cap v ≡ None) × (canon v ≡ bytes words)

-- `message` is accepted. `c` has its price, its number of visits and its first capability. `c.is_canonical` is true if
-- and only if `message` is canonical (`IsCanonicalOf`).
pub record IsChecked (message : List (List ℕ)) (limits : Bounds) (c : SurveyedBare) : Type 0 where
  pub value : Tree
  pub is : IsValueOf message limits value
  pub pays : c.paid ≡ paid message limits
  pub counts : c.visits ≡ number_of_visits message limits
  pub capability : c.capability ≡ first_cap value
  pub answer : IsTrue c.is_canonical ↔ IsCanonicalOf message value

-- `m.survey` is the survey of `message` (`IsChecked`). `m.depth` is the least depth limit under which `message` is
-- accepted.
pub record IsMeasure (message : List (List ℕ)) (limits : Bounds) (m : MeasuredBare) : Type 0 where
  pub checked : IsChecked message limits m.survey
  pub depth : IsDepth message limits m.depth
