-- The figures that a survey of an accepted message finds.
use Rattle.std.specs.Prelude.{ℕ, List}
use Rattle.capn_walk.specs.Limits.{Bounds}
use Rattle.capn_walk.specs.Depth.{IsDepth}
use Rattle.capn_walk.specs.Surveyed.{IsSurvey}
use Rattle.capn_walk.specs.declared.survey_answer.Measured.{Measured}

-- `message` is accepted within `limits`. `m` has the figures of its survey, and the least limit on depth within which
-- the message is accepted. (Our own.)
pub record AreFigures (message : List (List ℕ)) (limits : Bounds) (m : Measured) : Type 0 where
  pub survey : IsSurvey message limits m.survey
  pub depth : IsDepth message limits m.depth
