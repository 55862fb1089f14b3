-- The survey of the message that is read from bytes.
use Rattle.std.specs.Prelude.{ℕ, List}
use Rattle.capn_walk.specs.declared.survey_answer.Surveyed.{Surveyed}
use Rattle.capn_walk.specs.Limits.{Bounds}
use Rattle.capn_walk.specs.Surveyed.{IsSurvey}
use Rattle.capn_canon.specs.declared.form.Form.{Form}
use Rattle.capn_canon.specs.Reads.{Reads}

-- In `form`, `bs` are read as an accepted message, and `s` is the survey of that message.
pub record Surveys (form : Form) (bs : List ℕ) (limits : Bounds) (s : Surveyed) : Type 0 where
  pub message : List (List ℕ)
  pub reads : Reads form bs limits.message_words message
  pub survey : IsSurvey message limits s
