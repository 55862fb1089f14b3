-- The outcome of the walk of a message in any form. (Our own.)
use Rattle.std.specs.Prelude.{◌⊎◌, ℕ, List, [], ⊤}
use Rattle.capn_walk.specs.Accepted.{IsBounded, IsWalkRefused}
use Rattle.capn_walk.specs.Limits.{Bounds}
use Rattle.capn_walk.specs.declared.walk_answer.Stopped.{Stopped}
use Rattle.capn_canon.specs.MemoryNeed.{MayNeedMemory}
use Rattle.capn_canon.specs.Reads.{Reads}
use Rattle.capn_canon.specs.SurveyedBytes.{Surveys}
use Rattle.capn_canon.specs.declared.form.Form.{Form}
use Rattle.capn_answers.specs.Paths.{IsStoppedIn}
use Rattle.capn_answers.specs.declared.walked.Walked.{Walked}
use Rattle.capn_answers.specs.declared.walked.Walked.TheVariants.{Accepted, Refused}

module _ {A : Type 0} where
  -- `bs` are read as a message. `Accepted` has the survey of the accepted message. `Refused` has the stop of the walk,
  -- and the path to the slot at which the walk stops.
  abbrev pub IsWalkedIn : Form → List ℕ → Bounds → Walked A → Type 0
  IsWalkedIn form bs limits (Accepted s) = Surveys form bs limits s
  IsWalkedIn form bs limits (Refused f) = IsStoppedIn form bs limits f.stopped f.path.items

  -- The outcome is that the message is accepted.
  abbrev pub AnswersAccepted : Walked A → Type 0
  AnswersAccepted (Accepted s) = ⊤
  AnswersAccepted (Refused f) = ⊥

  -- The path to the slot at which the walk stopped, or no numbers if the message is accepted.
  abbrev pub walked_path : Walked A → List ℕ
  walked_path (Accepted s) = []
  walked_path (Refused f) = f.path.items

  -- The walk pays at most `budget`, and the number of visits is at most one more than the number of words paid.
  abbrev pub IsWalkedWithin : ℕ → Walked A → Type 0
  IsWalkedWithin budget (Accepted s) = IsBounded budget s.paid s.visits
  IsWalkedWithin budget (Refused f) = IsBounded budget f.stopped.paid f.stopped.visits

-- `bs` are read as a message, and the walk of that message stops as `s` says.
abbrev pub AreStopped : Form → List ℕ → Bounds → Stopped → Type 0
AreStopped form bs limits s = (message : List (List ℕ)) × Reads form bs limits.message_words message
    × IsWalkRefused message limits s.fault s.place s.paid s.visits

-- Walking `bs` may need memory, to read `bs` or for the path if the walk is refused.
abbrev pub MayNeedItsPath : Form → List ℕ → Bounds → Type 0
MayNeedItsPath form bs limits = MayNeedMemory form bs limits ⊎ ((s : Stopped) × AreStopped form bs limits s)
