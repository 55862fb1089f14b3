use Rattle.capn_walk.proofs.Answering.{apart, one-stop}
use Rattle.capn_walk.proofs.shared.Plain.{plain-refusal}
use Rattle.capn_walk.proofs.shared.Stops.{decided}
use Rattle.capn_walk.proofs.laws.verdicts.Goals as goal

pub returns-clause-apart : goal.returns-clause-apart
returns-clause-apart c = apart

pub returns-clause-decided : goal.returns-clause-decided
returns-clause-decided c = decided

pub returns-clause-one : goal.returns-clause-one
returns-clause-one c = one-stop

pub returns-clause-their_words : goal.returns-clause-their_words
returns-clause-their_words c = plain-refusal
