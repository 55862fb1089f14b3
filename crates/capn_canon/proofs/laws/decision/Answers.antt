use Rattle.capn_canon.proofs.theorem.IntoDecided.{decided}
use Rattle.capn_canon.proofs.laws.decision.Goals as goal

pub returns : goal.returns
returns c message limits old p q r s h k = decided message limits old p q r s h k
