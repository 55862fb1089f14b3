use Rattle.capn_scratch.proofs.Decided.{decided}
use Rattle.capn_scratch.proofs.laws.decision.Goals as goal

pub returns : goal.returns
returns c form bs limits scratch old p q r s h k =
    decided c.decision.ensures form bs limits scratch old p q r s h k
