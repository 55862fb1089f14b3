use Rattle.capn_scratch.proofs.Agreed.{agreed, agreed_into, agreed_with_enough, read_found, read_refused}
use Rattle.capn_scratch.proofs.laws.agreement.Goals as goal

pub returns-clause-made : goal.returns-clause-made
returns-clause-made g c form bs limits scratch old new r s h k =
    agreed c.enough.ensures.bounded form bs limits scratch old new r s h.found h.refused k

pub returns-clause-enough : goal.returns-clause-enough
returns-clause-enough g c form bs limits scratch old new r s h k few long =
    agreed_with_enough c.enough.ensures.bounded c.denotation.ensures.form form bs limits scratch old new few long r s h
    k

pub returns-clause-message : goal.returns-clause-message
returns-clause-message g c form bs limits scratch old new message r s is h k =
    agreed c.enough.ensures.bounded form bs limits scratch old new r s
    (read_found form bs limits message is r h) (read_refused form bs limits message is r h) k

pub returns-clause-written : goal.returns-clause-written
returns-clause-written g c form bs limits scratch old p q message r s is h k =
    agreed_into c.decision.ensures c.enough.ensures.bounded form bs limits scratch old p q message is r s h k
