use Rattle.capn_scratch.proofs.Decided.{bounded, lacks}
use Rattle.capn_scratch.proofs.laws.enough.Goals as goal

pub returns-clause-bounded : goal.returns-clause-bounded
returns-clause-bounded c form bs limits scratch room n h = bounded form bs limits scratch room n h

pub returns-clause-lacking : goal.returns-clause-lacking
returns-clause-lacking c form bs limits scratch room n h has = lacks form bs limits scratch room n h has
