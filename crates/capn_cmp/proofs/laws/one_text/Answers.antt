use Rattle.capn_cmp.proofs.OneComparison.{one_cmp}
use Rattle.capn_cmp.proofs.WrittenReports.{writes_exactly}
use Rattle.capn_cmp.proofs.laws.one_text.Goals as goal

pub returns-clause-one : goal.returns-clause-one
returns-clause-one c order input t u r s y z h k = one_cmp order input t u r s y z h k

pub returns-clause-written : goal.returns-clause-written
returns-clause-written c order input text r y are = writes_exactly order input text r y are
