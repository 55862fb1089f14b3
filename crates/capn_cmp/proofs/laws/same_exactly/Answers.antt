use Rattle.capn_cmp.proofs.AllSame.{found_exactly}
use Rattle.capn_cmp.proofs.laws.same_exactly.Goals as goal

pub returns : goal.returns
returns c order stream text r y short due = found_exactly order stream text r y short due
