use Rattle.capn_stream.proofs.Runs.{however_cut}
use Rattle.capn_stream.proofs.laws.cutting.Goals as goal

pub returns : goal.returns
returns c = however_cut
