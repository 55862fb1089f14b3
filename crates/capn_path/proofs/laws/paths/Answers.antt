use Rattle.capn_path.proofs.Unique.{paths-are-one}
use Rattle.capn_path.proofs.laws.paths.Goals as goal

pub returns : goal.returns
returns c = paths-are-one
