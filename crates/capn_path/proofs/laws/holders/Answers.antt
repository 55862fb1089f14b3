use Rattle.capn_path.proofs.Followed.{holders-are-one}
use Rattle.capn_path.proofs.laws.holders.Goals as goal

pub returns : goal.returns
returns c = holders-are-one
