use Rattle.capn_pack.proofs.shared.SplitLaws.{one_split, splits_all}
use Rattle.capn_pack.proofs.laws.splitting.Goals as goal

pub returns-clause-all : goal.returns-clause-all
returns-clause-all c b old = let s = splits_all b old in (s.rest, s.new, s.len, s.splits)

pub returns-clause-one : goal.returns-clause-one
returns-clause-one c b rest other old new also len more s t = let e =
    one_split b rest other old new also len more s t in (e.0, e.1.0, e.1.1)
