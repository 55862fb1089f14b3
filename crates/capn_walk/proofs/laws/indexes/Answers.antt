use Rattle.capn_walk.proofs.IndexLaws.{readable, follows}
use Rattle.capn_walk.proofs.ValuesRead.{say, entries-say}
use Rattle.capn_walk.proofs.laws.indexes.Goals as goal

pub returns-clause-readable : goal.returns-clause-readable
returns-clause-readable c = readable

pub returns-clause-visits : goal.returns-clause-visits
returns-clause-visits c = follows

pub returns-clause-values : goal.returns-clause-values
returns-clause-values c = say

pub returns-clause-each : goal.returns-clause-each
returns-clause-each c = entries-say
