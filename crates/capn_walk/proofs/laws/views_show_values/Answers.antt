use Rattle.capn_walk.proofs.Showing.{shows}
use Rattle.capn_walk.proofs.laws.views_show_values.Goals as goal

pub returns : goal.returns
returns c message at found v e i = shows message at found v e i
