use Rattle.std.proofs.Common.{arith}
use Rattle.capn_pack.proofs.LaneLemmas.{spread_entry}
use Rattle.capn_pack.proofs.spread_table.spread_places.Goals as goal

pub returns : goal.returns
returns c = spread_entry c.args.tag _ (omega arith)
