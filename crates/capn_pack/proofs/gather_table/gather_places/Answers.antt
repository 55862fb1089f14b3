use Rattle.std.proofs.Common.{arith}
use Rattle.capn_pack.proofs.LaneLemmas.{gather_entry}
use Rattle.capn_pack.proofs.gather_table.gather_places.Goals as goal

pub returns : goal.returns
returns c = gather_entry c.args.tag _ (omega arith)
