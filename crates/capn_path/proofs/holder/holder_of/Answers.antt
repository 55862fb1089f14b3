use Rattle.std.proofs.Common.{sym}
use Rattle.capn_value.specs.Cost.{base}
use Rattle.capn_path.proofs.Followed.{if-some, if-none, leads-holds}
use Rattle.capn_path.proofs.holder.holder_of.Goals as goal

pub returns-clause-some : goal.returns-clause-some
returns-clause-some g c = if-some (g.S.Space.message c.args.space.now) c.args.path.now c.held.result c.held.ensures

pub returns-clause-none : goal.returns-clause-none
returns-clause-none g c = if-none (g.S.Space.message c.args.space.now) c.args.path.now c.held.result c.held.ensures

pub returns-clause-visit : goal.returns-clause-visit
returns-clause-visit g c limits number to h =
    leads-holds (g.S.Space.message c.args.space.now) (base limits.tariff) limits.depth c.args.path.now to number h _
    (sym c.held.ensures)
