use Rattle.std.proofs.Common.{sym}
use Rattle.capn_cover.proofs.Knowing.{itself}
use Rattle.capn_cover.proofs.comparison.Comparison.of_itself.Goals as goal

pub returns : goal.returns
returns c message = record { is = sym (itself message c.args.slot c.args.role) }
