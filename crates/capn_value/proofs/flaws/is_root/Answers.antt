use Rattle.capn_value.specs.Fits.{is_root}
use Rattle.capn_value.proofs.Cases.{rooted, cap_seen}
use Rattle.capn_value.proofs.flaws.is_root.Goals as goal

pub returns-in-Cap : goal.returns-in-Cap
returns-in-Cap g c = cap_seen is_root _ c.in-Cap.is

pub returns-in_default : goal.returns-in_default
returns-in_default g c = rooted _ c.in_default.not-Cap
