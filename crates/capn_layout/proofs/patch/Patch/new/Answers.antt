use Rattle.std.proofs.Common.{◌∙◌, ap₂}
use Rattle.capn_layout.specs.Patch.{patched}
use Rattle.capn_layout.proofs.writer.Patched.{patched-none}
use Rattle.capn_layout.proofs.patch.Patch.new.Goals as goal

pub returns : goal.returns
returns g c = ap₂ patched c.new-2.ensures.items c.new.ensures.items ∙ patched-none _
