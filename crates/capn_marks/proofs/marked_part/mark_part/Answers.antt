use Rattle.std.proofs.Common.{refl}
use Rattle.capn_show.specs.declared.fault.Broken.TheVariants as broken
use Rattle.capn_show.proofs.shared.Sequels.{unbegun}
use Rattle.capn_marks.proofs.marked_part.mark_part.Goals as goal

pub returns-in_default-clause-cut : goal.returns-in_default-clause-cut
returns-in_default-clause-cut g c v i = unbegun _
    _ broken.Memory refl
