use Rattle.capn_diagnostics.proofs.PlacesOnPaths.{holder-in}
use Rattle.capn_diagnostics.proofs.refusal.text_of_holder.Goals as goal

pub of-requires : goal.of-requires
of-requires g c =
    let held = c.in-Some.ensures.some in
    holder-in (g.S.Space.message c.args.space.now) c.args.path.now held.0 c.in-Some.holder c.requires.root held.1
