use Rattle.std.proofs.Common.{◌∙◌, sym}
use Rattle.capn_show.proofs.PartSteps.{no-fault-held}
use Rattle.capn_show.proofs.descent.named.Goals as goal

pub unreachable-requires : goal.unreachable-requires
unreachable-requires g c =
    no-fault-held (g.S.Space.message c.args.space.now) c.args.at _ c.requires.value
    (sym c.resolve.ensures.exact ∙ c.in-Err.is)

pub returns-clause-shown : goal.returns-clause-shown
returns-clause-shown g c v is =
    c.views_show_values.ensures (g.S.Space.message c.args.space.now) c.args.at c.in-Ok.found v
    (sym c.resolve.ensures.exact ∙ c.in-Ok.is) is

pub returns-clause-is : goal.returns-clause-is
returns-clause-is g c = sym c.resolve.ensures.exact ∙ c.in-Ok.is
