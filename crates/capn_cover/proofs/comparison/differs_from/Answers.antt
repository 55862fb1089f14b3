use Rattle.std.proofs.Common.{ℕ, ◌∙◌, ap, sym}
use Rattle.capn_cover.specs.Parts.{differs}
use Rattle.capn_cover.proofs.Knowing.{differs-as}
use Rattle.capn_cover.proofs.comparison.differs_from.Goals as goal

pub returns-then-is_of_object-2-clause-differs : goal.returns-then-is_of_object-2-clause-differs
returns-then-is_of_object-2-clause-differs g c =
    let m = g.S.Space.message c.args.space.now in
    let k = c.args.known.now in
    c.requires.known.is
    ∙ differs-as m k.slot k.role c.args.another c.args.slot c.args.role
    (sym c.is_of_object.ensures ∙ c.if-is_of_object.true)
    (sym c.is_of_object-then-is_of_object.ensures ∙ c.if-is_of_object-2.true)
    ∙ ap (λ (o : ℕ). differs m o c.args.another c.args.slot c.args.role) c.if-known-other.true
