use Rattle.std.proofs.Common.{not, ap, ap₂, ◌∙◌, sym, rules}
use denote.Enum.Bare.{same_true}
use Rattle.capn_cover.specs.contracts.covered.Role.{the_type}
use Rattle.capn_cover.specs.declared.part.Part.{Part}
use Rattle.capn_cover.specs.Parts.{differs, same_part, part}
use Rattle.capn_cover.proofs.SameParts.{same-part}
use Rattle.capn_cover.proofs.part.differs.Goals as goal

pub returns : goal.returns
unfolding differs
returns g c =
    ap not (c.same_part.ensures
    ∙ ap₂ (λ (p q : Part). same_part p q) c.part_of-first.ensures c.part_of-then.ensures)

pub returns-then-eq : goal.returns-then-eq
unfolding differs
returns-then-eq g c =
    let m = g.S.Space.message c.args.space.now in
    let r = same_true the_type (search rules) c.args.role c.args.another (sym c.eq.ensures ∙ c.if-eq.true) in
    let e = same-part (part m c.args.other c.args.another) in
    rw (c.if-slot-other.true, r) (sym (ap not e))
