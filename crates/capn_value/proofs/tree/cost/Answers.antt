use Rattle.std.proofs.Common.{◌∙◌, ap, min, ℕ, arith}
use Rattle.capn_value.specs.TreeOf.{tree_of}
use Rattle.capn_value.specs.Cost.{cost, dear}
use Rattle.capn_value.proofs.shared.Tariffs.{plainly_cheap}
use Rattle.capn_value.proofs.tree.cost.Goals as goal

pub returns-clause-plain : goal.returns-clause-plain
returns-clause-plain g c e =
    let t = tree_of c.tree.inside.value in
    let fits = c.tree.invariant.0 in
    let cheap = plainly_cheap c.args.tariff t fits e in
    let same = c.capped_cost.ensures.value ∙ ap (λ (b : ℕ). min (cost b t) dear) c.base.ensures.value in
    omega (arith, cheap, same)
