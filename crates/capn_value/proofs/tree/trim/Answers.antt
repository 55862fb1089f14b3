use Rattle.std.proofs.Common.{◌≡◌, ◌≤◌, sym, ap, subst, ◌∙◌}
use Rattle.capn_value.specs.TreeOf.{tree_of}
use Rattle.capn_value.specs.Cost.{base, cost, height}
use Rattle.capn_value.specs.Trim.{trimmed}
use Rattle.capn_value.specs.Fits.{Fits}
use Rattle.capn_value.specs.InRange.{InRange}
use Rattle.capn_value.proofs.shared.Fitting.{fit_parts}
use Rattle.capn_value.proofs.shared.Ranges.{in_range-trimmed}
use Rattle.capn_value.proofs.shared.SameTrimmed.{same_exactly_trimmed}
use Rattle.capn_value.proofs.shared.StaysFit.{fits-trimmed}
use Rattle.capn_value.proofs.shared.Trimmed.{cost-trimmed, height-trimmed}
use Rattle.capn_value.proofs.tree.trim.Goals as goal

pub invariant_of-result : goal.invariant_of-result
invariant_of-result g c =
    let source = tree_of c.tree.inside.value in
    let done : tree_of c.in_ok-value.value ≡ trimmed source = c.in_ok-value.ensures.value in (
      subst Fits (sym done) (fits-trimmed source c.tree.invariant.0),
      subst InRange (sym done) (in_range-trimmed source c.tree.invariant.1),
    )

pub returns-clause-same : goal.returns-clause-same
returns-clause-same g c =
    let fit : Fits c.args.tree.now = subst Fits c.tree.view_is c.tree.invariant.0 in
    let done : tree_of c.in_ok-value.value ≡ trimmed c.args.tree.now = c.in_ok-value.ensures.value
    ∙ ap trimmed c.tree.view_is in
    λ w fits. let law = same_exactly_trimmed c.args.tree.now w (fit_parts _ fit).even (fit_parts w fits).even in
    (λ same. done ∙ law.0 same, λ equal. law.1 (sym done ∙ equal))

pub returns-clause-cheap : goal.returns-clause-cheap
returns-clause-cheap g c =
    let fit : Fits c.args.tree.now = subst Fits c.tree.view_is c.tree.invariant.0 in
    let done : tree_of c.in_ok-value.value ≡ trimmed c.args.tree.now = c.in_ok-value.ensures.value
    ∙ ap trimmed c.tree.view_is in
    λ tariff. subst (λ t. cost (base tariff) t ≤ cost (base tariff) c.args.tree.now) (sym done)
    (cost-trimmed (base tariff) c.args.tree.now (fit_parts _ fit).even)

pub returns-clause-low : goal.returns-clause-low
returns-clause-low g c =
    let done : tree_of c.in_ok-value.value ≡ trimmed c.args.tree.now = c.in_ok-value.ensures.value
    ∙ ap trimmed c.tree.view_is in
    subst (λ t. height t ≤ height c.args.tree.now) (sym done) (height-trimmed c.args.tree.now)
