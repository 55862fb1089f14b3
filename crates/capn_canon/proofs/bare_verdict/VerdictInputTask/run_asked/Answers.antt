use Rattle.std.proofs.Common.{ℕ, List, ap, length, subst}
use Rattle.capn_canon.specs.inner.BareTold.{IsBareTold}
use Rattle.capn_canon.proofs.calls.Verdicts.{verdict}
use Rattle.capn_canon.proofs.bare_verdict.VerdictInputTask.run_asked.Goals as goal

pub returns : goal.returns
returns g c ws is =
    let told = subst (λ (m : List (List ℕ)). IsBareTold m c.args.limits c.ask.result) is
    (c.ask.ensures (ap length is)) in
    verdict ws c.args.limits c.ask.result c.verdict_of.result told c.verdict_of.ensures
