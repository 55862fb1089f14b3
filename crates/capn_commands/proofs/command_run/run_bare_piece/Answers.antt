use Rattle.std.proofs.Common.{ap}
use Rattle.capn_commands.specs.declared.plan.MessageText.{MessageText}
use Rattle.capn_commands.specs.declared.plan.MessageText.TheVariants as kinds
use Rattle.capn_commands.specs.declared.plan.Plan.TheVariants as plans
use Rattle.capn_commands.specs.declared.plan.Whole.TheVariants as wholes
use Rattle.capn_commands.proofs.RunLaw.{runs_planned}
use Rattle.capn_commands.proofs.command_run.run_bare_piece.Goals as goal

pub returns-in-Price : goal.returns-in-Price
returns-in-Price g c =
    runs_planned (plans.Whole (wholes.Bare c.args.piece c.args.limits))
    (plans.Whole (wholes.Bare kinds.Price c.args.limits)) _ _ _ _ _ _ c.write_made.result
    (ap (λ (k : MessageText). plans.Whole (wholes.Bare k c.args.limits)) c.in-Price.is)
    (c.write_made.ensures (wholes.Bare kinds.Price c.args.limits) _ _ _ c.make_verdict.ensures)
