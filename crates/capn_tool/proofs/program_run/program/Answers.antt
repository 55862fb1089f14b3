use Rattle.std.proofs.Common.{inl, inr, map, subst}
use Rattle.clap.specs.Words.{subcommand_of}
use Rattle.capn_commands.specs.declared.flow_fault.FlowFault.TheVariants as flow_faults
use Rattle.capn_make.specs.declared.fault.MakeFault.TheVariants as make_faults
use Rattle.capn_args.specs.CommandLine.{program_line}
use Rattle.capn_args.specs.Meaning.{MeansInvocation}
use Rattle.capn_args.specs.declared.invocation.Invocation.{Invocation}
use Rattle.capn_args.specs.declared.invocation.Invocation.TheVariants as invocations
use Rattle.capn_tool.specs.Flushed.{Flowed, MadeBy}
use Rattle.capn_tool.proofs.EndedOrders.{ended}
use Rattle.capn_tool.proofs.program_run.program.Goals as goal

pub returns-in-Flow : goal.returns-in-Flow
returns-in-Flow g c =
    let means =
    subst (λ (o : Invocation). MeansInvocation (subcommand_of program_line (map g.S.AsStr.text c.args.words.now)) o)
    c.in-Flow.is c.in-Ok.ensures.means in
    inr (inr (inr (inr (inr (inr (inr (inr (inr (inr (inr (inl
    (ended (λ flow. invocations.Flow flow) flow_faults.Io Flowed _ _ means c.flow_through-flowed.ensures
    c.finish-in-Flow.ensures))))))))))))

pub returns-in-Make : goal.returns-in-Make
returns-in-Make g c =
    let means =
    subst (λ (o : Invocation). MeansInvocation (subcommand_of program_line (map g.S.AsStr.text c.args.words.now)) o)
    c.in-Make.is c.in-Ok.ensures.means in
    inr (inr (inr (inr (inr (inr (inr (inr (inr (inr (inr (inr (inl
    (ended (λ make. invocations.Make make) make_faults.Io (λ make. MadeBy make.quoted make.form) _ _ means
    c.make_by-made.ensures c.finish-in-Make.ensures)))))))))))))
