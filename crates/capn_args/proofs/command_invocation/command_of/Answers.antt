use Rattle.std.proofs.Common.{inl, inr, map}
use Rattle.clap.specs.Words.{subcommand_of}
use Rattle.capn_commands.specs.declared.command.Command.{Command}
use Rattle.capn_args.specs.CommandLine.{program_line}
use Rattle.capn_args.specs.Meaning.{MeansInvocation}
use Rattle.capn_args.specs.declared.invocation.Invocation.TheVariants as invocations
use Rattle.capn_args.proofs.OneInvocation.{means_one_invocation, same_command}
use Rattle.capn_args.proofs.command_invocation.command_of.Given.{Over}
use Rattle.capn_args.proofs.command_invocation.command_of.Goals as goal

no_command : (g : Over) (c : goal.After-no_command g) (command : Command)
    → MeansInvocation (subcommand_of program_line (map g.S.AsStr.text c.args.words.now)) (invocations.Message command)
    → ⊥
no_command g c command means =
    let same =
    means_one_invocation _ c.in_ok-command.field-0 (invocations.Message command) c.in_ok-command.ensures.means means in
    c.in_default.not-Message command (same_command c.in_ok-command.field-0 command same)

pub returns-in_default-clause-only : goal.returns-in_default-clause-only
returns-in_default-clause-only g c taken command means = absurd (no_command g c command means)

pub returns-in_default-clause-reason : goal.returns-in_default-clause-reason
returns-in_default-clause-reason g c =
    elim c.no_command.ensures [
      | inl memory ↦ inl (inl memory)
      | inr other ↦
          inr (
            c.in_ok-command.ensures.passes,
            other,
            (c.in_ok-command.field-0, c.in_ok-command.ensures.means),
            no_command g c,
          )
    ]
