use Rattle.std.proofs.Common.{◌≡◌, Result, IfOk, subst}
use Rattle.clap.specs.Words.{App, app_of}
use Rattle.clap.specs.declared.builder.command.Command.{Command}
use Rattle.capn_args.specs.CommandLine.{commands, program_line, top_line, with_commands}
use Rattle.capn_args.proofs.subcommands.program_command.Goals as goal

whole : {E : Type 0} (top : App) (r : Result Command E) → top ≡ top_line
    → IfOk r (λ c. app_of c ≡ with_commands top commands) → IfOk r (λ c. app_of c ≡ program_line)
whole top r is has = subst (λ (a : App). IfOk r (λ c. app_of c ≡ with_commands a commands)) is has

pub returns : goal.returns
returns c = whole _ c.with_commands.result c.top_command.ensures c.with_commands.ensures
