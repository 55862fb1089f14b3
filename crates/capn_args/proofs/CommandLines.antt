-- Lemmas for `with_commands`: the parser of a program with one more subcommand.
use Rattle.std.proofs.Common.{◌≡◌, Result, IfOk, ap, ap₂, ◌∙◌}
use Rattle.std.proofs.lemmas.Result.{IfOk-weaker}
use Rattle.clap.specs.Words.{AddsSubcommand, App, Shape, app_of, with_subcommand}
use Rattle.clap.specs.declared.builder.command.Command.{Command}
use Rattle.capn_args.specs.CommandLine.{HasLine}

abbrev top_of : App → Shape
top_of a = a.top

pub answers_command : {E : Type 0} (old sub : Command) (top line : App) (r : Result Command E) → app_of old ≡ top
    → HasLine sub line → IfOk r (AddsSubcommand old sub) → IfOk r (λ new. app_of new ≡ with_subcommand top line.top)
answers_command old sub top line r same (is, free) adds =
    IfOk-weaker r (AddsSubcommand old sub) (λ new. app_of new ≡ with_subcommand top line.top)
    (λ new added. added.shape free ∙ ap₂ with_subcommand same (ap top_of is)) adds
