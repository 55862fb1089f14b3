use Rattle.std.proofs.Common.{◌≡◌, ◌+◌, ◌<◌, ◌∙◌, ℕ, List, [], Bor, ap, sym, drop, get_or, length, refl}
use Rattle.std.proofs.lemmas.List.{drop_more}
use Rattle.std.proofs.lemmas.Result.{IfOk-at_ok}
use Rattle.clap.specs.Words.{App, Text, app_of, with_subcommand}
use Rattle.capn_args.specs.CommandLine.{line_of, with_commands}
use Rattle.capn_args.specs.inner.Rows.{texts_of}
use Rattle.capn_args.proofs.CommandLines.{answers_command}
use Rattle.capn_args.proofs.subcommands.with_commands.Goals as goal

abbrev blank : Bor Text
blank = record { ref_ptr = (0, 0); now = [] }

-- One step of the loop: if `new` is `top` with the command `names[i]`, `new` with the later commands is `whole`.
step : (names : List (Bor Text)) (i : ℕ) (top new whole : App) → i < length names
    → with_commands top (texts_of (drop i names)) ≡ whole
    → new ≡ with_subcommand top (line_of (get_or names i blank).now).top
    → with_commands new (texts_of (drop (i + 1) names)) ≡ whole
step names i top new whole less so_far is =
    ap (λ (a : App). with_commands a (texts_of (drop (i + 1) names))) is
    ∙ (sym (ap (λ (rest : List (Bor Text)). with_commands top (texts_of rest)) (drop_more names i blank less)) ∙ so_far)

pub loop-name-preserved : goal.loop-name-preserved
loop-name-preserved c =
    let names = c.args.names.now in
    let top = app_of c.loop-name.program in
    let line = line_of (get_or names c.loop-name.name-index blank).now in
    step names c.loop-name.name-index top (app_of c.in_ok-program.program) _ c.loop-name-test.true c.loop-name.invariant
    (IfOk-at_ok (λ new. app_of new ≡ with_subcommand top line.top) c.in_ok-program.was
    (answers_command c.loop-name.program c.in_ok-named_command.field-0 top line c.subcommand.result refl
    c.in_ok-named_command.ensures c.subcommand.ensures))
