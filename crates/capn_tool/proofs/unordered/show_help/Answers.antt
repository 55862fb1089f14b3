use Rattle.std.proofs.Common.{sym, subst}
use Rattle.capn_args.specs.Usage.{IsHelp}
use Rattle.capn_tool.proofs.Shown.{help_not_shown, help_shown}
use Rattle.capn_tool.proofs.unordered.show_help.Goals as goal

pub returns-in_err-write_all : goal.returns-in_err-write_all
returns-in_err-write_all g c =
    let help = subst IsHelp (sym c.as_bytes.ensures.value) (c.in_ok-text.ensures c.requires.help) in
    let wrote = c.in_err-write_all.ensures in
    help_not_shown _ _ _ _ _ c.from_residual-in_err-write_all.result help wrote.begun c.requires.fine wrote.failed
    c.from_residual-in_err-write_all.ensures.1

pub returns : goal.returns
returns g c =
    let help = subst IsHelp (sym c.as_bytes.ensures.value) (c.in_ok-text.ensures c.requires.help) in
    let wrote = c.in_ok-write_all.ensures in
    help_shown _ _ _ _ _ _ _ _ help wrote.ok c.requires.fine wrote.failed c.flush_after.ensures.kept
    c.flush_after.ensures.ended
