use Rattle.std.proofs.lemmas.Result.{err_from_is_err_and}
use Rattle.capn_serve.specs.StreamRun.{start}
use Rattle.capn_commands.specs.declared.plan.MessageText.TheVariants as kinds
use Rattle.capn_commands.specs.declared.plan.Whole.TheVariants as wholes
use Rattle.capn_commands.proofs.Makings.{made_bare, unmade_piece, unread_bare}
use Rattle.capn_commands.proofs.whole_input.make_verdict.Goals as goal

pub returns-in_err-bytes : goal.returns-in_err-bytes
returns-in_err-bytes g c =
    let p = err_from_is_err_and c.from_residual.result c.from_residual.ensures.1 in
    rw (p.1, p.2)
    (unmade_piece _ _ _ _ kinds.Price c.args.limits
    (unread_bare _ _ _ c.in_err-bytes.field-0.0 start c.in_err-bytes.ensures))

pub returns : goal.returns
returns g c =
    made_bare _ _ _ start (wholes.Bare kinds.Price c.args.limits) c.in_ok-bytes.bytes _ c.verdict.result
    c.in_ok-bytes.ensures c.deref.ensures.value c.verdict.ensures
