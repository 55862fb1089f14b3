use Rattle.std.proofs.Common.{Ok}
use Rattle.std.proofs.lemmas.Result.{err_from_is_err_and}
use Rattle.capn_canon.specs.declared.form.Form.TheVariants as forms
use Rattle.capn_serve.specs.StreamRun.{start}
use Rattle.capn_commands.specs.declared.plan.Whole.TheVariants as wholes
use Rattle.capn_commands.proofs.Makings.{gives_refused, made_bare, unmade_canonical, unread_bare}
use Rattle.capn_commands.proofs.whole_input.make_trimmed.Goals as goal

pub returns-in_err-bytes : goal.returns-in_err-bytes
returns-in_err-bytes g c =
    let p = err_from_is_err_and c.from_residual.result c.from_residual.ensures.1 in
    rw (p.1, p.2)
    (unmade_canonical _ _ _ _ c.args.limits
    (unread_bare _ _ _ c.in_err-bytes.field-0.0 start c.in_err-bytes.ensures))

pub returns-in_err-canonical : goal.returns-in_err-canonical
returns-in_err-canonical g c =
    made_bare _ _ _ start (wholes.Canonical forms.Bare c.args.limits) c.in_ok-bytes.bytes _
    c.from_residual-in_err-canonical.result c.in_ok-bytes.ensures c.deref.ensures.value
    (gives_refused forms.Bare _ c.args.limits c.in_err-canonical.field-0.0 _ c.in_err-canonical.ensures.refused
    c.from_residual-in_err-canonical.ensures)

pub returns : goal.returns
returns g c =
    made_bare _ _ _ start (wholes.Canonical forms.Bare c.args.limits) c.in_ok-bytes.bytes _
    (Ok c.in_ok-canonical.canonical.bytes) c.in_ok-bytes.ensures c.deref.ensures.value
    (c.in_ok-canonical.canonical.paid, c.in_ok-canonical.ensures.found)
