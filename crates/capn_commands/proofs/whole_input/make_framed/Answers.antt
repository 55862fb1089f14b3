use Rattle.std.proofs.Common.{Ok}
use Rattle.std.proofs.lemmas.Result.{err_from_is_err_and}
use Rattle.capn_canon.specs.declared.form.Form.TheVariants as forms
use Rattle.capn_commands.proofs.Makings.{gives_refused, made_framed, unmade_framed}
use Rattle.capn_commands.proofs.whole_input.make_framed.Goals as goal

pub returns-in_err-frame : goal.returns-in_err-frame
returns-in_err-frame g c =
    let p = err_from_is_err_and c.from_residual.result c.from_residual.ensures.1 in
    rw (p.1, p.2)
    (unmade_framed g.row.A.Denot _ _ _ c.args.form c.args.limits _ c.in_err-frame.field-0.0
    c.message_words.ensures.value c.in_err-frame.ensures)

pub returns-in_err-canonical : goal.returns-in_err-canonical
returns-in_err-canonical g c =
    made_framed _ _ _ c.args.form c.args.limits _ c.in_ok-frame.frame _ c.from_residual-in_err-canonical.result
    c.message_words.ensures.value c.in_ok-frame.ensures c.deref.ensures.value
    (gives_refused forms.Stream _ c.args.limits c.in_err-canonical.field-0.0 _ c.in_err-canonical.ensures.refused
    c.from_residual-in_err-canonical.ensures)

pub returns : goal.returns
returns g c =
    made_framed _ _ _ c.args.form c.args.limits _ c.in_ok-frame.frame _ (Ok c.in_ok-canonical.canonical.bytes)
    c.message_words.ensures.value c.in_ok-frame.ensures c.deref.ensures.value
    (c.in_ok-canonical.canonical.paid, c.in_ok-canonical.ensures.found)
