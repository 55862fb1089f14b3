use Rattle.std.proofs.Common.{◌≡◌, ◌∙◌, true, false, Some, None, subst, sym}
use Rattle.clap.specs.Words.{found_of, rows_of}
use Rattle.capn_show.specs.declared.style.Style.{Style}
use Rattle.capn_args.specs.Meaning.{MarksAre}
use Rattle.capn_args.proofs.NamedInvocations.{show_means}
use Rattle.capn_args.proofs.OneInvocation.{style_one}
use Rattle.capn_args.proofs.show_options.show_of.Goals as goal

pub returns-in_err-form-clause-served : goal.returns-in_err-form-clause-served
returns-in_err-form-clause-served c invocation means =
    let all = show_means (rows_of (found_of c.args.matches.now)) invocation means in
    let bad : false ≡ true = c.in_err-form.ensures.served all.form all.form_is in absurd cc

pub returns-in_err-limits-clause-served : goal.returns-in_err-limits-clause-served
returns-in_err-limits-clause-served c invocation means =
    let all = show_means (rows_of (found_of c.args.matches.now)) invocation means in
    let bad : false ≡ true = c.in_err-limits.ensures.served all.limits all.limits_are in absurd cc

pub returns-in_err-style-clause-served : goal.returns-in_err-style-clause-served
returns-in_err-style-clause-served c invocation means =
    let all = show_means (rows_of (found_of c.args.matches.now)) invocation means in
    let bad : None ≡ Some all.style = sym c.in_err-style.was ∙ c.style_of.ensures ∙ all.style_is in absurd cc

pub returns-in_err-one-clause-served : goal.returns-in_err-one-clause-served
returns-in_err-one-clause-served c invocation means =
    let all = show_means (rows_of (found_of c.args.matches.now)) invocation means in
    let bad : false ≡ true = c.in_err-one.ensures.served all.one all.one_is in absurd cc

pub returns-in_err-offsets-clause-served : goal.returns-in_err-offsets-clause-served
returns-in_err-offsets-clause-served c invocation means =
    let rows = rows_of (found_of c.args.matches.now) in
    let all = show_means rows invocation means in
    let marks = subst (λ (s : Style). MarksAre rows s all.offsets all.ways)
    (style_one rows all.style c.in_ok-style.style all.style_is (sym c.style_of.ensures ∙ c.in_ok-style.was))
    all.marks_are in
    let bad : false ≡ true = c.in_err-offsets.ensures.served all.offsets all.ways marks in absurd cc
