-- The refusal that is reported is never `Memory`.
use Rattle.capn_canon.specs.declared.form.Form.TheVariants as forms
use Rattle.capn_c.proofs.Reported.{refused_bytes}
use Rattle.capn_c.proofs.is_canonical_call.test.Goals as goal

pub returns-in-Err-clause-reported : goal.returns-in-Err-clause-reported
returns-in-Err-clause-reported g c =
    let bs = g.B.AskedInput.bytes c.args.bytes in
    let h = c.in-Err.ensures in
    refused_bytes forms.Bare bs c.args.limits c.refuse.result c.refuse.new.report c.in-Err.refusal
    c.refuse.ensures h.bounded h.no_memory h.refused
