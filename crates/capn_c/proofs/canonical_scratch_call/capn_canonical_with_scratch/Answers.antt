-- `write_lent` gets the form and the limits that the caller's numbers name.
use Rattle.std.proofs.Common.{◌≡◌, ℕ, List, length, subst}
use Rattle.capn_walk.specs.Limits.{Bounds}
use Rattle.capn_canon.specs.declared.form.Form.{Form}
use Rattle.capn_abi.specs.Calls.{bounds_of, form_named}
use Rattle.capn_abi.specs.declared.limits.CapnLimits.{CapnLimits}
use Rattle.capn_abi.specs.declared.report.CapnReport.{CapnReport}
use Rattle.capn_c.specs.inner.Lent.{IsLent}
use Rattle.capn_c.proofs.canonical_scratch_call.capn_canonical_with_scratch.Goals as goal

named : (n : ℕ) (form : Form) (bs : List ℕ) (c : CapnLimits) (l : Bounds) (scratch : ℕ) (old new : List ℕ)
    (status : ℕ) (report : CapnReport) → form ≡ form_named n → l ≡ bounds_of c
    → IsLent form bs l scratch old new status report
    → IsLent (form_named n) bs (bounds_of c) scratch old new status report
named n form bs c l scratch old new status report e f h =
    subst (λ (x : Form). IsLent x bs (bounds_of c) scratch old new status report) e
    (subst (λ (x : Bounds). IsLent form bs x scratch old new status report) f h)

pub returns-in-Ok-clause-lacked : goal.returns-in-Ok-clause-lacked
returns-in-Ok-clause-lacked c f l t n k =
    (named c.args.form c.in-Some.form c.args.bytes.now c.args.limits.now c.in-Ok.limits (length c.args.scratch.now)
    c.args.out.now c.write_lent.new.out c.write_lent.result c.write_lent.new.report c.in-Some.ensures.value
    c.in-Ok.ensures.value c.write_lent.ensures).lacked n k

pub returns-in-Ok-clause-canonical : goal.returns-in-Ok-clause-canonical
returns-in-Ok-clause-canonical c e v d =
    (named c.args.form c.in-Some.form c.args.bytes.now c.args.limits.now c.in-Ok.limits (length c.args.scratch.now)
    c.args.out.now c.write_lent.new.out c.write_lent.result c.write_lent.new.report c.in-Some.ensures.value
    c.in-Ok.ensures.value c.write_lent.ensures).canonical e v d
