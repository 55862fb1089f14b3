use Rattle.std.proofs.Common.{length, subst, sym}
use Rattle.capn_canon.specs.declared.form.Form.{Form}
use Rattle.capn_scratch.specs.inner.Outcomes.{IsFormTold}
use Rattle.capn_scratch.proofs.canonical_form.of_form.Goals as goal

pub returns-in-Bare-clause-told : goal.returns-in-Bare-clause-told
returns-in-Bare-clause-told g c =
    subst (λ (form : Form). IsFormTold form c.args.bytes.now c.args.limits (length c.args.scratch) c.args.out.now
    c.of_bare.new.out c.of_bare.result) (sym c.in-Bare.is) (c.of_bare.ensures.told (length c.args.scratch))
