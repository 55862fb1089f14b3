use Rattle.capn_scratch.proofs.Forms.{answered}
use Rattle.capn_scratch.proofs.canonical_form.canonical_into_form_of.Goals as goal

pub returns-clause-answered : goal.returns-clause-answered
returns-clause-answered g c =
    answered c.args.form _ c.args.limits _ c.args.out.now c.ask_bytes.new.out c.ask_bytes.result c.ask_bytes.ensures
