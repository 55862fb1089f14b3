-- `annotate_in` gets the form and the limits that the caller's numbers name.
use Rattle.capn_c.proofs.OfMessage.{denoted}
use Rattle.capn_c.proofs.annotate_call.capn_annotate.Goals as goal

pub returns-in-Ok-clause-only : goal.returns-in-Ok-clause-only
returns-in-Ok-clause-only c f l t v d =
    c.annotate_in.ensures.only v (denoted c.in-Some.ensures.value c.in-Ok.ensures.value d)
