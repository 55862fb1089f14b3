-- `refusal_way` gets the form and the limits that the caller's numbers name.
use Rattle.capn_c.proofs.OfMessage.{denoted}
use Rattle.capn_c.proofs.refusal_way_call.capn_refusal_way.Goals as goal

pub returns-in-Ok-clause-only : goal.returns-in-Ok-clause-only
returns-in-Ok-clause-only c f l t v d =
    c.refusal_way.ensures.only v (denoted c.in-Some.ensures.value c.in-Ok.ensures.value d)
