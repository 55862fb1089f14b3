-- `compare` gets the form and the limits that the caller's numbers name.
use Rattle.capn_c.proofs.OfMessage.{denoted}
use Rattle.capn_c.proofs.same_call.capn_same.Goals as goal

pub returns-in-Ok-clause-only : goal.returns-in-Ok-clause-only
returns-in-Ok-clause-only c f l t v w d =
    let one = denoted c.in-Some.ensures.value c.in-Ok.ensures.value d.one in
    let other = denoted c.in-Some.ensures.value c.in-Ok.ensures.value d.other in
    c.compare.ensures.only v w (record { one = one; one_free = d.one_free; other = other; other_free = d.other_free })
