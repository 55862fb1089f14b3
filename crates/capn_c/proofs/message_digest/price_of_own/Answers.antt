-- A message of more than one segment is not canonical.
use Rattle.capn_c.proofs.Measures.{not_one}
use Rattle.capn_c.proofs.message_digest.price_of_own.Goals as goal

pub returns-in-None-clause-other : goal.returns-in-None-clause-other
returns-in-None-clause-other g c e v is = not_one c.args.space.now v c.in-None.ensures.other
