-- The survey of the only segment says whether the message is canonical.
use Rattle.capn_canon.specs.declared.surveyed_bare.SurveyedBare.{SurveyedBare}
use Rattle.capn_c.proofs.Measures.{not_told, one_answer, one_other}
use Rattle.capn_c.proofs.message_digest.price_of_one.Goals as goal

pub returns-then-surveyed-clause-found : goal.returns-then-surveyed-clause-found
returns-then-surveyed-clause-found g c =
    one_answer c.args.space.now c.args.limits c.in-Some.surveyed c.requires.one c.in-Some.ensures.found
    c.if-surveyed.true

pub returns-else-surveyed-clause-other : goal.returns-else-surveyed-clause-other
returns-else-surveyed-clause-other g c e =
    one_other c.args.space.now c.args.limits c.in-Some.surveyed c.requires.one c.in-Some.ensures.found
    c.if-surveyed.false

pub returns-in-None-clause-other : goal.returns-in-None-clause-other
returns-in-None-clause-other g c e = not_told SurveyedBare c.args.space.now c.args.limits c.in-None.ensures.only
