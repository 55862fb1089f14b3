use Rattle.std.proofs.Common.{◌∙◌}
use Rattle.capn_walk.proofs.survey_visit.visit_struct.Goals as goal

pub visit_found-requires-clause-found : goal.visit_found-requires-clause-found
visit_found-requires-clause-found g c = c.near-found.ensures.near ∙ c.requires.pointer
