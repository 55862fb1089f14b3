use Rattle.capn_c.proofs.Framed.{answered_as_framed, refused_as_framed}
use Rattle.capn_c.proofs.laws.segments.Goals as goal

pub returns-clause-answered : goal.returns-clause-answered
returns-clause-answered c = answered_as_framed

pub returns-clause-refused : goal.returns-clause-refused
returns-clause-refused c = refused_as_framed
