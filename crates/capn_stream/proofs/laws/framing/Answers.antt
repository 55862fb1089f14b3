use Rattle.capn_stream.proofs.shared.FrameLaws.{one_frame, one_refusal, refused_whole, whole_of}
use Rattle.capn_stream.proofs.laws.framing.Goals as goal

pub returns-clause-one : goal.returns-clause-one
returns-clause-one c = one_frame

pub returns-clause-refusal : goal.returns-clause-refusal
returns-clause-refusal c = one_refusal

pub returns-clause-apart : goal.returns-clause-apart
returns-clause-apart c bs most m taken e h r = refused_whole bs most e (whole_of bs most m taken h) r
