use Rattle.capn_pack.proofs.shared.GroupLaws.{one_reading, refused_only}
use Rattle.capn_pack.proofs.shared.RefusalLaws.{one_unpack_fault}
use Rattle.capn_pack.proofs.laws.reading.Goals as goal

pub returns-clause-one : goal.returns-clause-one
returns-clause-one c = one_reading

pub returns-clause-refusal : goal.returns-clause-refusal
returns-clause-refusal c = one_unpack_fault

pub returns-clause-apart : goal.returns-clause-apart
returns-clause-apart c b ws max e packs fits refused = refused_only e b ws max refused packs fits
