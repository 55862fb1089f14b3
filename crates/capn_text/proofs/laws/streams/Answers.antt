use Rattle.capn_text.proofs.StreamTexts.{one_stream, stream_goes_on}
use Rattle.capn_text.proofs.laws.streams.Goals as goal

pub returns-clause-one : goal.returns-clause-one
returns-clause-one c vs ws sv sw e = one_stream vs ws sv sw e

pub returns-clause-goes_on : goal.returns-clause-goes_on
returns-clause-goes_on c vs v rest = stream_goes_on vs v rest
