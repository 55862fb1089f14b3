use Rattle.capn_show.proofs.OneJson.{one-json}
use Rattle.capn_show.proofs.laws.json_texts.Goals as goal

pub returns : goal.returns
returns c = one-json
