use Rattle.capn_show.proofs.shared.Appended.{same}
use Rattle.test_explained.proofs.text_parts.QuotedEmitter.put_mark.Goals as goal

pub returns-clause-shown : goal.returns-clause-shown
returns-clause-shown g c = same _
