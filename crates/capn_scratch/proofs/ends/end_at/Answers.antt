use Rattle.std.proofs.Common.{sym, ◌∙◌}
use Rattle.capn_scratch.proofs.EndWords.{number_in}
use Rattle.capn_scratch.proofs.ends.end_at.Goals as goal

pub returns : goal.returns
returns c = c.from_le_bytes.ensures ∙ sym (number_in c.args.ends.now c.args.index c.requires.inside)
