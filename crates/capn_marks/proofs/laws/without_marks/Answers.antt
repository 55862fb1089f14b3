use Rattle.capn_marks.proofs.WithoutMarks.{bare-text}
use Rattle.capn_marks.proofs.laws.without_marks.Goals as goal

pub returns : goal.returns
returns c m marks no_offsets no_ways numbers v = bare-text marks no_offsets no_ways m numbers v
