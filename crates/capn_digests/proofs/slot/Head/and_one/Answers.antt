use Rattle.capn_digests.specs.Tag.{marks, more}
use Rattle.capn_digests.proofs.Marks.{or_keeps}
use Rattle.capn_digests.proofs.slot.Head.and_one.Goals as goal

pub returns-clause-kept : goal.returns-clause-kept
returns-clause-kept c t m = (
  or_keeps c.args.self.marks c.marks_of.result (marks t) m.0,
  or_keeps c.args.self.more c.more_of.result (more t) m.1,
)
