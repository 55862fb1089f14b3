use Rattle.std.proofs.Common.{◌-◌}
use Rattle.test_lines.proofs.message_lines.annotate.Given as goal

abbrev pub decreases-lines : goal.decreases-lines
decreases-lines l = l.count - l.word
