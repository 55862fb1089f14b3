use Rattle.capn_lines.proofs.Lines.{agree, all-words, long}
use Rattle.capn_lines.proofs.OneLine.{one-line}
use Rattle.capn_lines.proofs.laws.lines_of_a_message.Goals as goal

pub returns : goal.returns
returns c = record {
  all = λ m ws s. all-words m ws s;
  agree = λ m ws at k h. agree m ws at k h;
  long = λ m ws at h. long m ws at h;
  together = λ m limits ws h at p k l. one-line m limits ws h at p k l;
}
