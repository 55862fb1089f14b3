use Rattle.std.proofs.Common.{◌≡◌, take}
use Rattle.capn_words.specs.Message.{total}
use Rattle.capn_cover.proofs.Before.{AreBefore}
use Rattle.capn_cover.proofs.starts.words_before.Given as goal

abbrev pub invariant-loop-segment : goal.invariant-loop-segment
invariant-loop-segment g l = record {
  before : AreBefore (g.S.Space.message l.space) l.before.items l.segment;
  next : l.next ≡ total (take l.segment (g.S.Space.message l.space));
}
