use Rattle.std.proofs.Common.{◌≡◌, take}
use Rattle.capn_words.specs.Message.{segment_at}
use Rattle.capn_mismatch.proofs.difference.first_difference.Given as goal

abbrev pub invariant-loop-word : goal.invariant-loop-word
invariant-loop-word g l = record {
  same : take l.word (segment_at (g.S.Space.message l.space) 0) ≡ take l.word l.other;
}
