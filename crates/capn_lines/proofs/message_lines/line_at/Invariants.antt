use Rattle.std.proofs.Common.{◌≡◌, ◌+◌, ◌-◌, length}
use Rattle.capn_words.specs.Message.{segment_at}
use Rattle.capn_lines.specs.Lines.{covered_at, followers, kind_at, line_of}
use Rattle.capn_lines.proofs.message_lines.line_at.Given as goal

abbrev pub invariant-loop-word : goal.invariant-loop-word
invariant-loop-word g l =
    let m = g.S.Space.message l.space in
    let size = length (segment_at m l.at.segment) in
    record {
      line : l.line ≡ line_of m l.words l.at (l.word - l.at.word);
      kind : l.previous.kind ≡ kind_at m l.words (record { segment = l.at.segment; word = l.word - 1 });
      covered : l.previous.covered ≡ covered_at m l.words (record { segment = l.at.segment; word = l.word - 1 });
      rest : followers m l.words l.at.segment (l.at.word + 1) (size - (l.at.word + 1))
          ≡ (l.word - (l.at.word + 1)) + followers m l.words l.at.segment l.word (size - l.word);
    }
