-- The position and the size of a message. (Our own.)
use Rattle.std.specs.Prelude.{ℕ, List, length}
use Rattle.capn_words.specs.Message.{total}
use Rattle.capn_serve.specs.declared.position.Position.{Position}
use Rattle.capn_archive.specs.declared.message_head.MessageHead.{MessageHead}

-- The position `at` of `message`, the length of `frame`, the number of segments, and the number of words in all
-- segments.
abbrev pub head_of : Position → List ℕ → List (List ℕ) → MessageHead
head_of at frame message = record {
  at = at;
  bytes = length frame;
  segments = length message;
  words = total message;
}
