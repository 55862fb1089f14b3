use Rattle.std.proofs.Common.{◌≡◌, ◌-◌, length, false}
use Rattle.std.specs.Io.KnownBytes.{Consumes}
use Rattle.capn_words.specs.Watched.{has_failed, inner_of}
use Rattle.capn_stream.specs.StreamPieces.{IsUnfinished}
use Rattle.capn_stream.specs.NextMessage.{most_bytes}
use Rattle.capn_stream.proofs.next_message.receive.Given as goal

-- neither the reader nor the framer has failed, and the framer has the bytes that were read, which are unfinished
abbrev pub invariant-pieces : goal.invariant-pieces
invariant-pieces g l = record {
  fine : has_failed l.reader ≡ false;
  good : l.framer.failed ≡ false;
  most : l.framer.most ≡ l.max_words;
  read : Consumes (g.R.Read.remaining (inner_of l.fn.reader)) (g.R.Read.remaining (inner_of l.reader)) l.framer.rest;
  part : IsUnfinished l.framer.rest l.max_words;
}

-- the greatest number of bytes that can still be read for the frame
abbrev pub decreases-pieces : goal.decreases-pieces
decreases-pieces g l = most_bytes l.max_words - length l.framer.rest
