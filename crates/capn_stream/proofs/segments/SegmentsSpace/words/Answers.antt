-- The proof of `Segments::words`.
use Rattle.std.proofs.Common.{ap, length, sym, arith}
use Rattle.capn_stream.proofs.Held.{count_of, none, seen_room, seen_words, words_of-none}
use Rattle.capn_stream.proofs.segments.SegmentsSpace.words.Goals as goal

pub overflow_cast-result-2 : goal.overflow_cast-result-2
overflow_cast-result-2 c =
    record {
      fits = seen_room c.self.inside.segments.now c.args.self.now c.self.view_is c.args.segment
          none c.self.invariant.0 c.if-segment-self.false;
    }

pub returns-then-segment-self : goal.returns-then-segment-self
returns-then-segment-self c =
    let past = c.if-segment-self.true in
    sym (words_of-none c.args.self.now c.args.segment
    (omega (arith, past, ap length c.self.view_is, count_of c.self.inside.segments.now)))

pub returns : goal.returns
returns c =
    seen_words c.self.inside.segments.now c.args.self.now c.self.view_is c.args.segment none c.if-segment-self.false
