use Rattle.std.proofs.Common.{◌≡◌, ◌<◌, ◌≤◌, ◌++◌, ℕ, List, Bool, true, false, ◌||◌, length, length-take, take}
use Rattle.std.proofs.Common.{drop, sym, subst, ◌∙◌, Ok, Err, arith}
use Rattle.std.proofs.lemmas.Grind.{common_steps}
use Rattle.std.proofs.lemmas.Result.{err_from_is_err_and}
use Rattle.capn_words.specs.Watched.{has_failed}
use Rattle.capn_stream.specs.StreamPieces.{Framing, IsUnfinished}
use Rattle.capn_stream.specs.FrameRefusal.{EndsWithin}
use Rattle.capn_stream.specs.NextMessage.{most_bytes}
use Rattle.capn_stream.proofs.Received.{received_end, received_err, received_io, received_more, received_none}
use Rattle.capn_stream.proofs.Received.{received_some, took_front, took_none, took_some}
use Rattle.capn_stream.proofs.next_message.receive.Goals as goal

-- if the last read returned an error, the flag `now` of the reader is set
has_broken : (was now : Bool) → now ≡ (was || true) → now ≡ true
has_broken true now e = e
has_broken false now e = e

pub returns-in-Err : goal.returns-in-Err
returns-in-Err g c =
    let i = c.pieces.invariant in
    let broken = has_broken _ _ c.in-Err.ensures.failed in
    let bound : length c.pieces.framer.rest ≤ most_bytes c.args.max_words =
    omega (arith, c.wanted.ensures.bound, i.most) in
    record {
      gives = received_io _ _ _ c.pieces.framer.rest c.args.max_words _ i.read c.in-Err.ensures.bytes bound i.part
          broken;
    }

pub returns-in-Ok-eq0 : goal.returns-in-Ok-eq0
returns-in-Ok-eq0 g c =
    let i = c.pieces.invariant in
    let some = c.wanted.ensures.some (subst (λ (m : ℕ). IsUnfinished c.pieces.framer.rest m) (sym i.most) i.part) in
    let room = length-take c.min-wanted.result c.pieces.piece in
    let bound : length c.pieces.framer.rest ≤ most_bytes c.args.max_words =
    omega (arith, c.wanted.ensures.bound, i.most) in
    let fine : has_failed c.read.new.self ≡ false = grind (arith, common_steps) in
    let ends = rw i.most at c.end_of.ensures in
    let read = received_none _ _ _ c.pieces.framer.rest c.read.new.buf c.in-Ok-eq0.field-0 c.in-Ok-eq0.field-0-test
    i.read c.in-Ok-eq0.ensures.bytes (omega arith) in
    record {
      gives =
          received_end _ _ c.pieces.framer.rest c.args.max_words _ c.end_of.result ends read.0 read.1 bound fine;
    }

-- if at most `wanted` bytes were read into `buf`, `EndsWithin` holds of all bytes that were read
read_within : (framer : Framing) (buf : List ℕ) (wanted count most : ℕ)
    → ((more : List ℕ) → length more ≤ wanted → EndsWithin (framer.rest ++ more) framer.most) → framer.most ≡ most
    → count ≤ wanted → EndsWithin (framer.rest ++ take count buf) most
read_within framer buf wanted count most within same few =
    subst (λ (m : ℕ). EndsWithin (framer.rest ++ take count buf) m) same
    (within (take count buf) (omega (arith, length-take count buf, few)))

pub returns-in_err-message-in-Ok : goal.returns-in_err-message-in-Ok
returns-in_err-message-in-Ok g c =
    let i = c.pieces.invariant in
    let p = err_from_is_err_and c.from_residual.result c.from_residual.ensures.1 in
    let bound = c.in-Ok.ensures.bound in
    let room = length-take c.min-wanted.result c.pieces.piece in
    let came : 0 < c.in-Ok.count = grind (arith, common_steps) in
    let took = took_front c.pieces.framer c.read.new.buf (drop c.min-wanted.result c.pieces.piece) c.in-Ok.count
    (Err c.in_err-message-in-Ok.field-0.0) c.take_in.new.framer bound.0 c.in_err-message-in-Ok.ensures in
    let fine : has_failed c.read.new.self ≡ false = grind (arith, common_steps) in
    let gives = received_err _ _ _ c.pieces.framer c.read.new.buf c.in-Ok.count c.take_in.new.framer c.args.max_words _
    i.most i.read c.in-Ok.ensures.bytes.0 bound.0 (omega (arith, c.wanted.ensures.bound, i.most, room, bound.0))
    fine came (read_within c.pieces.framer c.read.new.buf _ c.in-Ok.count c.args.max_words c.wanted.ensures.within
    i.most (omega (arith, bound.0, room))) c.in_err-message-in-Ok.field-0.0 took in
    rw (p.1, p.2) (record { gives = gives })

pub returns-in-Some : goal.returns-in-Some
returns-in-Some g c =
    let i = c.pieces.invariant in
    let bound = c.in-Ok.ensures.bound in
    let room = length-take c.min-wanted.result c.pieces.piece in
    let came : 0 < c.in-Ok.count = grind (arith, common_steps) in
    let took = took_some c.pieces.framer (take c.in-Ok.count c.read.new.buf) c.in_ok-message-in-Ok.field-0
    c.in-Some.message c.take_in.new.framer c.in-Some.is
    (took_front c.pieces.framer c.read.new.buf (drop c.min-wanted.result c.pieces.piece) c.in-Ok.count
    (Ok c.in_ok-message-in-Ok.field-0) c.take_in.new.framer bound.0 c.in_ok-message-in-Ok.ensures) in
    let fine : has_failed c.read.new.self ≡ false = grind (arith, common_steps) in
    record {
      gives =
          received_some _ _ _ c.pieces.framer c.read.new.buf c.in-Ok.count c.take_in.new.framer c.args.max_words _
          i.most
          i.read c.in-Ok.ensures.bytes.0 bound.0 (omega (arith, c.wanted.ensures.bound, i.most, room, bound.0)) fine
          came
          (read_within c.pieces.framer c.read.new.buf _ c.in-Ok.count c.args.max_words c.wanted.ensures.within
          i.most (omega (arith, bound.0, room))) c.in-Some.message took;
    }

pub pieces-preserved : goal.pieces-preserved
pieces-preserved g c =
    let i = c.pieces.invariant in
    let bound = c.in-Ok.ensures.bound in
    let took = took_none c.pieces.framer (take c.in-Ok.count c.read.new.buf) c.in_ok-message-in-Ok.field-0
    c.take_in.new.framer c.in_default.is
    (took_front c.pieces.framer c.read.new.buf (drop c.min-wanted.result c.pieces.piece) c.in-Ok.count
    (Ok c.in_ok-message-in-Ok.field-0) c.take_in.new.framer bound.0 c.in_ok-message-in-Ok.ensures) in
    record {
      fine = grind (arith, common_steps);
      good = took.2;
      most = took.1 ∙ i.most;
      read = received_more _ _ _ c.pieces.framer c.read.new.buf c.in-Ok.count c.take_in.new.framer i.read
          c.in-Ok.ensures.bytes.0 took.0;
      part = subst (λ (m : ℕ). IsUnfinished c.take_in.new.framer.rest m) i.most took.3;
    }
