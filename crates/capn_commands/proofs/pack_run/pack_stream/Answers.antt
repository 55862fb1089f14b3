use Rattle.std.proofs.Common.{◌≡◌, ◌+◌, ◌≤◌, ◌++◌, ℕ, List, [], Option, drop, length, length-append, length-take}
use Rattle.std.proofs.Common.{take, true, false, ap, sym, refl, subst, arith}
use Rattle.std.proofs.KnownBytes.{Appends-nil, Consumes-nil, Appends-trans}
use Rattle.std.proofs.lemmas.List.{take-append-le}
use Rattle.std.proofs.lemmas.Result.{err_from_is_err_and}
use Rattle.capn_commands.specs.Flow.{Consumed}
use Rattle.capn_commands.specs.PackRun.{Settles, packing}
use Rattle.capn_commands.proofs.HeldBack.{open_none}
use Rattle.capn_commands.proofs.InputRead.{has_broken, still_fine}
use Rattle.capn_commands.proofs.RunEnds.{heard_more, run_ended, run_long, run_stopped, run_unread}
use Rattle.capn_commands.proofs.Packed.{Holds, front_stop, holds_begins, holds_settles, packing_ends, packs_stop}
use Rattle.capn_commands.proofs.Packed.{settles_more, settles_none}
use Rattle.capn_commands.proofs.pack_run.pack_stream.Goals as goal

heard_none : (held : List ℕ) (a c : Option (List ℕ)) → held ≡ [] → Consumed (Holds held) a a c c 0
heard_none held a c is = record {
  bytes = [];
  text = [];
  read = Consumes-nil a;
  count = refl;
  wrote = Appends-nil c;
  holds = subst (λ (h : List ℕ). Holds h [] []) (sym is) (
    settles_none [],
    omega arith,
    record {
      words = [];
      tail = [];
      is = refl;
      open_words = open_none [] refl;
      short = omega arith;
    },
  );
}

pub chunks-init : goal.chunks-init
chunks-init g c = record {
  reader = c.requires.reader_fine;
  writer = c.requires.writer_fine;
  within = omega arith;
  few = omega (arith, ap length c.new-held.ensures.items);
  heard = heard_none c.new-held.result.items _ _ c.new-held.ensures.items;
}

pub returns-in-Err : goal.returns-in-Err
returns-in-Err g c =
    let i = c.chunks.invariant in
    let held = c.chunks.held.items in
    run_unread packing (Holds held) (holds_settles held) (holds_begins held) _ _ _ _ _ c.chunks.taken _ _
    (has_broken _ _ c.in-Err.ensures.failed) i.within i.heard c.in-Err.ensures.bytes

pub returns-in-Ok-eq0 : goal.returns-in-Ok-eq0
returns-in-Ok-eq0 g c =
    let i = c.chunks.invariant in
    let h = i.heard in
    let held = c.chunks.held.items in
    let room = length-take (c.min-room.result + 1) c.chunks.buffer in
    let last = rw c.deref.ensures.value at c.pack_last.ensures in
    let wrote = last.written in
    run_ended packing (Holds held) (holds_settles held) (holds_begins held) _ _ _ _ _ _ c.chunks.taken
    c.read.new.buf c.in-Ok-eq0.field-0 _ _ c.pack_last.result
    (still_fine _ _ i.reader c.in-Ok-eq0.ensures.failed) i.within h c.in-Ok-eq0.field-0-test
    c.in-Ok-eq0.ensures.bytes (omega (arith, room)) (take wrote.1 wrote.0) wrote.3
    (packing_ends h.bytes h.text held h.holds.0 c.chunks.taken h.count _ _ _ h.wrote i.few false _ _ last)

pub returns-in_err-pack_chunk-in-Ok : goal.returns-in_err-pack_chunk-in-Ok
returns-in_err-pack_chunk-in-Ok g c =
    let i = c.chunks.invariant in
    let h = i.heard in
    let held = c.chunks.held.items in
    let p = err_from_is_err_and c.from_residual.result c.from_residual.ensures.1 in
    let bound = c.in-Ok.ensures.bound in
    let room = length-take (c.min-room.result + 1) c.chunks.buffer in
    let fault = c.in_err-pack_chunk-in-Ok.field-0.0 in
    let within = c.min-within.result in
    let stop = front_stop held c.read.new.buf (drop (c.min-room.result + 1) c.chunks.buffer) within _ _ _ fault
    (omega (arith, c.min-within.ensures, bound.0)) c.in_err-pack_chunk-in-Ok.ensures in
    rw (p.1, p.2)
    (run_stopped packing (Holds held) (holds_settles held) (holds_begins held) _ _ _ _ _ _ c.chunks.taken
    c.read.new.buf within c.in-Ok.count _ _ fault (still_fine _ _ i.reader c.in-Ok.ensures.failed) i.within
    (omega (arith, c.min-within.ensures)) (omega (arith, bound.0, room, c.min-room.ensures, i.within))
    (omega (arith, c.in-Ok.count-test)) (omega (arith, bound.0, room, c.min-room.ensures)) h c.in-Ok.ensures.bytes.0
    bound.0 (take stop.written.1 stop.written.0) stop.written.3
    (packs_stop h.bytes h.text held (take within c.read.new.buf) h.holds.0 _ _ _ _ fault h.wrote stop))

pub returns-then-within-count : goal.returns-then-within-count
returns-then-within-count g c =
    let i = c.chunks.invariant in
    let h = i.heard in
    let held = c.chunks.held.items in
    let next = c.pack_chunk.new.held.items in
    let bound = c.in-Ok.ensures.bound in
    let room = length-take (c.min-room.result + 1) c.chunks.buffer in
    let done = c.in_ok-pack_chunk-in-Ok.ensures in
    let within = c.min-within.result in
    let past = c.if-within-count.true in
    let part = subst (λ (l : List ℕ). Settles (held ++ l) done.0 next)
    (take-append-le within c.read.new.buf (drop (c.min-room.result + 1) c.chunks.buffer)
    (omega (arith, past, bound.0))) done.1 in
    let all = settles_more h.bytes h.text held (take within c.read.new.buf) h.holds.0 done.0 next part in
    let size : length (h.bytes ++ take within c.read.new.buf) ≡ c.chunks.taken + within = omega (
      arith,
      h.count,
      length-append h.bytes (take within c.read.new.buf),
      length-take within c.read.new.buf,
      past,
      bound.0,
    ) in
    let few : length next ≤ c.chunks.taken + within = omega (
      arith,
      done.5,
      i.few,
      length-take within (c.read.new.buf ++ drop (c.min-room.result + 1) c.chunks.buffer),
    ) in
    let last = rw c.deref-then-within-count.ensures.value at c.pack_last-then-within-count.ensures in
    let wrote = last.written in
    run_long packing (Holds held) (holds_settles held) (holds_begins held) _ _ _ _ _ _ c.chunks.taken
    c.read.new.buf within c.in-Ok.count _ _ _ (still_fine _ _ i.reader c.in-Ok.ensures.failed)
    (omega (arith, i.within, c.min-within.ensures, past)) past
    (omega (arith, bound.0, room, c.min-room.ensures, i.within)) (omega (arith, bound.0, room, c.min-room.ensures))
    h c.in-Ok.ensures.bytes.0 bound.0 (done.0 ++ take wrote.1 wrote.0)
    (Appends-trans _ _ _ done.0 (take wrote.1 wrote.0) done.3 wrote.3)
    (packing_ends (h.bytes ++ take within c.read.new.buf) (h.text ++ done.0) next all (c.chunks.taken + within) size
    _ _ _ (Appends-trans _ _ _ h.text done.0 h.wrote done.3) few true _ _ last)

pub chunks-preserved : goal.chunks-preserved
chunks-preserved g c =
    let i = c.chunks.invariant in
    let h = i.heard in
    let held = c.chunks.held.items in
    let next = c.pack_chunk.new.held.items in
    let bound = c.in-Ok.ensures.bound in
    let done = c.in_ok-pack_chunk-in-Ok.ensures in
    let count = c.in-Ok.count in
    let within = c.min-within.result in
    let same : within ≡ count = omega (arith, c.min-within.ensures, c.if-within-count.false) in
    let front = subst (λ (l : List ℕ). Settles (held ++ l) done.0 next)
    (take-append-le within c.read.new.buf (drop (c.min-room.result + 1) c.chunks.buffer)
    (omega (arith, same, bound.0))) done.1 in
    let part = subst (λ (k : ℕ). Settles (held ++ take k c.read.new.buf) done.0 next) same front in
    record {
      reader = still_fine _ _ i.reader c.in-Ok.ensures.failed;
      writer = done.4;
      within = omega (arith, i.within, c.min-within.ensures);
      few = omega (
        arith,
        done.5,
        i.few,
        length-take within (c.read.new.buf ++ drop (c.min-room.result + 1) c.chunks.buffer),
      );
      heard = heard_more (Holds held) (Holds next) _ _ _ _ _ _ c.chunks.taken within count c.read.new.buf
          done.0 same h c.in-Ok.ensures.bytes.0 bound.0 done.3
          (settles_more h.bytes h.text held (take count c.read.new.buf) h.holds.0 done.0 next part, done.2, done.6);
    }

pub pack_chunk-requires-clause-fine : goal.pack_chunk-requires-clause-fine
pack_chunk-requires-clause-fine g c = c.chunks.invariant.writer

pub pack_chunk-requires-clause-held : goal.pack_chunk-requires-clause-held
pack_chunk-requires-clause-held g c = c.chunks.invariant.heard.holds.1
