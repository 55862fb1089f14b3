use Rattle.std.proofs.Common.{◌≡◌, ◌+◌, ◌-◌, ◌++◌, ℕ, [], drop, take, length-drop, length-take, true, refl, subst}
use Rattle.std.proofs.Common.{arith}
use Rattle.std.proofs.KnownBytes.{Appends-nil, Appends-trans, Consumes-nil}
use Rattle.std.proofs.lemmas.Result.{err_from_is_err_and}
use Rattle.capn_commands.specs.UnpackRun.{unpacking}
use Rattle.capn_commands.proofs.Chunk.{chunk_left, chunk_size, chunk_split, chunk_stop, ending_left}
use Rattle.capn_commands.proofs.InputRead.{has_broken, still_fine}
use Rattle.capn_commands.proofs.RunEnds.{heard_more, run_ended, run_long, run_stopped, run_unread}
use Rattle.capn_commands.proofs.Unpacked.{FromStart, start_at, start_begins, start_more, start_none, start_settles}
use Rattle.capn_commands.proofs.Unpacked.{start_stop, unpacking_ends}
use Rattle.capn_commands.proofs.unpack_run.unpack_stream.Goals as goal

pub chunks-init : goal.chunks-init
chunks-init g c = record {
  reader = c.requires.reader_fine;
  writer = c.requires.writer_fine;
  within = omega arith;
  short = omega arith;
  heard = record {
    bytes = [];
    text = [];
    read = Consumes-nil _;
    count = refl;
    wrote = Appends-nil _;
    holds = start_none;
  };
}

pub returns-in-Err : goal.returns-in-Err
returns-in-Err g c =
    let i = c.chunks.invariant in
    let left = take c.chunks.held c.chunks.buffer in
    run_unread unpacking (FromStart left) (start_settles left) (start_begins left) _ _ _ _ _ c.chunks.taken _ _
    (has_broken _ _ c.in-Err.ensures.failed) i.within i.heard c.in-Err.ensures.bytes

pub returns-in-Ok-eq0 : goal.returns-in-Ok-eq0
returns-in-Ok-eq0 g c =
    let i = c.chunks.invariant in
    let h = i.heard in
    let held = c.chunks.held in
    let left = take held c.chunks.buffer in
    let more = c.min-room.result + 1 in
    let behind = length-drop held c.chunks.buffer in
    let room = length-take (held + more - held) (drop held c.chunks.buffer) in
    let size = length-take held c.chunks.buffer in
    run_ended unpacking (FromStart left) (start_settles left) (start_begins left) _ _ _ _ _ _ c.chunks.taken
    c.read.new.buf c.in-Ok-eq0.field-0 _ _ c.end_of_unpacking.result
    (still_fine _ _ i.reader c.in-Ok-eq0.ensures.failed) i.within h c.in-Ok-eq0.field-0-test
    c.in-Ok-eq0.ensures.bytes (omega (arith, room, behind, i.short, c.min-room.ensures)) [] (Appends-nil _)
    (unpacking_ends left h.bytes h.text _ _ _ _ (c.chunks.taken - held) _ i.writer h.holds h.wrote
    (omega (arith, h.count, size, i.short, start_at left h.bytes h.text h.holds))
    (ending_left c.chunks.buffer c.read.new.buf _ held (c.chunks.taken - held) _ (omega (arith, i.short))
    c.end_of_unpacking.ensures))

pub returns-in_err-at-in-Ok : goal.returns-in_err-at-in-Ok
returns-in_err-at-in-Ok g c =
    let i = c.chunks.invariant in
    let h = i.heard in
    let held = c.chunks.held in
    let left = take held c.chunks.buffer in
    let p = err_from_is_err_and c.from_residual.result c.from_residual.ensures.1 in
    let bound = c.in-Ok.ensures.bound in
    let behind = length-drop held c.chunks.buffer in
    let room = length-take (held + (c.min-room.result + 1) - held) (drop held c.chunks.buffer) in
    let fault = c.in_err-at-in-Ok.field-0.0 in
    let within = c.min-within.result in
    let stop = chunk_stop c.chunks.buffer c.read.new.buf _ held within (held + within) (omega (arith, i.short))
    (omega (arith, c.min-within.ensures, bound.0)) refl _ _ _ fault c.in_err-at-in-Ok.ensures in
    rw (p.1, p.2)
    (run_stopped unpacking (FromStart left) (start_settles left) (start_begins left) _ _ _ _ _ _ c.chunks.taken
    c.read.new.buf within c.in-Ok.count _ _ fault (still_fine _ _ i.reader c.in-Ok.ensures.failed) i.within
    (omega (arith, c.min-within.ensures)) (omega (arith, bound.0, room, behind, c.min-room.ensures, i.within))
    (omega (arith, c.in-Ok.count-test)) (omega (arith, bound.0, room, behind, c.min-room.ensures)) h
    c.in-Ok.ensures.bytes.0 bound.0 (take stop.written.1 stop.written.0) stop.written.3
    (start_stop left h.bytes h.text (take within c.read.new.buf) h.holds _ _ _ _ fault h.wrote stop))

pub returns-then-within-count : goal.returns-then-within-count
returns-then-within-count g c =
    let i = c.chunks.invariant in
    let h = i.heard in
    let held = c.chunks.held in
    let left = take held c.chunks.buffer in
    let bound = c.in-Ok.ensures.bound in
    let behind = length-drop held c.chunks.buffer in
    let room = length-take (held + (c.min-room.result + 1) - held) (drop held c.chunks.buffer) in
    let done = c.in_ok-at-in-Ok.ensures in
    let within = c.min-within.result in
    let past = c.if-within-count.true in
    let split = chunk_split c.chunks.buffer c.read.new.buf _ held within (held + within) (omega (arith, i.short))
    (omega (arith, past, bound.0)) refl _ done.0 c.in_ok-at-in-Ok.at done.1 in
    let told = start_more left h.bytes h.text (take within c.read.new.buf) h.holds _ done.0 c.in_ok-at-in-Ok.at split in
    run_long unpacking (FromStart left) (start_settles left) (start_begins left) _ _ _ _ _ _ c.chunks.taken
    c.read.new.buf within c.in-Ok.count _ _ _ (still_fine _ _ i.reader c.in-Ok.ensures.failed)
    (omega (arith, i.within, c.min-within.ensures, past)) past
    (omega (arith, bound.0, room, behind, c.min-room.ensures, i.within))
    (omega (arith, bound.0, room, behind, c.min-room.ensures)) h c.in-Ok.ensures.bytes.0 bound.0 done.0 done.3
    (unpacking_ends _ (h.bytes ++ take within c.read.new.buf) (h.text ++ done.0) true _ _ _ told.0 _ done.4 told
    (Appends-trans _ _ _ h.text done.0 h.wrote done.3) (start_at _ _ _ told) refl)

pub chunks-preserved : goal.chunks-preserved
chunks-preserved g c =
    let i = c.chunks.invariant in
    let h = i.heard in
    let held = c.chunks.held in
    let left = take held c.chunks.buffer in
    let bound = c.in-Ok.ensures.bound in
    let done = c.in_ok-at-in-Ok.ensures in
    let count = c.in-Ok.count in
    let within = c.min-within.result in
    let at = c.in_ok-at-in-Ok.at in
    let next = take (held + within - at) c.copy_within.new.self in
    let same : within ≡ count = omega (arith, c.min-within.ensures, c.if-within-count.false) in
    let size = chunk_size c.chunks.buffer c.read.new.buf
    (drop (held + (c.min-room.result + 1) - held) (drop held c.chunks.buffer)) held within (held + within)
    (omega (arith, i.short)) (omega (arith, same, bound.0)) refl in
    let split = chunk_left c.chunks.buffer c.read.new.buf _ held within (held + within) (omega (arith, i.short))
    (omega (arith, same, bound.0)) refl c.copy_within.new.self done.0 at c.copy_within.ensures.after done.1 in
    let told = start_more left h.bytes h.text (take within c.read.new.buf) h.holds next done.0 at split in
    record {
      reader = still_fine _ _ i.reader c.in-Ok.ensures.failed;
      writer = done.4;
      within = omega (arith, i.within, c.min-within.ensures);
      short = omega (arith, done.2, size);
      heard = heard_more (FromStart left) (FromStart next) _ _ _ _ _ _ c.chunks.taken within count c.read.new.buf
          done.0 same h c.in-Ok.ensures.bytes.0 bound.0 done.3
          (subst (λ (k : ℕ). FromStart next (h.bytes ++ take k c.read.new.buf) (h.text ++ done.0)) same told);
    }
