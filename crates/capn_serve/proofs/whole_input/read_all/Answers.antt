use Rattle.std.proofs.Common.{◌≡◌, ◌++◌, [], length, take, drop, length-append, length-take, length-take-le}
use Rattle.std.specs.Prelude.{min}
use Rattle.std.proofs.Common.{◌-◌, arith, inl, refl, ap, sym, ◌∙◌, take_all}
use Rattle.std.proofs.KnownBytes.{Consumes-kept}
use Rattle.std.proofs.lemmas.Result.{err_from_is_err_and}
use Rattle.capn_serve.proofs.shared.Given.{given_all, given_more, given_none, size_kept}
use Rattle.capn_serve.proofs.WholeRead.{first_more, given_broken, given_long, given_memory}
use Rattle.capn_serve.proofs.InputRead.{has_broken, still_fine}
use Rattle.capn_serve.proofs.whole_input.read_all.Goals as goal

pub chunks-init : goal.chunks-init
chunks-init g c =
    let none = c.new-bytes.ensures.items in
    record {
      seen = [];
      given = given_none _ _ c.requires;
      size = refl;
      first = take_all c.args.most [] (omega arith) ∙ sym none;
      room = omega (arith, ap length none);
    }

pub returns-in-Err : goal.returns-in-Err
returns-in-Err g c =
    let i = c.chunks.invariant in
    inl
    (given_broken _ _ _ _ _ i.seen i.given (Consumes-kept _ _ _ i.seen i.given.read c.in-Err.ensures.bytes)
    (has_broken _ _ c.in-Err.ensures.failed))

pub returns-in-Ok-eq0 : goal.returns-in-Ok-eq0
returns-in-Ok-eq0 g c =
    let i = c.chunks.invariant in
    let room = length-take c.min-room.result c.chunks.chunk in (
      i.seen,
      given_all _ _ _ _ _ i.seen c.read.new.buf c.in-Ok-eq0.field-0 i.given c.in-Ok-eq0.field-0-test
          c.in-Ok-eq0.ensures.bytes (omega (arith, room)) (omega (arith, i.size))
          (still_fine _ _ i.given.fine c.in-Ok-eq0.ensures.failed),
      (i.first, i.size),
    )

pub returns-in_err-extend_from_slice-in-Ok : goal.returns-in_err-extend_from_slice-in-Ok
returns-in_err-extend_from_slice-in-Ok g c =
    let i = c.chunks.invariant in
    let p = err_from_is_err_and c.from_residual.result c.from_residual.ensures.1 in
    let bound = c.in-Ok.ensures.bound in
    let room = length-take c.min-room.result c.chunks.chunk in
    rw (p.1, p.2)
    (inl
    (given_memory _ _ _ _
    (given_more _ _ _ _ _ i.seen c.read.new.buf c.in-Ok.count i.given c.in-Ok.ensures.bytes.0 bound.0
    (omega (arith, room, bound.0, i.size)) (still_fine _ _ i.given.fine c.in-Ok.ensures.failed))
    (omega (
      arith,
      c.in-Ok.count-test,
      length-append i.seen (take c.in-Ok.count c.read.new.buf),
      length-take-le c.in-Ok.count c.read.new.buf bound.0,
    ))))

pub slice_bounds-chunk-end-in-Ok : goal.slice_bounds-chunk-end-in-Ok
slice_bounds-chunk-end-in-Ok g c =
    let bound = c.in-Ok.ensures.bound in
    let size = length-append c.read.new.buf (drop c.min-room.result c.chunks.chunk) in
    omega (arith, bound.0, size, c.min-kept.ensures)

pub chunks-smaller : goal.chunks-smaller
chunks-smaller g c =
    let bound = c.in-Ok.ensures.bound in
    let room = length-take c.min-room.result c.chunks.chunk in
    omega (arith, bound.0, room, c.in-Ok.count-test)

pub chunks-preserved : goal.chunks-preserved
chunks-preserved g c =
    let i = c.chunks.invariant in
    let bound = c.in-Ok.ensures.bound in
    let tail = drop c.min-room.result c.chunks.chunk in
    let room = length-take c.min-room.result c.chunks.chunk in
    let items = c.in_ok-extend_from_slice-in-Ok.ensures.items in
    let size = length-append c.read.new.buf tail in
    let least : c.min-kept.result ≡ min c.in-Ok.count (c.args.most - length c.chunks.bytes.items) =
    omega (arith, c.min-kept.ensures, c.len.ensures) in
    let grown = size_kept c.chunks.bytes.items (c.read.new.buf ++ tail) c.extend_from_slice.new.self.items
    c.min-kept.result items (omega (arith, bound.0, size, c.min-kept.ensures)) in
    record {
      seen = i.seen ++ take c.in-Ok.count c.read.new.buf;
      given = given_more _ _ _ _ _ i.seen c.read.new.buf c.in-Ok.count i.given c.in-Ok.ensures.bytes.0 bound.0
          (omega (arith, room, bound.0, i.size)) (still_fine _ _ i.given.fine c.in-Ok.ensures.failed);
      size = omega (
        arith,
        i.size,
        length-append i.seen (take c.in-Ok.count c.read.new.buf),
        length-take-le c.in-Ok.count c.read.new.buf bound.0,
      );
      first = first_more c.args.most i.seen c.read.new.buf tail c.chunks.bytes.items
          c.extend_from_slice.new.self.items c.in-Ok.count c.min-kept.result i.first bound.0 least items;
      room = omega (arith, grown, i.room, c.min-kept.ensures);
    }

pub returns : goal.returns
returns g c =
    let i = c.chunks.invariant in
    inl (given_long _ _ _ i.seen i.given (omega (arith, i.size)))
