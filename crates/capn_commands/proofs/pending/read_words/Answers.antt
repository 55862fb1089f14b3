use Rattle.std.proofs.Common.{◌++◌, ℕ, List, [], take, drop, length-append, length-take}
use Rattle.std.proofs.Common.{length-take-le, arith, inl, refl, sym, subst}
use Rattle.std.proofs.lemmas.List.{take-append-le}
use Rattle.std.proofs.lemmas.Result.{err_from_is_err_and}
use Rattle.std.proofs.KnownBytes.{Consumes-kept}
use Rattle.capn_commands.specs.inner.Pending.{Holds, IsPending}
use Rattle.capn_commands.specs.WholeInput.{Gives}
use Rattle.capn_commands.specs.declared.plan.Whole.TheVariants as wholes
use Rattle.capn_serve.proofs.shared.Given.{given_all, given_more, given_none}
use Rattle.capn_commands.proofs.Given.{given_broken, given_long, given_memory, takes_so}
use Rattle.capn_commands.proofs.ReadMore.{has_broken, still_fine}
use Rattle.capn_commands.proofs.Unpending.{begins_pending}
use Rattle.capn_commands.proofs.pending.read_words.Goals as goal

pub pieces-init : goal.pieces-init
pieces-init g c =
    let none = c.new-words.ensures.items in
    record {
      seen = [];
      given = given_none _ _ c.requires;
      size = refl;
      pending = subst (λ (words : List ℕ). Holds c.args.most [] words [] 0 c.args.most) (sym none)
          (begins_pending c.args.most);
      short = omega arith;
    }

pub returns-in-Err : goal.returns-in-Err
returns-in-Err g c =
    let i = c.pieces.invariant in
    inl
    (given_broken _ _ _ _ _ i.seen i.given (Consumes-kept _ _ _ i.seen i.given.read c.in-Err.ensures.bytes)
    (has_broken _ _ c.in-Err.ensures.failed))

pub returns-in-Ok-eq0 : goal.returns-in-Ok-eq0
returns-in-Ok-eq0 g c =
    let i = c.pieces.invariant in
    let room = length-take c.min-room.result c.pieces.piece in
    takes_so (Gives (wholes.Unpacked c.args.most)) _ _ _ c.end_pending.result i.seen
    (given_all _ _ _ _ _ i.seen c.read.new.buf c.in-Ok-eq0.field-0 i.given c.in-Ok-eq0.field-0-test
    c.in-Ok-eq0.ensures.bytes (omega (arith, room)) (omega (arith, i.size))
    (still_fine _ _ i.given.fine c.in-Ok-eq0.ensures.failed)) (c.end_pending.ensures c.args.most i.seen i.pending)

pub returns-in_err-take_chunk-in-Ok : goal.returns-in_err-take_chunk-in-Ok
returns-in_err-take_chunk-in-Ok g c =
    let i = c.pieces.invariant in
    let bound = c.in-Ok.ensures.bound in
    let room = length-take c.min-room.result c.pieces.piece in
    let p = err_from_is_err_and c.from_residual.result c.from_residual.ensures.1 in
    rw (p.1, p.2)
    (inl
    (given_memory _ _ _ _
    (given_more _ _ _ _ _ i.seen c.read.new.buf c.in-Ok.count i.given c.in-Ok.ensures.bytes.0 bound.0
    (omega (arith, room, bound.0, i.size)) (still_fine _ _ i.given.fine c.in-Ok.ensures.failed))
    (omega (
      arith,
      c.in-Ok.count-test,
      length-append i.seen (take c.in-Ok.count c.read.new.buf),
      length-take-le c.in-Ok.count c.read.new.buf bound.0,
    ))))

pub slice_bounds-piece-end-in-Ok : goal.slice_bounds-piece-end-in-Ok
slice_bounds-piece-end-in-Ok g c =
    let bound = c.in-Ok.ensures.bound in
    let size = length-append c.read.new.buf (drop c.min-room.result c.pieces.piece) in
    omega (arith, bound.0, size)

pub pieces-smaller : goal.pieces-smaller
pieces-smaller g c =
    let bound = c.in-Ok.ensures.bound in
    let room = length-take c.min-room.result c.pieces.piece in
    omega (arith, bound.0, room, c.in-Ok.count-test)

pub pieces-preserved : goal.pieces-preserved
pieces-preserved g c =
    let i = c.pieces.invariant in
    let bound = c.in-Ok.ensures.bound in
    let tail = drop c.min-room.result c.pieces.piece in
    let room = length-take c.min-room.result c.pieces.piece in
    let piece = take-append-le c.in-Ok.count c.read.new.buf tail bound.0 in
    let new = c.take_chunk.new.pending in
    record {
      seen = i.seen ++ take c.in-Ok.count c.read.new.buf;
      given = given_more _ _ _ _ _ i.seen c.read.new.buf c.in-Ok.count i.given c.in-Ok.ensures.bytes.0 bound.0
          (omega (arith, room, bound.0, i.size)) (still_fine _ _ i.given.fine c.in-Ok.ensures.failed);
      size = omega (
        arith,
        i.size,
        length-append i.seen (take c.in-Ok.count c.read.new.buf),
        length-take-le c.in-Ok.count c.read.new.buf bound.0,
      );
      pending = subst (λ (xs : List ℕ). IsPending c.args.most (i.seen ++ xs) c.take_chunk.new.words.items
          (take new.len new.text) new.at new.left new.is_long) piece
          (c.in_ok-take_chunk-in-Ok.ensures.pending c.args.most i.seen i.pending);
      short = c.in_ok-take_chunk-in-Ok.ensures.held;
    }

pub returns : goal.returns
returns g c =
    let i = c.pieces.invariant in
    inl (given_long _ _ _ i.seen i.given (omega (arith, i.size)))
