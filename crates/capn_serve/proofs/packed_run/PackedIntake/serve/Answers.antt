use Rattle.std.proofs.Common.{arith}
use Rattle.capn_serve.specs.declared.fault.RunFault.{RunFault}
use Rattle.capn_serve.specs.Fold.{fold_until}
use Rattle.capn_serve.specs.PackedChunkRun.{fresh, pending}
use Rattle.capn_serve.specs.inner.Holding.{HoldsPacked}
use Rattle.capn_serve.proofs.Holding.{packed_holds_io, sent_fault}
use Rattle.capn_serve.proofs.PackedIntake.{feeds_packed}
use Rattle.capn_serve.proofs.PackedMore.{packed_chunk, packed_room}
use Rattle.capn_serve.proofs.packed_run.PackedIntake.serve.Goals as goal

pub serve_slices-served-requires-clause-ready : goal.serve_slices-served-requires-clause-ready
serve_slices-served-requires-clause-ready g c =
    let (first, x, bytes, d, (room, told, listening), small) = c.requires.ready.some in
    let packed = c.args.self.now in
    record {
      can = record {
        small = c.requires.ready.small;
        fine = c.requires.ready.fine;
        room = packed_room g.S.Service.serves g.S.Service.refuses g.S.Service.done c.args.most x c.args.run.now
            (fresh first.left) (pending packed.unpacker packed.framer packed.left) bytes _ _ told
            (record { offset = omega (arith, room.offset); index = room.index });
      };
      going = c.requires.ready.going;
      listening = listening;
    }

pub serve_slices-served-requires-clause-unpacking : goal.serve_slices-served-requires-clause-unpacking
serve_slices-served-requires-clause-unpacking g c =
    let (first, x, bytes, d, (room, told, listening), small) = c.requires.ready.some in
    record { good = told.good; group = told.split.open_rest; offset = omega (arith, told.offset) }

pub returns : goal.returns
returns g c = λ first x bytes d taken.
    let f = fold_until g.S.Service.serves g.S.Service.refuses g.S.Service.done c.args.most in
    let run = c.args.run.now in
    let last = c.serve_slices-served.new.run in
    let before = pending c.args.self.now.unpacker c.args.self.now.framer c.args.self.now.left in
    let after = c.serve_slices-served.new.packed in
    feeds_packed f x first.left (λ p. p.unpacker) (λ p. p.framer) (λ p. p.left) run last c.args.self.now after bytes
    c.args.piece.now d _ _ _ c.send_rest.result taken
    (packed_chunk f run last before after.unpacker after.framer after.left c.args.piece.now _ _ _
    c.serve_slices-served.new.text.items c.clear.new.self.items c.deref.result.now _ _ c.serve_slices-served.result
    c.send_rest.result c.clear.ensures.items c.deref.ensures.value c.serve_slices-served.ensures.served
    c.send_rest.ensures)
    (sent_fault (λ (e : RunFault). HoldsPacked f run before c.args.piece.now e after.framer.rest last) _ _ _ _ _
    c.serve_slices-served.result c.send_rest.result
    (packed_holds_io f run before c.args.piece.now after.framer.rest last) c.send_rest.ensures
    c.serve_slices-served.ensures.came)
