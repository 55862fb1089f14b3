use Rattle.capn_serve.specs.Fold.{fold_until}
use Rattle.capn_words.specs.Watched.{inner_of, has_failed}
use Rattle.capn_serve.specs.Outgoing.{outgoing}
use Rattle.capn_serve.specs.PackedChunkRun.{pending}
use Rattle.capn_serve.proofs.PackedMore.{packed_memory, served_slice}
use Rattle.capn_serve.proofs.Holding.{holds_slice, packed_holds_memory}
use Rattle.capn_serve.proofs.packed_run.serve_slice.Goals as goal

pub returns-in-Ok : goal.returns-in-Ok
returns-in-Ok g c =
    let f = fold_until g.S.Service.serves g.S.Service.refuses g.S.Service.done c.args.most in
    let packed = c.args.packed.now in
    record {
      served = served_slice f c.args.run.now packed.unpacker c.feed.new.self packed.framer packed.left c.args.bytes.now
          c.clear.new.self.items c.feed.new.out.items c.clear.ensures.items c.in-Ok.ensures.fed c.serve_part.new.run
          c.serve_part.new.packed.framer c.serve_part.new.packed.left
          (outgoing (g.W.Write.contents (inner_of c.args.writer.now)) c.args.text.now.items)
          (outgoing (g.W.Write.contents (inner_of c.serve_part.new.writer)) c.serve_part.new.text.items)
          (has_failed c.serve_part.new.writer) c.serve_part.result c.serve_part.new.packed.unpacker
          c.serve_part.ensures.unpacker c.serve_part.ensures.served;
      came = holds_slice f c.args.run.now c.serve_part.new.run packed.unpacker c.feed.new.self packed.framer
          packed.left c.args.bytes.now c.clear.new.self.items c.feed.new.out.items c.serve_part.new.packed.framer.rest
          c.clear.ensures.items c.in-Ok.ensures.fed c.serve_part.result c.serve_part.ensures.came;
    }

pub returns-in-Err : goal.returns-in-Err
returns-in-Err g c =
    let f = fold_until g.S.Service.serves g.S.Service.refuses g.S.Service.done c.args.most in
    let before = pending c.args.packed.now.unpacker c.args.packed.now.framer c.args.packed.now.left in
    record {
      served = packed_memory f c.args.run.now before c.args.bytes.now _ _ c.requires.ready.can.fine;
      came = packed_holds_memory f c.args.run.now before c.args.bytes.now _ _;
    }
