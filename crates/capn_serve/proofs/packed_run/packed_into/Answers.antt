use Rattle.std.proofs.Common.{ℕ, IfErr, IfSome, arith, refl, subst, sym}
use Rattle.capn_words.specs.Watched.{inner_of, has_failed}
use Rattle.capn_serve.specs.declared.position.Position.{Position}
use Rattle.capn_serve.specs.Fold.{fold_until}
use Rattle.capn_serve.specs.ChunkRun.{HasRoom}
use Rattle.capn_serve.specs.PackedRun.{RunsPacked}
use Rattle.capn_serve.specs.StreamRun.{taken_of}
use Rattle.capn_serve.specs.inner.Intakes.{CameOfPacked}
use Rattle.capn_serve.proofs.PackedIntake.{came_packed, packed_done, packed_new, runs_packed}
use Rattle.capn_serve.proofs.packed_run.packed_into.Goals as goal

pub serve_pieces-requires-clause-new : goal.serve_pieces-requires-clause-new
serve_pieces-requires-clause-new g c =
    let f = fold_until g.S.Service.serves g.S.Service.refuses g.S.Service.done c.args.most in
    let packed = c.args.packed.now in
    let room : HasRoom c.args.run.now.at packed.left =
    subst (λ (at : Position). HasRoom at packed.left) (sym c.requires.fresh) (record {
      offset = omega (arith, c.requires.left, c.ranges.limit);
      index = omega arith;
    }) in
    let new = packed_new f c.args.run.now packed.left packed.unpacker packed.framer packed.left _ room refl
    c.requires.unpacker c.requires.framer in
    (new, packed_done f c.args.run.now packed.left packed.unpacker packed.framer packed.left _ new)

pub returns-clause-runs : goal.returns-clause-runs
returns-clause-runs g c =
    let f = fold_until g.S.Service.serves g.S.Service.refuses g.S.Service.done c.args.most in
    subst (λ (n : ℕ). RunsPacked f c.args.run.now c.args.most_packed n
    (g.R.Read.remaining (inner_of c.args.reader.now)) (g.R.Read.remaining (inner_of c.serve_pieces.new.reader))
    (g.W.Write.contents (inner_of c.args.writer.now)) (g.W.Write.contents (inner_of c.serve_pieces.new.writer))
    (has_failed c.serve_pieces.new.reader) (has_failed c.serve_pieces.new.writer) c.serve_pieces.result
    c.serve_pieces.new.run) c.requires.left
    (runs_packed f c.args.run.now c.args.packed.now.left (λ p. p.unpacker) (λ p. p.framer) (λ p. p.left)
    c.args.most_packed c.serve_pieces.new.intake c.serve_pieces.new.run _ _ _ _ _ _ c.serve_pieces.result
    c.serve_pieces.ensures)

pub returns-clause-came : goal.returns-clause-came
returns-clause-came g c =
    let f = fold_until g.S.Service.serves g.S.Service.refuses g.S.Service.done c.args.most in
    let last = c.serve_pieces.new.intake in
    subst (λ (n : ℕ). IfSome (g.R.Read.remaining (inner_of c.args.reader.now)) (λ input.
    IfErr c.serve_pieces.result (λ e. CameOfPacked f c.args.run.now n (taken_of c.args.most_packed input) e
    last.framer.rest last.unpacker.rest c.serve_pieces.new.run))) c.requires.left
    (came_packed f c.args.run.now c.args.packed.now.left (λ p. p.unpacker) (λ p. p.framer) (λ p. p.left)
    c.args.most_packed last c.serve_pieces.new.run _ _ _ _ _ _ c.serve_pieces.result c.serve_pieces.ensures)
