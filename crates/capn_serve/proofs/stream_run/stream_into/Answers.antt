use Rattle.capn_serve.specs.Fold.{fold_until}
use Rattle.capn_serve.proofs.StreamIntake.{came_stream, runs_stream, stream_done, stream_new}
use Rattle.capn_serve.proofs.stream_run.stream_into.Goals as goal

pub serve_pieces-requires-clause-new : goal.serve_pieces-requires-clause-new
serve_pieces-requires-clause-new g c =
    let f = fold_until g.S.Service.serves g.S.Service.refuses g.S.Service.done c.args.most in (
      stream_new f c.args.run.now c.args.framer.now _ c.requires.fresh c.requires.new,
      stream_done f c.args.run.now c.args.framer.now _,
    )

pub returns-clause-runs : goal.returns-clause-runs
returns-clause-runs g c =
    runs_stream (fold_until g.S.Service.serves g.S.Service.refuses g.S.Service.done c.args.most) c.args.run.now
    c.args.limit c.serve_pieces.new.intake c.serve_pieces.new.run _ _ _ _ _ _ c.serve_pieces.result
    c.serve_pieces.ensures

pub returns-clause-came : goal.returns-clause-came
returns-clause-came g c =
    came_stream (fold_until g.S.Service.serves g.S.Service.refuses g.S.Service.done c.args.most) c.args.run.now
    c.args.limit c.serve_pieces.new.intake c.serve_pieces.new.run _ _ _ _ _ _ c.serve_pieces.result
    c.serve_pieces.ensures
