use Rattle.capn_serve.specs.Fold.{fold_until}
use Rattle.capn_serve.proofs.StreamIntake.{ends_stream}
use Rattle.capn_serve.proofs.stream_run.FramerIntake.finish.Goals as goal

pub end_of_input-requires : goal.end_of_input-requires
end_of_input-requires g c =
    let (most, d, (first, x, bytes, b, taken, small)) = c.requires.taken in record { part = taken.2.part }

pub returns : goal.returns
returns g c = λ most first x bytes b d taken small.
    ends_stream (fold_until g.S.Service.serves g.S.Service.refuses g.S.Service.done most) x c.args.run.now
    c.args.self.now bytes b d c.end_of_input.result taken c.requires.going c.end_of_input.ensures
