use Rattle.capn_serve.specs.Fold.{fold_until}
use Rattle.capn_serve.proofs.PackedIntake.{ends_packed}
use Rattle.capn_serve.proofs.packed_run.PackedIntake.finish.Goals as goal

pub end_of_packed-requires-clause-held : goal.end_of_packed-requires-clause-held
end_of_packed-requires-clause-held g c =
    let (most, d, (first, x, bytes, b, (room, told, listening), small)) = c.requires.taken in told.good

pub end_of_packed-requires-clause-part : goal.end_of_packed-requires-clause-part
end_of_packed-requires-clause-part g c =
    let (most, d, (first, x, bytes, b, (room, told, listening), small)) = c.requires.taken in listening.part

pub returns : goal.returns
returns g c = λ most first x bytes b d taken small.
    let after = c.end_of_packed.new.packed in
    ends_packed (fold_until g.S.Service.serves g.S.Service.refuses g.S.Service.done most) x first.left c.args.run.now
    c.args.self.now.unpacker c.args.self.now.framer c.args.self.now.left after.unpacker after.framer bytes b d
    c.end_of_packed.result taken c.requires.going small c.end_of_packed.ensures.ends c.end_of_packed.ensures.group
    c.end_of_packed.ensures.rest
