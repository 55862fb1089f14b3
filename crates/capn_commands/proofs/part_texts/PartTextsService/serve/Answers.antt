use Rattle.std.proofs.Common.{refl}
use Rattle.capn_show.specs.Outgoing.{outgoing}
use Rattle.capn_commands.specs.PartTexts.{part_end, part_of, refuses, serves}
use Rattle.capn_commands.proofs.PartServed.{does_part}
use Rattle.capn_commands.proofs.part_texts.PartTextsService.serve.Goals as goal

pub returns : goal.returns
returns g c =
    let m = g.S.Space.message c.args.message.now in
    let s = c.args.self.now in
    does_part serves refuses m s.limits (part_of s c.args.at m) (part_end s c.args.at m) s c.args.at c.args._frame.now
    (λ v is. ((v, is, refl), refl)) (λ r stop is why. (stop, is, why))
    (outgoing g.W.Write.contents c.args.writer.now c.args.text.now.items)
    (outgoing g.W.Write.contents c.add_text.new.writer c.add_text.new.text.items) c.add_text.result c.requires.fine
    c.add_text.ensures
