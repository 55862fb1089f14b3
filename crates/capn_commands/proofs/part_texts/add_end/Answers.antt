use Rattle.std.proofs.Common.{refl}
use Rattle.std.proofs.lemmas.Result.{err_from_is_err_and}
use Rattle.capn_show.specs.Outgoing.{outgoing}
use Rattle.capn_show.specs.declared.fault.Broken.TheVariants as broken
use Rattle.capn_show.proofs.shared.Appended.{refused}
use Rattle.capn_commands.proofs.PartServed.{end_added}
use Rattle.capn_commands.proofs.part_texts.add_end.Goals as goal

pub returns : goal.returns
returns g c =
    end_added c.args.end.now (outgoing g.W.Write.contents c.args.writer.now c.args.text.now.items)
    (outgoing g.W.Write.contents c.args.writer.now c.extend_from_slice.new.self.items)
    (outgoing g.W.Write.contents c.flush_long.new.writer c.flush_long.new.text.items) c.flush_long.result refl refl
    c.in_ok-extend_from_slice.ensures.items c.requires.fine c.flush_long.ensures

pub returns-in_err-extend_from_slice : goal.returns-in_err-extend_from_slice
returns-in_err-extend_from_slice g c =
    let p = err_from_is_err_and c.from_residual.result c.from_residual.ensures.1 in
    rw (p.1, p.2)
    (refused (outgoing g.W.Write.contents c.args.writer.now c.args.text.now.items)
    (outgoing g.W.Write.contents c.args.writer.now c.extend_from_slice.new.self.items) c.args.end.now broken.Memory
    refl refl refl c.in_err-extend_from_slice.ensures.items)
