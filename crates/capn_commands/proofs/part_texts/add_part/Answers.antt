use Rattle.std.proofs.Common.{List, ℕ, subst}
use Rattle.capn_show.specs.Outgoing.{outgoing}
use Rattle.capn_show.specs.Style.{end_of, styled}
use Rattle.capn_commands.specs.inner.AddedParts.{AddsEnd}
use Rattle.capn_commands.proofs.PartServed.{part_fault, part_line}
use Rattle.capn_commands.proofs.part_texts.add_part.Goals as goal

pub returns-in-Ok : goal.returns-in-Ok
returns-in-Ok g c =
    let q = outgoing g.W.Write.contents c.show_part.new.writer c.show_part.new.text.items in
    let r = outgoing g.W.Write.contents c.add_end.new.writer c.add_end.new.text.items in
    part_line (g.S.Space.message c.args.message.now) c.args.limits (styled c.args.style c.args.path.now)
    (end_of c.args.style) (outgoing g.W.Write.contents c.args.writer.now c.args.text.now.items) q r c.add_end.result
    c.in-Ok.ensures.shown (subst (λ (l : List ℕ). AddsEnd l q r c.add_end.result) c.end.ensures c.add_end.ensures)

pub returns-in-Err : goal.returns-in-Err
returns-in-Err g c =
    part_fault (g.S.Space.message c.args.message.now) c.args.limits (styled c.args.style c.args.path.now)
    (end_of c.args.style) c.in-Err.fault (outgoing g.W.Write.contents c.args.writer.now c.args.text.now.items)
    (outgoing g.W.Write.contents c.show_part.new.writer c.show_part.new.text.items) c.fault_of.result
    c.fault_of.ensures c.in-Err.ensures.refused
