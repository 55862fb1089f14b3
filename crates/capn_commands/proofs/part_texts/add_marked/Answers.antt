use Rattle.std.proofs.Common.{ℕ, subst}
use Rattle.capn_words.specs.Message.{total}
use Rattle.capn_marks.specs.MarkedPart.{marked_at}
use Rattle.capn_show.specs.Outgoing.{outgoing}
use Rattle.capn_commands.specs.MessageMarks.{marked_end}
use Rattle.capn_commands.specs.inner.AddedParts.{AddsEnd}
use Rattle.capn_commands.proofs.PartServed.{part_fault, part_line}
use Rattle.capn_commands.proofs.part_texts.add_marked.Goals as goal

pub returns-in-Ok : goal.returns-in-Ok
returns-in-Ok g c =
    let m = g.S.Space.message c.args.message.now in
    let q = outgoing g.W.Write.contents c.show_marked.new.writer c.show_marked.new.text.items in
    let r = outgoing g.W.Write.contents c.add_marked_end.new.writer c.add_marked_end.new.text.items in
    part_line m c.args.limits (marked_at m c.args.marks c.args.path.now) (marked_end c.args.marks (total m))
    (outgoing g.W.Write.contents c.args.writer.now c.args.text.now.items) q r c.add_marked_end.result
    c.in-Ok.ensures.shown
    (subst (λ (n : ℕ). AddsEnd (marked_end c.args.marks n) q r c.add_marked_end.result) c.total_words.ensures
    c.add_marked_end.ensures)

pub returns-in-Err : goal.returns-in-Err
returns-in-Err g c =
    let m = g.S.Space.message c.args.message.now in
    part_fault m c.args.limits (marked_at m c.args.marks c.args.path.now) (marked_end c.args.marks (total m))
    c.in-Err.fault (outgoing g.W.Write.contents c.args.writer.now c.args.text.now.items)
    (outgoing g.W.Write.contents c.show_marked.new.writer c.show_marked.new.text.items) c.fault_of.result
    c.fault_of.ensures c.in-Err.ensures.refused
