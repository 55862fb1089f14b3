use Rattle.std.proofs.Common.{◌∙◌, ◌||◌, sym, subst}
use Rattle.capn_words.specs.Message.{total}
use Rattle.capn_marks.specs.MarkedPart.{marked_at}
use Rattle.capn_marks.specs.declared.marks.Marks.{Marks}
use Rattle.capn_show.specs.Outgoing.{outgoing}
use Rattle.capn_show.specs.Style.{end_of, styled}
use Rattle.capn_commands.specs.MessageMarks.{marked_end, marks_of}
use Rattle.capn_commands.specs.inner.AddedParts.{AddsPart}
use Rattle.capn_commands.proofs.PartServed.{with_marks, without_marks}
use Rattle.capn_commands.proofs.part_texts.add_text.Goals as goal

pub returns-then-has_marks : goal.returns-then-has_marks
returns-then-has_marks g c =
    let m = g.S.Space.message c.args.message.now in
    let s = c.args.texts.now in
    let marks = marks_of s c.args.at m in
    let p = outgoing g.W.Write.contents c.args.writer.now c.args.text.now.items in
    let q = outgoing g.W.Write.contents c.add_marked.new.writer c.add_marked.new.text.items in
    with_marks m s.limits (marked_at m marks s.path.now) (styled s.style s.path.now) (marked_end marks (total m))
    (end_of s.style) p q c.add_marked.result (s.offsets || s.ways) (sym c.has_marks.ensures ∙ c.if-has_marks.true)
    (subst (λ (x : Marks).
    AddsPart m s.limits (marked_at m x s.path.now) (marked_end x (total m)) p q c.add_marked.result)
    c.marks_of-marks.ensures c.add_marked.ensures)

pub returns-else-has_marks : goal.returns-else-has_marks
returns-else-has_marks g c =
    let m = g.S.Space.message c.args.message.now in
    let s = c.args.texts.now in
    let marks = marks_of s c.args.at m in
    without_marks m s.limits (marked_at m marks s.path.now) (styled s.style s.path.now) (marked_end marks (total m))
    (end_of s.style) (outgoing g.W.Write.contents c.args.writer.now c.args.text.now.items)
    (outgoing g.W.Write.contents c.add_part.new.writer c.add_part.new.text.items) c.add_part.result
    (s.offsets || s.ways) (sym c.has_marks.ensures ∙ c.if-has_marks.false) c.add_part.ensures
