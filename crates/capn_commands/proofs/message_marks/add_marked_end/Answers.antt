use Rattle.std.proofs.Common.{ℕ, List, ◌++◌, codes, subst, ap, ◌∙◌}
use Rattle.std.specs.Fmt.{decimal}
use Rattle.capn_show.specs.Outgoing.{outgoing}
use Rattle.capn_commands.specs.MessageMarks as spec
use Rattle.capn_commands.specs.inner.AddedParts.{AddsEnd}
use Rattle.capn_commands.proofs.EndLines.{path_alone, byte_and_path, byte_alone}
use Rattle.capn_commands.proofs.message_marks.add_marked_end.Goals as goal

pub returns-then-not-marks : goal.returns-then-not-marks
returns-then-not-marks g c =
    subst (λ (l : List ℕ). AddsEnd l (outgoing g.W.Write.contents c.args.writer.now c.args.text.now.items)
    (outgoing g.W.Write.contents c.add_end.new.writer c.add_end.new.text.items) c.add_end.result)
    (c.path_end.ensures ∙ path_alone (decimal (spec.byte_after c.args.marks c.args.words)) c.args.marks.offsets
    c.args.marks.ways c.if-not-marks.true) c.add_end.ensures

pub returns-then-marks : goal.returns-then-marks
returns-then-marks g c =
    subst (λ (l : List ℕ). AddsEnd l (outgoing g.W.Write.contents c.args.writer.now c.args.text.now.items)
    (outgoing g.W.Write.contents c.add_end_with_path.new.writer c.add_end_with_path.new.text.items)
    c.add_end_with_path.result)
    (ap (λ (n : ℕ). decimal n ++ codes "\t\tend\n") c.byte_after-byte.ensures
    ∙ byte_and_path (decimal (spec.byte_after c.args.marks c.args.words)) c.args.marks.offsets c.args.marks.ways
    c.if-not-marks.false c.if-marks.true) c.add_end_with_path.ensures

pub returns : goal.returns
returns g c =
    subst (λ (l : List ℕ). AddsEnd l (outgoing g.W.Write.contents c.args.writer.now c.args.text.now.items)
    (outgoing g.W.Write.contents c.add_end_at.new.writer c.add_end_at.new.text.items) c.add_end_at.result)
    (ap (λ (n : ℕ). decimal n ++ codes "\tend\n") c.byte_after-byte.ensures
    ∙ byte_alone (decimal (spec.byte_after c.args.marks c.args.words)) c.args.marks.offsets c.args.marks.ways
    c.if-not-marks.false c.if-marks.false) c.add_end_at.ensures
