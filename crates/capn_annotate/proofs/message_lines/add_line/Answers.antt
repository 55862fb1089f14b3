use Rattle.std.proofs.Common.{◌∙◌}
use Rattle.capn_words.specs.Watched.{has_failed, inner_of}
use Rattle.capn_serve.specs.Outgoing.{outgoing}
use Rattle.capn_annotate.specs.LineTexts.{line_text}
use Rattle.capn_annotate.proofs.Added.{by_equal_bytes, by_memory}
use Rattle.capn_annotate.proofs.message_lines.add_line.Goals as goal

pub returns-in_err-bytes : goal.returns-in_err-bytes
returns-in_err-bytes g c =
    by_memory (outgoing (g.W.Write.contents (inner_of c.args.writer.now)) c.args.text.now.items)
    (line_text (g.S.Space.message c.args.space.now) c.args.words.now c.args.start c.args.levels c.args.line.now)
    (has_failed c.args.writer.now) c.requires.fine c.from_residual.result c.from_residual.ensures.1

pub returns : goal.returns
returns g c =
    by_equal_bytes (outgoing (g.W.Write.contents (inner_of c.args.writer.now)) c.args.text.now.items)
    (outgoing (g.W.Write.contents (inner_of c.add_bytes.new.writer)) c.add_bytes.new.text.items)
    c.deref.result.now
    (line_text (g.S.Space.message c.args.space.now) c.args.words.now c.args.start c.args.levels c.args.line.now)
    (c.deref.ensures.value ∙ c.in_ok-bytes.ensures) (has_failed c.add_bytes.new.writer) c.add_bytes.result
    c.add_bytes.ensures
