use Rattle.std.proofs.Common.{◌∙◌}
use Rattle.capn_words.specs.Watched.{has_failed, inner_of}
use Rattle.capn_serve.specs.Outgoing.{outgoing}
use Rattle.capn_annotate.specs.Summary.{summary_text}
use Rattle.capn_annotate.proofs.Added.{by_equal_bytes, by_memory}
use Rattle.capn_annotate.proofs.annotation.add_summary.Goals as goal

pub returns-in_err-line : goal.returns-in_err-line
returns-in_err-line g c =
    by_memory (outgoing (g.W.Write.contents (inner_of c.args.writer.now)) c.args.text.now.items)
    (summary_text c.args.summary)
    (has_failed c.args.writer.now) c.requires.fine c.from_residual.result c.from_residual.ensures.1

pub returns : goal.returns
returns g c =
    by_equal_bytes (outgoing (g.W.Write.contents (inner_of c.args.writer.now)) c.args.text.now.items)
    (outgoing (g.W.Write.contents (inner_of c.add_bytes.new.writer)) c.add_bytes.new.text.items)
    c.as_bytes.result.now (summary_text c.args.summary)
    (c.as_bytes.ensures.value ∙ c.in_ok-line.ensures) (has_failed c.add_bytes.new.writer) c.add_bytes.result
    c.add_bytes.ensures
