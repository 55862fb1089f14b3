use Rattle.std.proofs.Common.{◌+◌, ◌*◌, ◌++◌, ℕ, ap}
use Rattle.capn_words.specs.Message.{total}
use Rattle.capn_words.specs.Watched.{has_failed, inner_of}
use Rattle.capn_serve.specs.Outgoing.{outgoing}
use Rattle.capn_annotate.specs.MessageLines.{message_lines_text}
use Rattle.capn_annotate.specs.Summary.{end_text}
use Rattle.capn_annotate.proofs.Added.{before, both, other_text, passed}
use Rattle.capn_annotate.proofs.annotation.add_body.Goals as goal

pub returns-in_err-add_lines : goal.returns-in_err-add_lines
returns-in_err-add_lines g c =
    let m = g.S.Space.message c.args.message.now in
    let old = outgoing (g.W.Write.contents (inner_of c.args.writer.now)) c.args.text.now.items in
    let one = outgoing (g.W.Write.contents (inner_of c.add_lines.new.writer)) c.add_lines.new.text.items in
    let lines = message_lines_text m c.args.words.now c.args.start c.args.levels in
    let end = end_text (c.args.start + 8 * total m) c.args.summary in
    let failed = has_failed c.add_lines.new.writer in
    passed old one (lines ++ end) failed c.from_residual.result c.in_err-add_lines.field-0.0 c.from_residual.ensures.1
    (before old one lines end failed c.in_err-add_lines.field-0.0 c.in_err-add_lines.ensures)

pub returns : goal.returns
returns g c =
    let m = g.S.Space.message c.args.message.now in
    let old = outgoing (g.W.Write.contents (inner_of c.args.writer.now)) c.args.text.now.items in
    let one = outgoing (g.W.Write.contents (inner_of c.add_lines.new.writer)) c.add_lines.new.text.items in
    let new = outgoing (g.W.Write.contents (inner_of c.add_end.new.writer)) c.add_end.new.text.items in
    let lines = message_lines_text m c.args.words.now c.args.start c.args.levels in
    let end = end_text (c.args.start + 8 * total m) c.args.summary in
    let failed = has_failed c.add_end.new.writer in
    both old one new lines end (has_failed c.add_lines.new.writer) failed c.add_end.result c.in_ok-add_lines.ensures
    (other_text one new _ end failed c.add_end.result
    (ap (λ (byte : ℕ). end_text byte c.args.summary) c.byte_after.ensures) c.add_end.ensures)
