use Rattle.std.proofs.Common.{◌++◌, ℕ, ap}
use Rattle.capn_words.specs.Watched.{has_failed, inner_of}
use Rattle.capn_serve.specs.Outgoing.{outgoing}
use Rattle.capn_annotate.specs.Annotation.{body_text, first_byte, head_text}
use Rattle.capn_annotate.proofs.Added.{before, both, other_text, passed}
use Rattle.capn_annotate.proofs.annotation.add_map.Goals as goal

pub returns-in_err-add_head : goal.returns-in_err-add_head
returns-in_err-add_head g c =
    let m = g.S.Space.message c.args.message.now in
    let old = outgoing (g.W.Write.contents (inner_of c.args.writer.now)) c.args.text.now.items in
    let one = outgoing (g.W.Write.contents (inner_of c.add_head.new.writer)) c.add_head.new.text.items in
    let head = head_text m c.args.frame.now c.args.summary.at.offset c.args.table in
    let start = first_byte c.args.summary.at.offset c.args.table in
    let body = body_text m c.args.words.now start c.args.levels c.args.summary in
    let failed = has_failed c.add_head.new.writer in
    passed old one (head ++ body) failed c.from_residual.result c.in_err-add_head.field-0.0 c.from_residual.ensures.1
    (before old one head body failed c.in_err-add_head.field-0.0 c.in_err-add_head.ensures)

pub returns : goal.returns
returns g c =
    let m = g.S.Space.message c.args.message.now in
    let old = outgoing (g.W.Write.contents (inner_of c.args.writer.now)) c.args.text.now.items in
    let one = outgoing (g.W.Write.contents (inner_of c.add_head.new.writer)) c.add_head.new.text.items in
    let new = outgoing (g.W.Write.contents (inner_of c.add_body.new.writer)) c.add_body.new.text.items in
    let head = head_text m c.args.frame.now c.args.summary.at.offset c.args.table in
    let start = first_byte c.args.summary.at.offset c.args.table in
    let body = body_text m c.args.words.now start c.args.levels c.args.summary in
    let failed = has_failed c.add_body.new.writer in
    both old one new head body (has_failed c.add_head.new.writer) failed c.add_body.result c.in_ok-add_head.ensures
    (other_text one new _ body failed c.add_body.result
    (ap (λ (byte : ℕ). body_text m c.args.words.now byte c.args.levels c.args.summary) c.first_byte-start.ensures.is)
    c.add_body.ensures)
