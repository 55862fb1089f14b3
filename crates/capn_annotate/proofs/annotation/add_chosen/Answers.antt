use Rattle.capn_words.specs.Watched.{has_failed, inner_of}
use Rattle.capn_serve.specs.Outgoing.{outgoing}
use Rattle.capn_annotate.proofs.Added.{other_text}
use Rattle.capn_annotate.proofs.Served.{summary_alone, with_lines}
use Rattle.capn_annotate.proofs.annotation.add_chosen.Goals as goal

pub returns-then-order : goal.returns-then-order
returns-then-order g c =
    let m = g.S.Space.message c.args.message.now in
    other_text (outgoing (g.W.Write.contents (inner_of c.args.writer.now)) c.args.text.now.items)
    (outgoing (g.W.Write.contents (inner_of c.add_summary.new.writer)) c.add_summary.new.text.items) _ _
    (has_failed c.add_summary.new.writer) c.add_summary.result
    (summary_alone c.args.order.now c.args.frame.now m c.args.words.now c.args.summary c.if-order.true)
    c.add_summary.ensures

pub returns : goal.returns
returns g c =
    let m = g.S.Space.message c.args.message.now in
    let table = c.table_words-table.ensures in
    let depth = c.depth-levels.ensures.value in
    other_text (outgoing (g.W.Write.contents (inner_of c.args.writer.now)) c.args.text.now.items)
    (outgoing (g.W.Write.contents (inner_of c.add_map.new.writer)) c.add_map.new.text.items) _ _
    (has_failed c.add_map.new.writer) c.add_map.result
    (with_lines c.args.order.now c.args.frame.now m c.args.words.now c.args.summary c.table_words-table.result
    c.depth-levels.result table depth c.if-order.false)
    c.add_map.ensures
