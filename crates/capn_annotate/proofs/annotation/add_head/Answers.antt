use Rattle.capn_words.specs.Watched.{has_failed, inner_of}
use Rattle.capn_serve.specs.Outgoing.{outgoing}
use Rattle.capn_annotate.proofs.Added.{other_text}
use Rattle.capn_annotate.proofs.Served.{with_table}
use Rattle.capn_annotate.proofs.annotation.add_head.Goals as goal

pub returns : goal.returns
returns g c =
    let m = g.S.Space.message c.args.message.now in
    other_text (outgoing (g.W.Write.contents (inner_of c.args.writer.now)) c.args.text.now.items)
    (outgoing (g.W.Write.contents (inner_of c.add_table.new.writer)) c.add_table.new.text.items) _ _
    (has_failed c.add_table.new.writer) c.add_table.result
    (with_table m c.args.frame.now c.args.offset c.args.table c.if-table-eq0.false) c.add_table.ensures
