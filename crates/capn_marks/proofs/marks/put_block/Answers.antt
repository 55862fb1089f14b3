use Rattle.std.proofs.Common.{rules}
use Rattle.std.specs.Fmt.{decimal}
use Rattle.std.proofs.lemmas.Fmt.{length-decimal-le}
use Rattle.std.proofs.lemmas.Result.{on_ok_weaker, IfErr-weaker}
use Rattle.capn_show.specs.Outgoing.{outgoing}
use Rattle.capn_show.proofs.shared.Appended.{otherwise, otherwise-broken}
use Rattle.capn_marks.proofs.NameBlocks.{before-name}
use Rattle.capn_marks.proofs.marks.put_block.Goals as goal

pub write_digits-start-requires : goal.write_digits-start-requires
write_digits-start-requires g c =
    let size = c.name_block-block.ensures.size in
    search (rules, length-decimal-le 20)

pub returns-clause-shown : goal.returns-clause-shown
returns-clause-shown g c =
    on_ok_weaker c.put.result (otherwise _ _ _ _ (before-name (decimal c.args.byte) c.name_block-block.result
    c.write_digits-start.new.buf c.args.name.now c.write_digits-start.result c.write_digits-start.ensures.start
    c.write_digits-start.ensures.written c.name_block-block.ensures.tab c.name_block-block.ensures.name))
    c.put.ensures.shown

pub returns-clause-cut : goal.returns-clause-cut
returns-clause-cut g c =
    IfErr-weaker c.put.result _ _
    (λ e. otherwise-broken (outgoing g.W.Write.contents c.args.writer.now c.args.text.now.items)
    (outgoing g.W.Write.contents c.put.new.writer c.put.new.text.items) e _ _
    (before-name (decimal c.args.byte) c.name_block-block.result c.write_digits-start.new.buf c.args.name.now
    c.write_digits-start.result c.write_digits-start.ensures.start c.write_digits-start.ensures.written
    c.name_block-block.ensures.tab c.name_block-block.ensures.name)) c.put.ensures.cut
