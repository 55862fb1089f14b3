use Rattle.std.proofs.Common.{rules}
use Rattle.std.specs.Fmt.{decimal}
use Rattle.std.proofs.lemmas.Fmt.{length-decimal-le}
use Rattle.std.proofs.lemmas.Result.{on_ok_weaker, IfErr-weaker}
use Rattle.capn_show.specs.Outgoing.{outgoing}
use Rattle.capn_show.proofs.shared.Appended.{otherwise, otherwise-broken}
use Rattle.capn_show.proofs.JsonDigits.{plain-digits}
use Rattle.capn_show.proofs.json_items.put_plain.Goals as goal

pub write_digits-start-requires : goal.write_digits-start-requires
write_digits-start-requires g c = search (rules, length-decimal-le 20)

pub returns-clause-shown : goal.returns-clause-shown
returns-clause-shown g c =
    let w = c.write_digits-start in
    let old = outgoing g.W.Write.contents c.args.writer.now c.args.text.now.items in
    let new = outgoing g.W.Write.contents c.put.new.writer c.put.new.text.items in
    on_ok_weaker c.put.result (otherwise old new _ (decimal c.args.n) (plain-digits w.new.buf c.args.n w.result 20
    w.ensures.written w.ensures.start)) c.put.ensures.shown

pub returns-clause-cut : goal.returns-clause-cut
returns-clause-cut g c =
    let w = c.write_digits-start in
    let old = outgoing g.W.Write.contents c.args.writer.now c.args.text.now.items in
    let new = outgoing g.W.Write.contents c.put.new.writer c.put.new.text.items in
    IfErr-weaker c.put.result _ _ (λ e. otherwise-broken old new e _ (decimal c.args.n)
    (plain-digits w.new.buf c.args.n w.result 20 w.ensures.written w.ensures.start)) c.put.ensures.cut
