use Rattle.std.proofs.Common.{rules, arith, ◌≤◌, length}
use Rattle.std.specs.Fmt.{decimal}
use Rattle.std.proofs.lemmas.Fmt.{length-decimal-le}
use Rattle.std.proofs.lemmas.Result.{on_ok_weaker, IfErr-weaker}
use Rattle.capn_show.specs.Json.{number_text}
use Rattle.capn_show.specs.Outgoing.{outgoing}
use Rattle.capn_show.proofs.shared.Appended.{otherwise, otherwise-broken}
use Rattle.capn_show.proofs.JsonDigits.{quoted-digits}
use Rattle.capn_show.proofs.json_items.put_quoted.Goals as goal

pub write_digits-start-requires : goal.write_digits-start-requires
write_digits-start-requires g c = search (rules, length-decimal-le 21)

pub overflow_sub-start : goal.overflow_sub-start
overflow_sub-start g c =
    let few : length (decimal c.args.n) ≤ 20 = search (rules, length-decimal-le 20) in
    let start = c.write_digits-start.ensures.start in
    omega arith

pub returns-clause-shown : goal.returns-clause-shown
returns-clause-shown g c =
    let old = outgoing g.W.Write.contents c.args.writer.now c.args.text.now.items in
    let new = outgoing g.W.Write.contents c.put.new.writer c.put.new.text.items in
    let few : length (decimal c.args.n) ≤ 20 = search (rules, length-decimal-le 20) in
    let w = c.write_digits-start in
    let start = w.ensures.start in
    on_ok_weaker c.put.result (otherwise old new _ (number_text c.args.n) (quoted-digits w.new.buf c.args.n w.result
    w.ensures.before w.ensures.written start (omega arith))) c.put.ensures.shown

pub returns-clause-cut : goal.returns-clause-cut
returns-clause-cut g c =
    let old = outgoing g.W.Write.contents c.args.writer.now c.args.text.now.items in
    let new = outgoing g.W.Write.contents c.put.new.writer c.put.new.text.items in
    let few : length (decimal c.args.n) ≤ 20 = search (rules, length-decimal-le 20) in
    let w = c.write_digits-start in
    let start = w.ensures.start in
    IfErr-weaker c.put.result _ _ (λ e. otherwise-broken old new e _ (number_text c.args.n)
    (quoted-digits w.new.buf c.args.n w.result w.ensures.before w.ensures.written start (omega arith)))
    c.put.ensures.cut
