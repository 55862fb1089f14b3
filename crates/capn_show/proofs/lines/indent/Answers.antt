use Rattle.std.proofs.Common.{arith}
use Rattle.std.proofs.lemmas.Result.{on_ok_weaker, IfErr-weaker}
use Rattle.capn_show.proofs.shared.Appended.{passed}
use Rattle.capn_show.proofs.LineTexts.{spaces-more, spaces-all, spaces-cut, spaces-cut-last}
use Rattle.capn_show.proofs.lines.indent.Goals as goal

pub returns-in_err-put-clause-cut : goal.returns-in_err-put-clause-cut
returns-in_err-put-clause-cut g c =
    let lt = c.loop-done-test.true in
    let low = c.loop-done.invariant.low in
    passed c.from_residual.result c.in_err-put.field-0.0 _ c.from_residual.ensures.1
    (spaces-cut _ _ _ c.loop-done.done _ c.args.level (omega arith) c.loop-done.invariant.rest c.in_err-put.ensures.cut)

pub loop-done-preserved : goal.loop-done-preserved
loop-done-preserved g c =
    let lt = c.loop-done-test.true in
    let low = c.loop-done.invariant.low in
    record {
      low = omega arith;
      rest = spaces-more _
          _
          _ c.loop-done.done
          c.loop-done.invariant.rest c.in_ok-put.ensures.shown;
    }

pub returns-clause-shown : goal.returns-clause-shown
returns-clause-shown g c =
    let last = c.loop-done-test.false in
    on_ok_weaker c.put-2.result (spaces-all _ _ _ c.loop-done.done c.args.level c.loop-done.invariant.low (omega arith)
    c.loop-done.invariant.rest) c.put-2.ensures.shown

pub returns-clause-cut : goal.returns-clause-cut
returns-clause-cut g c =
    let last = c.loop-done-test.false in
    IfErr-weaker c.put-2.result _ _ (λ e. spaces-cut-last _ _ _ c.loop-done.done e c.args.level
    c.loop-done.invariant.low (omega arith) c.loop-done.invariant.rest) c.put-2.ensures.cut
