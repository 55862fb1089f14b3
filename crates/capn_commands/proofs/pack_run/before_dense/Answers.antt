use Rattle.std.proofs.Common.{◌≤◌, arith}
use Rattle.capn_commands.proofs.HeldBack.{dense_before}
use Rattle.capn_commands.proofs.pack_run.before_dense.Goals as goal

pub loop-cut-preserved : goal.loop-cut-preserved
loop-cut-preserved c =
    let i = c.loop-cut.invariant in
    let some : 8 ≤ c.loop-cut.cut = omega (arith, i.whole, c.loop-cut-test.true) in
    record {
      inside = omega (arith, i.inside);
      whole = omega (arith, i.whole, some);
      dense = dense_before c.args.words.now c.loop-cut.cut some i.inside
          (omega (arith, c.zeros_of.ensures, c.if-zeros_of-gt1.false)) i.dense;
    }
