use Rattle.std.proofs.Common.{arith}
use Rattle.std.proofs.lemmas.Grind.{common_steps}
use Rattle.capn_words.proofs.Written.{write_more}
use Rattle.capn_words.proofs.watched.Watched.write_all.Goals as goal

pub loop-at-preserved : goal.loop-at-preserved
loop-at-preserved g c = record {
  same = grind (arith, common_steps);
  within = grind (arith, common_steps);
  written = write_more _ _ _ c.args.text.now c.loop-at.at c.in-Ok.count c.loop-at.invariant.written
      c.in-Ok.ensures.bytes;
}
