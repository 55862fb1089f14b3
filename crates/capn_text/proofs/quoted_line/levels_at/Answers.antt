use Rattle.std.proofs.Common.{◌≡◌, suc, length, codes, ap, arith}
use Rattle.capn_text.specs.inner.QuotedLines.{levels_at}
use Rattle.capn_text.proofs.TokenText.{strip_takes}
use Rattle.capn_text.proofs.Quotes.{level_more}
use Rattle.capn_text.proofs.quoted_line.levels_at.Goals as goal

pub loop-after-preserved : goal.loop-after-preserved
loop-after-preserved c =
    let so_far = c.loop-after.invariant.within in
    let taken = strip_takes (codes "  ") c.loop-after.rest.now c.in-Some.after.now c.in-Some.ensures in
    let size : length c.loop-after.rest.now ≡ suc (suc (length c.in-Some.after.now)) = ap length taken in
    record {
      levels = level_more c.loop-after.level c.loop-after.rest.now c.in-Some.after.now (levels_at c.args.text.now)
          c.in-Some.ensures c.loop-after.invariant.levels;
      within = omega arith;
    }
