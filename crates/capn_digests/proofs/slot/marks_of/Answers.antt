use Rattle.std.proofs.Common.{◌<◌, ◌/◌, ◌%◌, arith, lit<}
use Rattle.std.proofs.lemmas.Nat.{one_shl, mod_below}
use Rattle.capn_digests.specs.Tag.{marks}
use Rattle.capn_digests.proofs.slot.marks_of.Goals as goal

pub returns : goal.returns
unfolding marks
returns c =
    let t = c.args.tag in
    let high : t / 134217728 < 32 = omega (arith, c.ranges.tag.fits) in
    let low : t / 4194304 % 32 < 32 = mod_below (t / 4194304) 32 (lit< tt) in
    rw (one_shl (t / 134217728) 32 high, one_shl (t / 4194304 % 32) 32 low)
