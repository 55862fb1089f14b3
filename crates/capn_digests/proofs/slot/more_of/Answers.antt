use Rattle.std.proofs.Common.{◌/◌, ◌%◌, lit<}
use Rattle.std.proofs.lemmas.Nat.{one_shl, mod_below}
use Rattle.capn_digests.specs.Tag.{more}
use Rattle.capn_digests.proofs.slot.more_of.Goals as goal

pub returns : goal.returns
unfolding more
returns c =
    let t = c.args.tag in
    one_shl (t / 262144 % 16) 16 (mod_below (t / 262144) 16 (lit< tt))
