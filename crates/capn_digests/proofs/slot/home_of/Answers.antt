use Rattle.std.proofs.Common.{lit<}
use Rattle.std.proofs.lemmas.Nat.{mod_below}
use Rattle.capn_digests.proofs.Home.{masked}
use Rattle.capn_digests.proofs.slot.home_of.Goals as goal

pub returns-then-zeros-buckets : goal.returns-then-zeros-buckets
returns-then-zeros-buckets c =
    masked c.args.tag c.args.buckets _ (mod_below _ 64 (lit< tt)) c.if-zeros-buckets.true
