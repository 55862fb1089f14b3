use Rattle.std.proofs.Common.{sym, ◌∙◌}
use Rattle.capn_digests.proofs.Sets.{inserted_again}
use Rattle.capn_digests.proofs.digest_set.DigestSet.insert.Goals as goal

pub returns-then-contains-clause-inserted : goal.returns-then-contains-clause-inserted
returns-then-contains-clause-inserted g c =
    inserted_again c.args.self.now.seen c.args.digest (sym c.contains.ensures ∙ c.if-contains.true)
