use Rattle.capn_path.proofs.search.seek_with_ledger.Goals as goal

pub returns-clause-none : goal.returns-clause-none
returns-clause-none g c = rw c.count_reads-space.ensures.message at c.seek_counted.ensures.none
