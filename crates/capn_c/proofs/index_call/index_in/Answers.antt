-- The index has as many entries as its survey has visits.
use Rattle.capn_c.proofs.Counted.{entries_told}
use Rattle.capn_c.proofs.index_call.index_in.Goals as goal

pub returns-clause-entries : goal.returns-clause-entries
returns-clause-entries c e =
    let (s, h, r) = c.fill_index.ensures.counted e in
    entries_told c.indexes.ensures.visits c.args.form c.args.bytes.now c.args.limits s h c.fill_index.new.report r
