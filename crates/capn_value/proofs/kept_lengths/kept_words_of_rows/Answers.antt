use Rattle.std.proofs.Common.{arith}
use Rattle.capn_value.proofs.Kept.{words_taken, words_all_taken}
use Rattle.capn_value.proofs.kept_lengths.kept_words_of_rows.Goals as goal

pub loop-row-preserved : goal.loop-row-preserved
loop-row-preserved g c =
    words_taken c.args.rows.now _ _ _ c.loop-row.invariant c.row-item.result (omega arith) c.row-item.is
    c.as_slice.ensures c.kept_words.ensures c.max-most.ensures

pub returns : goal.returns
returns g c = words_all_taken c.args.rows.now _ _ _ c.loop-row.invariant (omega arith)
