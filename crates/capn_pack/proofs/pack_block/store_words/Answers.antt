use Rattle.std.proofs.Common.{arith, ◌*◌}
use Rattle.capn_pack.proofs.SpanLemmas.{span_stored}
use Rattle.capn_pack.proofs.pack_block.store_words.Goals as goal

pub returns-then-more-le8 : goal.returns-then-more-le8
returns-then-more-le8 c =
    span_stored c.args.bytes.now _ _ c.args.from c.args.at (8 * c.args.more) 64 (omega arith) (omega arith)
    (omega arith) c.store_bytes.ensures

pub returns-else-more-le8 : goal.returns-else-more-le8
returns-else-more-le8 c =
    span_stored c.args.bytes.now _ _ c.args.from c.args.at (8 * c.args.more) 128 (omega arith) (omega arith)
    (omega arith) c.store_bytes-else-more-le8.ensures
