use Rattle.std.proofs.Common.{arith, ap, ◌∙◌, ◌∷◌}
use Rattle.capn_pack.specs.Packed.{named_bytes}
use Rattle.capn_pack.proofs.PutLemmas.{puts_raw}
use Rattle.capn_pack.proofs.SpanLemmas.{raw_head, raw_packed}
use Rattle.capn_pack.proofs.pack_block.store_raw.Goals as goal

pub returns-clause-some : goal.returns-clause-some
returns-clause-some c =
    let bytes = c.args.bytes.now in
    let block = c.args.block.now in
    let at = c.args.at in
    let fill = c.args.fill in
    let more = c.raw_run-more.result in
    let run = c.raw_run-more.ensures.run in
    let front = c.gather.ensures ∙ ap (λ w. 255 ∷ named_bytes 255 w) c.word_at-word.ensures in
    let head = raw_head bytes block c.gather.result c.store.new.block at fill (omega arith) (omega arith)
    c.store.ensures front in
    puts_raw bytes at more _ _ c.requires.inside c.requires.tag (omega arith) run.inside run.dense
    (λ less. c.raw_run-more.ensures.last (omega arith))
    (raw_packed bytes block c.store.new.block c.store_bytes.new.block c.store_words.new.block at more fill head
    c.store_bytes.ensures c.store_words.ensures)
