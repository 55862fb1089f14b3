use Rattle.std.proofs.Common.{◌≡◌, ℕ, List, ◌-◌, sum, drop, ap, sym, arith}
use Rattle.capn_stream.specs.Cuts.{ends_from}
use Rattle.capn_stream.specs.FrameRefusal.{entries, entry_number}
use Rattle.capn_stream.proofs.shared.Entries.{sum-entries_more}
use Rattle.capn_stream.proofs.shared.WholeFrames.{read_ends, read_stands, sizes_read}
use Rattle.capn_scratch.specs.inner.Ends.{announced_ends}
use Rattle.capn_scratch.proofs.framed.of_whole.Goals as goal

pub of_words-requires-clause-small : goal.of_words-requires-clause-small
of_words-requires-clause-small g c =
    let bs = c.args.bytes.now in
    let count : c.args.head.segments - 1 ≡ entry_number bs = omega (arith, c.requires.segments) in
    omega (
      arith,
      ap (λ (n : ℕ). sum (entries n (drop 4 bs))) count,
      sum-entries_more (entry_number bs) (drop 4 bs),
      c.requires.whole.1,
    )

pub of_words-requires-clause-ends : goal.of_words-requires-clause-ends
of_words-requires-clause-ends g c =
    let bs = c.args.bytes.now in
    read_ends bs c.args.limits.message_words c.args.head.segments c.args.head.words c.head_of-start.result
    (announced_ends bs) c.in-Ok.words (omega arith)
    c.bounds.ensures c.requires.whole c.requires.segments c.requires.words
    c.head_of-start.ensures
    (ap (λ (ns : List ℕ). ends_from 0 ns) (sym (sizes_read bs c.args.head.segments c.requires.segments)))
    (rw c.part.ensures at c.in-Ok.ensures)

pub of_words-requires-clause-first : goal.of_words-requires-clause-first
of_words-requires-clause-first g c =
    let bs = c.args.bytes.now in
    read_stands bs c.args.limits.message_words c.args.head.segments c.args.head.words c.head_of-start.result
    (announced_ends bs) c.in-Ok.words (omega arith)
    c.bounds.ensures c.requires.whole c.requires.segments c.requires.words
    c.head_of-start.ensures
    (ap (λ (ns : List ℕ). ends_from 0 ns) (sym (sizes_read bs c.args.head.segments c.requires.segments)))
    (rw c.part.ensures at c.in-Ok.ensures)
