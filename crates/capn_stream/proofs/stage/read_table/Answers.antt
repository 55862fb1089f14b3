use Rattle.std.proofs.Common.{◌≡◌, ◌-◌, ℕ, List, ap, sum, ◌∙◌, length, take, drop, arith}
use Rattle.std.proofs.lemmas.List.{take_rest}
use Rattle.capn_stream.specs.Cuts.{ends_from}
use Rattle.capn_stream.specs.FrameRefusal.{announced_words, announced_segments, entries, head_length}
use Rattle.capn_stream.proofs.shared.WholeFrames.{sizes_read, sum-sizes_read}
use Rattle.capn_stream.proofs.stage.read_table.Goals as goal

-- the sum of the sizes that are read is the announced number of words
all_words : (bs : List ℕ) (segments : ℕ) → segments ≡ announced_segments bs
    → sum (entries segments (take (length bs - 4) (drop 4 bs))) ≡ announced_words bs
all_words bs segments count =
    ap (λ (n : ℕ). sum (entries n (take (length bs - 4) (drop 4 bs)))) count
    ∙ ap (λ (xs : List ℕ). sum (entries (announced_segments bs) xs)) (take_rest bs 4)

pub ends_of-requires-clause-room : goal.ends_of-requires-clause-room
ends_of-requires-clause-room g c =
    let all = all_words c.args.bytes.now c.args.segments c.requires.count.1 in
    let front = sum-sizes_read c.args.bytes.now c.args.segments c.requires.count.1 in
    omega (arith, all, front, c.total_of-words.ensures, c.requires.small)

pub returns-clause-tabled : goal.returns-clause-tabled
returns-clause-tabled g c =
    let bs = c.args.bytes.now in
    let count = c.requires.count.1 in
    let all = c.total_of-words.ensures ∙ all_words bs c.args.segments count in
    let begins = c.head_of-start.ensures ∙ ap head_length count in
    record {
      head = (c.requires.count.0, omega (arith, c.requires.here, ap head_length count));
      room = omega (arith, all);
      begins = begins;
      stops = omega (arith, begins, all);
      cuts = c.in_ok-ends.ensures.ends ∙ ap (λ (ns : List ℕ). ends_from 0 ns) (sizes_read bs c.args.segments count);
    }
