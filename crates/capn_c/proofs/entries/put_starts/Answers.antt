-- Each turn of the loop writes one more start, and adds the words of one more segment.
use Rattle.std.proofs.Common.{ℕ, ◌<◌, ◌≡◌, List, [], ◌++◌, drop, get_or, length, set, take, ap, ◌∙◌, arith}
use Rattle.std.proofs.lemmas.List.{take_all}
use Rattle.std.proofs.lemmas.List.Sums.{sum_by_more}
use Rattle.capn_c.specs.Entries.{starts_from}
use Rattle.capn_c.proofs.Entered.{one_further, start_at, starts_length}
use Rattle.capn_c.proofs.entries.put_starts.Goals as goal

pub loop-segment-preserved : goal.loop-segment-preserved
loop-segment-preserved g c =
    let m = c.args.space.now in
    let s = c.loop-segment.segment in
    let inv = c.loop-segment.invariant in
    let old = c.args.starts.now in
    let inside : s < length m = omega (arith, c.requires.segments) in
    let many = starts_length 0 m in
    let next : c.loop-segment.total ≡ get_or (starts_from 0 m) s 0 =
    omega (arith, inv.words, start_at 0 s m 0 inside) in
    record {
      starts = ap (λ (xs : List ℕ). set xs s c.loop-segment.total) inv.starts
          ∙ (ap (λ (k : ℕ). set (take s (starts_from 0 m) ++ drop s old) s k) next
          ∙ one_further (starts_from 0 m) old s 0 (omega (arith, inside, many)) (omega (arith, many, c.requires.room)));
      words = omega (arith, inv.words, c.segment_length-total.ensures.length, sum_by_more length m s [] inside);
      reads = omega (arith, inv.reads, c.tick.ensures, c.segment_length-total.ensures.reads);
    }

pub returns-clause-starts : goal.returns-clause-starts
returns-clause-starts g c =
    let m = c.args.space.now in
    let s = c.loop-segment.segment in
    let all : s ≡ length m = omega (arith, c.requires.segments) in
    c.loop-segment.invariant.starts
    ∙ (ap (λ (xs : List ℕ). xs ++ drop s c.args.starts.now)
    (take_all s (starts_from 0 m) (omega (arith, starts_length 0 m, all)))
    ∙ ap (λ (n : ℕ). starts_from 0 m ++ drop n c.args.starts.now) all)
