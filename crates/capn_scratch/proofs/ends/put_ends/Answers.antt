use Rattle.std.proofs.Common.{◌≡◌, ℕ, ◌+◌, ◌-◌, ◌*◌, ◌<◌, ◌^◌, List}
use Rattle.std.proofs.Common.{[], ◌∷◌, ◌++◌, length, sum, drop, take, ap, refl, sym, ◌∙◌, arith, w64}
use Rattle.std.specs.Int.{to_le_bytes}
use Rattle.std.proofs.lemmas.List.{length-set}
use Rattle.capn_stream.specs.Cuts.{ends_from}
use Rattle.capn_stream.specs.FrameRefusal.{entries, entry_number}
use Rattle.capn_stream.proofs.shared.Entries.{entries_more, sum-entries_le, sum-entries_more}
use Rattle.capn_stream.proofs.shared.Ends.{ends_from_push}
use Rattle.capn_scratch.specs.inner.Ends.{numbers}
use Rattle.capn_scratch.proofs.EndWords.{numbers_more}
use Rattle.capn_scratch.proofs.ends.put_ends.Goals as goal

pub overflow_add-end : goal.overflow_add-end
overflow_add-end g c =
    let left : ℕ = c.args.count - (c.loop-index.index + 1) in
    let all : c.loop-index.index + 1 + left ≡ c.args.count = omega arith in
    let within = sum-entries_le (c.loop-index.index + 1) left c.args.sizes.now in
    let whole = ap (λ (n : ℕ). sum (entries n c.args.sizes.now)) all in
    omega (arith, within, whole, sum-entries_more c.loop-index.index c.args.sizes.now, c.requires.small)

pub loop-index-preserved : goal.loop-index-preserved
loop-index-preserved g c =
    let i : ℕ = c.loop-index.index in
    let before : List (List ℕ) = c.loop-index.ends in
    let sizes : List ℕ = entries i c.args.sizes.now in
    let size : ℕ = entry_number (drop (4 * i) c.args.sizes.now) in
    let next : ℕ = c.loop-index.end + c.entry.result in
    let end : next ≡ 0 + sum sizes + size = omega (arith, c.loop-index.invariant.end, c.entry.ensures.entry) in
    let inside : i < length before = omega (arith, c.loop-index.invariant.room, c.requires.room) in
    let left : ℕ = c.args.count - (i + 1) in
    let all : i + 1 + left ≡ c.args.count = omega arith in
    let within = sum-entries_le (i + 1) left c.args.sizes.now in
    let whole = ap (λ (n : ℕ). sum (entries n c.args.sizes.now)) all in
    let small : next < 2 ^ 64 =
    omega (arith, within, whole, end, sum-entries_more i c.args.sizes.now, c.requires.small) in
    record {
      ends =
          ap (λ (ws : List (List ℕ)). numbers (take (i + 1) ws)) c.put.ensures.word
          ∙ numbers_more before i (to_le_bytes w64 next) next inside refl small
          ∙ ap (λ (ends : List ℕ). ends ++ next ∷ []) c.loop-index.invariant.ends
          ∙ ap (λ (n : ℕ). ends_from 0 sizes ++ n ∷ []) end
          ∙ sym (ends_from_push 0 sizes size)
          ∙ ap (λ (ns : List ℕ). ends_from 0 ns) (sym (entries_more i c.args.sizes.now));
      room = ap length c.put.ensures.word ∙ length-set before i (to_le_bytes w64 next) ∙ c.loop-index.invariant.room;
      end = omega (arith, end, sum-entries_more i c.args.sizes.now);
      steps = omega (arith, c.tick.ensures, c.entry.ensures.steps, c.put.ensures.steps, c.loop-index.invariant.steps);
    }
