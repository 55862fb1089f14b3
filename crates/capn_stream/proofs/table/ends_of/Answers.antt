use Rattle.std.proofs.Common.{◌≡◌, ℕ, ◌+◌, ◌-◌, ◌*◌, List, [], ◌∷◌, ◌++◌, sum, drop, ap, sym, ◌∙◌, arith}
use Rattle.std.proofs.Common.{length, length-append}
use Rattle.capn_stream.specs.Cuts.{ends_from}
use Rattle.capn_stream.specs.FrameRefusal.{entries, entry_number}
use Rattle.capn_stream.proofs.shared.Entries.{entries_more, sum-entries_le, sum-entries_more}
use Rattle.capn_stream.proofs.shared.Ends.{ends_from_push}
use Rattle.capn_stream.proofs.table.ends_of.Goals as goal

pub overflow_add-end : goal.overflow_add-end
overflow_add-end g c =
    let left : ℕ = c.args.count - (c.loop-index.index + 1) in
    let all : c.loop-index.index + 1 + left ≡ c.args.count = omega arith in
    let within = sum-entries_le (c.loop-index.index + 1) left c.args.sizes.now in
    let whole = ap (λ (n : ℕ). sum (entries n c.args.sizes.now)) all in
    omega (
      arith,
      within,
      whole,
      sum-entries_more c.loop-index.index c.args.sizes.now,
      c.requires.room,
      c.loop-index.invariant.end,
    )

pub loop-index-preserved : goal.loop-index-preserved
loop-index-preserved g c =
    let sizes : List ℕ = entries c.loop-index.index c.args.sizes.now in
    let size : ℕ = entry_number (drop (4 * c.loop-index.index) c.args.sizes.now) in
    let end : c.loop-index.end + c.entry_at-end.result ≡ c.args.from + sum sizes + size =
    omega (arith, c.loop-index.invariant.end, c.entry_at-end.ensures) in
    record {
      ends =
          c.push_reserved.ensures.items
          ∙ ap (λ (ends : List ℕ). ends ++ (c.loop-index.end + c.entry_at-end.result) ∷ []) c.loop-index.invariant.ends
          ∙ ap (λ (n : ℕ). ends_from c.args.from sizes ++ n ∷ []) end
          ∙ sym (ends_from_push c.args.from sizes size)
          ∙ ap (λ (ns : List ℕ). ends_from c.args.from ns) (sym (entries_more c.loop-index.index c.args.sizes.now));
      number = omega (
        arith,
        ap length c.push_reserved.ensures.items,
        length-append c.loop-index.ends.items ((c.loop-index.end + c.entry_at-end.result) ∷ []),
        c.loop-index.invariant.number,
      );
      room = c.push_reserved.ensures.capacity ∙ c.loop-index.invariant.room;
      end = omega (arith, c.loop-index.invariant.end, sum-entries_more c.loop-index.index c.args.sizes.now);
    }
