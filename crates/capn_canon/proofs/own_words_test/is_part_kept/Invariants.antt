use Rattle.std.proofs.Common.{◌≡◌, ◌+◌, ◌-◌, ◌*◌, ◌≤◌, ◌↔◌, [], ◌∷◌}
use Rattle.capn_layout.specs.RowWords.{kept_each}
use Rattle.capn_canon.proofs.own_words_test.is_part_kept.Given as goal

abbrev pub invariant-loop-row : goal.invariant-loop-row
invariant-loop-row g l = record {
  last : l.last ≡ l.start + l._row * l.step + l.inset + (l.size - 1);
  rest : (kept_each (l.space ∷ []) 0 (l.start + l.inset) l.size l.step l.count ≡ l.size)
      ↔ (kept_each (l.space ∷ []) 0 (l.start + l._row * l.step + l.inset) l.size l.step (l.count - l._row) ≡ l.size);
  reads : l.reads ≤ l.fn.reads + 2 * l._row;
}
