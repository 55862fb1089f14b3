use Rattle.std.proofs.Common.{◌≡◌, ◌+◌, ◌*◌, ◌-◌, map}
use Rattle.capn_value.specs.TreeOf.{tree_of, body_of}
use Rattle.capn_text.specs.inner.Tokens.{many}
use Rattle.capn_text.specs.inner.Values.{tree_at, row_at}
use Rattle.capn_text.proofs.Loops.{with_front}
use Rattle.capn_text.proofs.StopLaws.{PassesOn}
use Rattle.capn_text.proofs.TreeStops.{tree_by, row_by}
use Rattle.capn_text.proofs.contents.+value_at.Given as goal

abbrev pub decreases-value_at : goal.decreases-value_at
decreases-value_at g l = 6 * l.room

abbrev pub decreases-content_at : goal.decreases-content_at
decreases-content_at g l = 6 * l.room + 5

abbrev pub decreases-values_at : goal.decreases-values_at
decreases-values_at g l = 6 * l.room + 1

abbrev pub decreases-body_at : goal.decreases-body_at
decreases-body_at g l = 6 * l.room + 2

abbrev pub decreases-row_at : goal.decreases-row_at
decreases-row_at g l = 6 * l.room + 3

abbrev pub decreases-rows_at : goal.decreases-rows_at
decreases-rows_at g l = 6 * l.room + 4

abbrev pub invariant-values_at-loop : goal.invariant-values_at-loop
invariant-values_at-loop g l = record {
  so_far : with_front (map tree_of l.items.items) (many (tree_at l.room l.level) (l.count - l.counter) l.rest)
      ≡ many (tree_at l.room l.level) l.count l.text;
  passes_on : PassesOn (tree_by l.level) l.room l.count l.counter l.rest l.text;
}

abbrev pub invariant-rows_at-loop : goal.invariant-rows_at-loop
invariant-rows_at-loop g l = record {
  so_far : with_front (map body_of l.items.items) (many (row_at (tree_at l.room) l.level) (l.count - l.counter) l.rest)
      ≡ many (row_at (tree_at l.room) l.level) l.count l.text;
  passes_on : PassesOn (row_by l.level) l.room l.count l.counter l.rest l.text;
}
