use Rattle.std.proofs.Common.{◌≡◌, ◌+◌, ◌-◌, ◌*◌, ◌≤◌, ◌++◌}
use Rattle.capn_words.specs.Message.{words_in}
use Rattle.capn_layout.specs.RowWords.{row_cells}
use Rattle.capn_layout.specs.inner.Draft.{IsKept}
use Rattle.capn_layout.proofs.struct_list_words.push_rows.Given as goal

abbrev pub invariant-loop-row : goal.invariant-loop-row
invariant-loop-row g l = record {
  next : l.next ≡ l.start.word + l.row * (l.words + l.slots);
  ends : l.end ≡ l.len + l.row * (l.kept + l.below);
  reads : l.reads ≤ l.fn.reads + l.row * (l.words + l.slots);
  rest : words_in l.end l.out
      ++ row_cells l.space l.start.segment l.next (l.words + l.slots) l.words l.kept l.below (l.count - l.row)
      ≡ words_in l.len l.initial.out
      ++ row_cells l.space l.start.segment l.start.word (l.words + l.slots) l.words l.kept l.below l.count;
  same : IsKept l.end l.initial.out l.out;
}
