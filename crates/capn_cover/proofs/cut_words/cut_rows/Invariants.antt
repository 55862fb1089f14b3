use Rattle.capn_cover.specs.inner.Marked.{AreMarkedRows}
use Rattle.capn_cover.proofs.cut_words.cut_rows.Given as goal

abbrev pub invariant-loop-i : goal.invariant-loop-i
invariant-loop-i g l =
    AreMarkedRows l.slot l.words l.kept l.kept_slots l.step l.first l.i l.initial.cells l.cells
