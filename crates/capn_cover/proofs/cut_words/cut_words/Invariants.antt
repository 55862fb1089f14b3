use Rattle.capn_cover.specs.inner.Marked.{AreMarkedTo}
use Rattle.capn_cover.proofs.cut_words.cut_words.Given as goal

abbrev pub invariant-loop-number : goal.invariant-loop-number
invariant-loop-number g l = AreMarkedTo (g.S.Space.message l.space) l.number l.initial.cells l.cells
