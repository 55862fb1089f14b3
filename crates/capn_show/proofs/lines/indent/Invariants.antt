use Rattle.std.proofs.Common.{◌*◌, ◌≤◌, ◌-◌, replicate}
use Rattle.capn_show.specs.Outgoing.{Adds, outgoing}
use Rattle.capn_show.proofs.lines.indent.Given as goal

abbrev pub invariant-loop-done : goal.invariant-loop-done
invariant-loop-done g l = record {
  low : l.done ≤ l.level;
  rest : Adds (outgoing g.W.Write.contents l.initial.writer l.initial.text.items)
      (outgoing g.W.Write.contents l.writer l.text.items) (replicate (2 * l.done) 32);
}

abbrev pub decreases-loop-done : goal.decreases-loop-done
decreases-loop-done g l = l.level - l.done
