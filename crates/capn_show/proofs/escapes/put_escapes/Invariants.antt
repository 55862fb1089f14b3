use Rattle.std.proofs.Common.{◌≤◌, ◌-◌, length, take}
use Rattle.capn_show.specs.Outgoing.{Adds, outgoing}
use Rattle.capn_show.specs.JsonTexts.{json_escapes}
use Rattle.capn_show.proofs.escapes.put_escapes.Given as goal

abbrev pub invariant-loop-done : goal.invariant-loop-done
invariant-loop-done g l = record {
  low : l.done ≤ length l.bytes;
  rest : Adds (outgoing g.W.Write.contents l.initial.writer l.initial.text.items)
      (outgoing g.W.Write.contents l.writer l.text.items) (json_escapes (take l.done l.bytes));
}

abbrev pub decreases-loop-done : goal.decreases-loop-done
decreases-loop-done g l = length l.bytes - l.done
