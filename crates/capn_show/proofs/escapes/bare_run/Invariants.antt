use Rattle.std.proofs.Common.{◌≡◌, take}
use Rattle.capn_show.specs.JsonTexts.{json_escapes}
use Rattle.capn_show.proofs.escapes.bare_run.Given as goal

abbrev pub invariant-loop-i : goal.invariant-loop-i
invariant-loop-i l = json_escapes (take l.i l.bytes) ≡ take l.i l.bytes
