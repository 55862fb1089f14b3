use Rattle.std.proofs.Common.{◌≡◌, ◌≤◌, ◌++◌, length, take}
use Rattle.capn_stream.specs.inner.Stages.{IsStage, parts_left}
use Rattle.capn_stream.proofs.Came.{Came}
use Rattle.capn_stream.proofs.stage.fill.Given as goal

-- the first `at` bytes of `piece` were added to the old bytes, and `stage` is the stage of the new bytes
abbrev pub invariant-parts : goal.invariant-parts
invariant-parts g l = record {
  inside : l.at ≤ length l.piece;
  text : l.bytes.items ≡ l.fn.bytes.items ++ take l.at l.piece;
  is : IsStage l.stage l.bytes.items l.most l.ends.items;
  came : Came l.fn.stage l.stage l.fn.bytes.items l.bytes.items l.piece;
}

-- the number of parts of the frame that follow the part of `stage`
abbrev pub decreases-parts : goal.decreases-parts
decreases-parts g l = parts_left l.stage
