use Rattle.std.proofs.Common.{◌≡◌, ◌≤◌, ◌-◌, length, take}
use Rattle.std.specs.Io.KnownBytes.{Appends}
use Rattle.capn_words.specs.Watched.{inner_of, has_failed}
use Rattle.capn_words.proofs.watched.Watched.write_all.Given as goal

-- no call of the loop has set the flag, and the writer has written the first `at` bytes of `text`
abbrev pub invariant-loop-at : goal.invariant-loop-at
invariant-loop-at g l = record {
  same : has_failed l.self ≡ has_failed l.fn.self;
  within : l.at ≤ length l.text;
  written : Appends (g.W.Write.contents (inner_of l.fn.self)) (g.W.Write.contents (inner_of l.self)) (take l.at l.text);
}

abbrev pub decreases-loop-at : goal.decreases-loop-at
decreases-loop-at g l = length l.text - l.at
