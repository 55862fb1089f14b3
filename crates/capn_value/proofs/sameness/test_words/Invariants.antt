use Rattle.std.proofs.Common.{◌≡◌, drop}
use Rattle.capn_value.specs.inner.SameTest.{test_words}
use Rattle.capn_value.proofs.sameness.test_words.Given as goal

abbrev pub invariant-loop-i : goal.invariant-loop-i
invariant-loop-i l = test_words (drop l.i l.a) (drop l.i l.b) ≡ test_words l.a l.b
