use Rattle.std.proofs.Common.{◌≡◌, ◌≤◌, ◌%◌, ℕ, drop, length}
use Rattle.capn_pack.specs.Chosen.{AllDense}
use Rattle.capn_commands.proofs.pack_run.before_dense.Given as goal

-- `cut` is at the end of a word, and all words after `cut` are dense.
abbrev pub invariant-loop-cut : goal.invariant-loop-cut
invariant-loop-cut l = record {
  inside : l.cut ≤ length l.words;
  whole : l.cut % 8 ≡ 0;
  dense : (n : ℕ) × AllDense n (drop l.cut l.words);
}

abbrev pub decreases-loop-cut : goal.decreases-loop-cut
decreases-loop-cut l = l.cut
