use Rattle.std.proofs.Common.{◌≡◌, ◌≤◌, ◌-◌, List, [], ℕ, length, false}
use Rattle.std.specs.Io.KnownBytes.{Appends}
use Rattle.capn_pack.specs.inner.Steps.{TakesRow}
use Rattle.capn_words.specs.Watched.{inner_of, has_failed}
use Rattle.capn_commands.proofs.unpack_run.write_groups.Given as goal

-- The words of the groups in the first `at` bytes were written.
abbrev pub invariant-parts : goal.invariant-parts
invariant-parts g l = record {
  fine : has_failed l.writer ≡ false;
  within : l.at ≤ length l.bytes;
  words : List ℕ;
  told : TakesRow l.bytes l.at [] words;
  wrote : Appends (g.W.Write.contents (inner_of l.fn.writer)) (g.W.Write.contents (inner_of l.writer)) words;
}

abbrev pub decreases-parts : goal.decreases-parts
decreases-parts g l = length l.bytes - l.at
