-- The decision whether `filter` lets a message through.
use Rattle.std.specs.Prelude.{ℕ, List, Bool}
use Rattle.capn_walk.specs.Limits.{Bounds}
use Rattle.capn_archive.specs.declared.filter_service.Verdict.{Verdict}
use Rattle.capn_archive.specs.declared.filter_service.Verdict.TheVariants as verdicts
use Rattle.capn_archive.specs.declared.task.Task.TheVariants as tasks
use Rattle.capn_archive.specs.FilterMessages.{IsUncanonical, Passes}
use Rattle.capn_archive.specs.Tasks.{IsRefusedBy}

-- The verdict on `message` is `Passes` if `message` is let through, and `Refused` if the walk refuses `message`. It is
-- `NotCanonical` if `message` is accepted but not canonical. `canonical` is true if only canonical messages are let
-- through.
abbrev pub IsVerdict : Bool → List (List ℕ) → Bounds → Verdict → Type 0
IsVerdict canonical message limits verdicts.Passes = Passes canonical message limits
IsVerdict canonical message limits verdicts.NotCanonical = IsUncanonical canonical message limits
IsVerdict canonical message limits (verdicts.Refused r) = IsRefusedBy tasks.List message limits r
