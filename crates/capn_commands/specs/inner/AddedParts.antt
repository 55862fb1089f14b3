-- The effect of adding the text of a value, and the bytes `end` after that text, to the output of a run.
use Rattle.std.specs.Prelude.{◌≡◌, ℕ, ◌<◌, ◌++◌, List, [], length, Result, Ok, Err}
use Rattle.capn_value.specs.Tree.{Tree}
use Rattle.capn_walk.specs.Accepted.{IsValueOf, IsWalkRefused}
use Rattle.capn_walk.specs.Limits.{Bounds}
use Rattle.capn_walk.specs.declared.walk_answer.Stopped.{Stopped}
use Rattle.capn_canon.specs.declared.refusal.Refusal.TheVariants as refusals
use Rattle.capn_show.specs.Outgoing.{Outgoing, Adds, BreaksOff}
use Rattle.capn_show.specs.declared.fault.Broken.TheVariants as broken
use Rattle.capn_show.specs.declared.fault.ShowFault.{ShowFault}
use Rattle.capn_show.specs.declared.fault.ShowFault.TheVariants as ends
use Rattle.capn_serve.specs.declared.fault.ServeFault.{ServeFault}
use Rattle.capn_serve.specs.declared.fault.ServeFault.TheVariants as serve_faults

-- After `Ok`, `end` was added to the output, and `new.kept` has fewer than 65,536 bytes. After `Memory` or `Io`, the
-- output breaks off in `end` (`BreaksOff`).
abbrev pub AddsEnd : List ℕ → Outgoing → Outgoing → Result (Unit {0}) ServeFault → Type 0
AddsEnd end old new (Ok u) = Adds old new end × (length new.kept < 65536)
AddsEnd end old new (Err serve_faults.Memory) = BreaksOff old new broken.Memory end
AddsEnd end old new (Err serve_faults.Io) = BreaksOff old new broken.Io end
AddsEnd end old new (Err (serve_faults.Refused r)) = ⊥

-- After `Ok`, `of v ++ end` was added for the value `v` of `message`. After `Memory` or `Io`, the output breaks off in
-- these bytes. After `Refused`, the walk of `message` is refused, and nothing was added.
abbrev pub AddsPart : List (List ℕ) → Bounds → (Tree → List ℕ) → List ℕ → Outgoing → Outgoing
    → Result (Unit {0}) ServeFault → Type 0
AddsPart message limits of end old new (Ok u) =
    (v : Tree) × IsValueOf message limits v × Adds old new (of v ++ end) × (length new.kept < 65536)
AddsPart message limits of end old new (Err serve_faults.Memory) =
    (v : Tree) × IsValueOf message limits v × BreaksOff old new broken.Memory (of v ++ end)
AddsPart message limits of end old new (Err serve_faults.Io) =
    (v : Tree) × IsValueOf message limits v × BreaksOff old new broken.Io (of v ++ end)
AddsPart message limits of end old new (Err (serve_faults.Refused r)) =
    ((s : Stopped) × (r ≡ refusals.Walk s) × IsWalkRefused message limits s.fault s.place s.paid s.visits)
    × Adds old new []

-- `fault` is the `ServeFault` for the given `ShowFault`. A walk that stopped gives its refusal. `Io` stays `Io`, and
-- `Memory` stays `Memory`.
abbrev pub IsFaultOf : ShowFault → ServeFault → Type 0
IsFaultOf (ends.Stopped s) fault = fault ≡ serve_faults.Refused (refusals.Walk s)
IsFaultOf ends.Io fault = fault ≡ serve_faults.Io
IsFaultOf ends.Memory fault = fault ≡ serve_faults.Memory
