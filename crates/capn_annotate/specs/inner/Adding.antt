-- The effect of adding a text to the output of a run, of which only a beginning may be added. (Our own.)
use Rattle.std.specs.Prelude.{◌≡◌, ◌⊎◌, ℕ, ◌<◌, List, [], length, take, Bool, true, false, Result, Ok, Err}
use Rattle.capn_serve.specs.Outgoing.{Outgoing, Adds, Breaks}
use Rattle.capn_serve.specs.declared.fault.ServeFault.{ServeFault}
use Rattle.capn_serve.specs.declared.fault.ServeFault.TheVariants as faults

-- After `Ok`, `text` was added. If `old.kept` has fewer than 65,536 bytes, `new.kept` has fewer than that, too. After
-- `Memory`, a beginning of `text` was added, and after `Io`, a beginning of `old.kept ++ text` was written.
abbrev pub AddsText : List ℕ → Outgoing → Outgoing → Bool → Result (Unit {0}) ServeFault → Type 0
AddsText text old new failed (Ok u) =
    Adds old new text × (failed ≡ false) × (length old.kept < 65536 → length new.kept < 65536)
AddsText text old new failed (Err faults.Memory) = ((count : ℕ) × Adds old new (take count text)) × (failed ≡ false)
AddsText text old new failed (Err faults.Io) = ((count : ℕ) × Breaks old new count text) × (failed ≡ true)
AddsText text old new failed (Err (faults.Refused r)) = ⊥

-- `AddsText` holds of a text that `Is`, or after `Memory` nothing was added.
abbrev pub AddsAnnotation : (List ℕ → Type 0) → Outgoing → Outgoing → Bool → Result (Unit {0}) ServeFault → Type 0
AddsAnnotation Is old new failed r =
    ((text : List ℕ) × Is text × AddsText text old new failed r)
    ⊎ ((r ≡ Err faults.Memory) × Adds old new [] × (failed ≡ false))
