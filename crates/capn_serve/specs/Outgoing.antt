-- The output of a run: the bytes that are written, and the text that will be written later. (Our own.)
use Rattle.std.specs.Prelude.{◌≡◌, ◌⊎◌, ℕ, ◌+◌, ◌<◌, List, [], ◌++◌, length, take, Bool, true, false, Option}
use Rattle.std.specs.Prelude.{Result, Ok, Err}
use Rattle.std.specs.Io.KnownBytes.{Appends}
use Rattle.capn_words.specs.Watched.{HasBegun}
use Rattle.capn_canon.specs.declared.refusal.Refusal.{Refusal}
use Rattle.capn_serve.specs.declared.fault.ServeFault.{ServeFault}
use Rattle.capn_serve.specs.declared.fault.ServeFault.TheVariants as serve_faults
use Rattle.capn_serve.specs.declared.fault.RunFault.{RunFault}
use Rattle.capn_serve.specs.declared.fault.RunFault.TheVariants as faults

-- The output of a run: the content `taken` of the writer, and the text `kept` that is not written yet.
pub record Outgoing : Type 0 where
  pub taken : Option (List ℕ)
  pub kept : List ℕ

-- The `Outgoing` with the fields `taken` and `kept`.
abbrev pub outgoing : Option (List ℕ) → List ℕ → Outgoing
outgoing taken kept = record { taken = taken; kept = kept }

-- The `Outgoing` of a writer with the content `taken`, where `kept` is empty.
abbrev pub sent : Option (List ℕ) → Outgoing
sent taken = outgoing taken []

-- `text` was added to the output. `old.kept ++ text` is the bytes `written` to the writer, followed by `new.kept`.
abbrev pub Adds : Outgoing → Outgoing → List ℕ → Type 0
Adds old new text = (written : List ℕ) × Appends old.taken new.taken written × (written ++ new.kept ≡ old.kept ++ text)

-- The first `count` bytes of `old.kept ++ text` were written.
abbrev pub Breaks : Outgoing → Outgoing → ℕ → List ℕ → Type 0
Breaks old new count text = Appends old.taken new.taken (take count (old.kept ++ text))

-- A prefix of some `text` was added that `writes` relates to some state `y`. The prefix may be empty.
abbrev pub AddsBeginning : {X : Type 0} → (List ℕ → X → Type 0) → Outgoing → Outgoing → Type 0
AddsBeginning {X = X} writes old new =
    (text : List ℕ) × (y : X) × (count : ℕ) × writes text y × Adds old new (take count text)

-- `refuses` holds for no refusal.
abbrev pub IsUnrefused : (Refusal → Type 0) → Type 0
IsUnrefused refuses = (r : Refusal) → refuses r → ⊥

-- The output of a message for which an allocation was refused. Nothing was added, and `refuses` holds for no refusal.
-- Or a prefix of a text was added that `writes` states.
abbrev pub RunsOut : {X : Type 0} → (List ℕ → X → Type 0) → (Refusal → Type 0) → Outgoing → Outgoing → Type 0
RunsOut writes refuses old new = (Adds old new [] × IsUnrefused refuses) ⊎ AddsBeginning writes old new

-- A prefix of `old.kept ++ text` was written, for some `text` that `writes` relates to some state `y`.
abbrev pub BreaksWithin : {X : Type 0} → (List ℕ → X → Type 0) → Outgoing → Outgoing → Type 0
BreaksWithin {X = X} writes old new =
    (text : List ℕ) × (y : X) × (count : ℕ) × writes text y × Breaks old new count text

-- After `Ok`, nothing was added, and `new.kept` has fewer than 65,536 bytes. After `Err`, the fault is `Io`, and a
-- prefix of `old.kept` was written.
abbrev pub Flushes : Outgoing → Outgoing → Bool → Result (Unit {0}) ServeFault → Type 0
Flushes old new failed (Ok u) = Adds old new [] × (length new.kept < 65536) × (failed ≡ false)
Flushes old new failed (Err fault) =
    (fault ≡ serve_faults.Io) × HasBegun old.taken new.taken old.kept × (failed ≡ true)

-- After `Ok`, `old.kept ++ bytes` were written, and `new.kept` is empty. After `Err`, the fault is `Io`, and a prefix
-- of `old.kept ++ bytes` was written.
abbrev pub Sends : List ℕ → Outgoing → Outgoing → Bool → Result (Unit {0}) ServeFault → Type 0
Sends bytes old new failed (Ok u) =
    Appends old.taken new.taken (old.kept ++ bytes) × (new.kept ≡ []) × (failed ≡ false)
Sends bytes old new failed (Err fault) =
    (fault ≡ serve_faults.Io) × HasBegun old.taken new.taken (old.kept ++ bytes) × (failed ≡ true)

-- After `Ok`, `bytes` were added, and `new.kept` has fewer than 65,536 bytes. After `Memory`, nothing was added, and
-- `old.kept` and `bytes` together have fewer than 65,536 bytes. After `Io`, a prefix of `old.kept ++ bytes` was
-- written.
abbrev pub AddsBytes : List ℕ → Outgoing → Outgoing → Bool → Result (Unit {0}) ServeFault → Type 0
AddsBytes bytes old new failed (Ok u) = Adds old new bytes × (length new.kept < 65536) × (failed ≡ false)
AddsBytes bytes old new failed (Err serve_faults.Memory) =
    Adds old new [] × (length old.kept + length bytes < 65536) × (failed ≡ false)
AddsBytes bytes old new failed (Err serve_faults.Io) = ((count : ℕ) × Breaks old new count bytes) × (failed ≡ true)
AddsBytes bytes old new failed (Err (serve_faults.Refused r)) = ⊥

-- If the writer had failed before, nothing was written, and `result` is `served`. If the writer has not failed, `text`
-- was written, and `result` is `served`. If the writer failed now, a prefix of `text` was written, and `result` is
-- `Io`.
abbrev pub SendsRest : Result (Unit {0}) RunFault → List ℕ → Option (List ℕ) → Option (List ℕ) → Bool → Bool
    → Result (Unit {0}) RunFault → Type 0
SendsRest served text old new true failed result = (new ≡ old) × (failed ≡ true) × (result ≡ served)
SendsRest served text old new false false result = Appends old new text × (result ≡ served)
SendsRest served text old new false true result = HasBegun old new text × (result ≡ Err faults.Io)
