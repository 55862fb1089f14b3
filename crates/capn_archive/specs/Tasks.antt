-- The tasks of a run over an archive: the text for a message, the change of the tally, and the messages that are
-- refused. (Our own.)
use Rattle.std.specs.Prelude.{◌≡◌, ◌≢◌, ◌⊎◌, ℕ, List, [], ◌++◌, Bool, true, false, Option, Result, Ok, Err}
use Rattle.capn_words.specs.Message.{total}
use Rattle.capn_walk.specs.Limits.{Bounds}
use Rattle.capn_walk.specs.Accepted.{IsAccepted, paid}
use Rattle.capn_walk.specs.Depth.{IsDepth}
use Rattle.capn_canon.specs.Denotes.{AnswersMessage}
use Rattle.capn_canon.specs.Refusal.{IsRefusedMessage, IsUnaccepted}
use Rattle.capn_canon.specs.declared.refusal.Refusal.{Refusal}
use Rattle.capn_canon.specs.declared.refusal.Refusal.TheVariants as refusals
use Rattle.capn_serve.specs.declared.position.Position.{Position}
use Rattle.capn_serve.specs.declared.fault.ServeFault.{ServeFault}
use Rattle.capn_serve.specs.declared.fault.ServeFault.TheVariants as faults
use Rattle.capn_serve.specs.Outgoing.{Outgoing, Adds, AddsBeginning, BreaksWithin}
use Rattle.capn_archive.specs.declared.task.Task.{Task}
use Rattle.capn_archive.specs.declared.task.Task.TheVariants as tasks
use Rattle.capn_archive.specs.declared.task.ArchiveOrder.{ArchiveOrder}
use Rattle.capn_canon.specs.declared.surveyed_bare.MeasuredBare.{MeasuredBare}
use Rattle.capn_archive.specs.declared.tally.Tally.{Tally}
use Rattle.capn_archive.specs.declared.archive_service.ArchiveService.{ArchiveService}
use Rattle.capn_archive.specs.CanonicalFrame.{framed}
use Rattle.capn_canon.specs.Measure.{IsMeasure}
use Rattle.capn_archive.specs.MessageHead.{head_of}
use Rattle.capn_archive.specs.Digest.{IsDigestIfAny}
use Rattle.capn_archive.specs.Lines.{digests_line, list_line, refused_line}
use Rattle.capn_archive.specs.Tally.{counted, skipped}

-- After `Ok x`, `is x` holds. After `Refused r`, `isn't r` holds, and `r` is not `Memory`. After `Memory`, `needs`
-- holds.
abbrev pub Finds : {T : Type 0} → (T → Type 0) → (Refusal → Type 0) → Type 0 → Result T ServeFault → Type 0
Finds is isn't needs (Ok x) = is x
Finds is isn't needs (Err faults.Memory) = needs
Finds is isn't needs (Err faults.Io) = ⊥
Finds is isn't needs (Err (faults.Refused r)) = isn't r × (r ≢ refusals.Memory)

-- `r` refuses `message` within `limits`, by its walk. For the task `Canonical`, `r` may also refuse `message` for a
-- capability.
abbrev pub IsRefusedBy : Task → List (List ℕ) → Bounds → Refusal → Type 0
IsRefusedBy tasks.Canonical message limits r = IsRefusedMessage message limits r × (r ≢ refusals.Memory)
IsRefusedBy _ message limits r = IsUnaccepted message limits r × (r ≢ refusals.Memory)

-- `message` is not refused within `limits`. The task writes `text` for `message`, and `tally_after` is the tally after
-- `message`. Only the task `Limits` changes the tally, and this task writes nothing.
abbrev pub IsServedBy : Task → Bounds → Tally → Position → List ℕ → List (List ℕ) → List ℕ → Tally → Type 0
IsServedBy tasks.List limits tally at frame message text tally_after =
    (measured : MeasuredBare) × IsMeasure message limits measured
    × (text ≡ list_line (head_of at frame message) measured) × (tally_after ≡ tally)
IsServedBy tasks.Digests limits tally at frame message text tally_after =
    (measured : MeasuredBare) × (digest : Option (List ℕ)) × IsMeasure message limits measured
    × IsDigestIfAny message limits digest
    × (text ≡ digests_line (head_of at frame message) measured digest) × (tally_after ≡ tally)
IsServedBy tasks.Canonical limits tally at frame message text tally_after =
    (answer : List ℕ) × (price : ℕ) × AnswersMessage message limits answer price × (text ≡ framed answer)
    × (tally_after ≡ tally)
IsServedBy tasks.Limits limits tally at frame message text tally_after =
    (depth : ℕ) × IsAccepted message limits × IsDepth message limits depth × (text ≡ [])
    × (tally_after ≡ counted tally at.index (total message) (paid message limits) depth)

-- The text for a skipped message: a line for the tasks `List` and `Digests`, and nothing for any other task.
abbrev pub skipped_text : Task → Position → List ℕ → List (List ℕ) → Refusal → List ℕ
skipped_text tasks.List at frame message r = refused_line (head_of at frame message) r
skipped_text tasks.Digests at frame message r = refused_line (head_of at frame message) r
skipped_text _ at frame message r = []

-- `message` is skipped, because `order.task` refuses it and `keep_going` is set. `text` is written for `message`, and
-- `tally_after` counts it as skipped.
abbrev pub IsSkippedBy : ArchiveOrder → Tally → Position → List ℕ → List (List ℕ) → List ℕ → Tally → Type 0
IsSkippedBy order tally at frame message text tally_after =
    (order.keep_going ≡ true) × (r : Refusal) × IsRefusedBy order.task message order.limits r
    × (text ≡ skipped_text order.task at frame message r) × (tally_after ≡ skipped tally at)

-- `message` leads from the state `s` to `t` and writes `text`. The message is served or skipped.
abbrev pub serves : ArchiveService → Position → List ℕ → List (List ℕ) → List ℕ → ArchiveService → Type 0
serves s at frame message text t =
    (t.order ≡ s.order)
    × (IsServedBy s.order.task s.order.limits s.tally at frame message text t.tally
    ⊎ IsSkippedBy s.order s.tally at frame message text t.tally)

-- `r` refuses `message`. The refusal ends the run, because `keep_going` is not set.
abbrev pub refuses : ArchiveService → Position → List ℕ → List (List ℕ) → Refusal → Type 0
refuses s at frame message r = (s.order.keep_going ≡ false) × IsRefusedBy s.order.task message s.order.limits r

-- After `Ok`, the `text` of `message` was added. After `Refused`, the output and the tally are unchanged. After
-- `Memory`, `message` is not refused, and a prefix of `text` was added. After `Io`, a prefix of `old.kept ++ text` was
-- written.
abbrev pub AddsServed : Task → Bounds → Tally → Position → List ℕ → List (List ℕ) → Outgoing → Outgoing → Bool
    → Result (Unit {0}) ServeFault → Tally → Type 0
AddsServed task limits tally at frame message old new failed (Ok u) tally_after =
    (text : List ℕ) × IsServedBy task limits tally at frame message text tally_after × Adds old new text
    × (failed ≡ false)
AddsServed task limits tally at frame message old new failed (Err faults.Memory) tally_after =
    AddsBeginning (IsServedBy task limits tally at frame message) old new × (failed ≡ false)
AddsServed task limits tally at frame message old new failed (Err faults.Io) tally_after =
    BreaksWithin (IsServedBy task limits tally at frame message) old new × (failed ≡ true)
AddsServed task limits tally at frame message old new failed (Err (faults.Refused r)) tally_after =
    IsRefusedBy task message limits r × (new ≡ old) × (tally_after ≡ tally) × (failed ≡ false)

-- After `Ok`, the text for the skipped message was appended, and `tally_after` counts the message. After `Err`, `fault`
-- is `Memory`, and `new` is `old`.
abbrev pub Skips : Task → Tally → Position → List ℕ → List (List ℕ) → Refusal → List ℕ → List ℕ
    → Result (Unit {0}) ServeFault → Tally → Type 0
Skips task tally at frame message r old new (Ok u) tally_after =
    (new ≡ old ++ skipped_text task at frame message r) × (tally_after ≡ skipped tally at)
Skips task tally at frame message r old new (Err fault) tally_after = (fault ≡ faults.Memory) × (new ≡ old)
