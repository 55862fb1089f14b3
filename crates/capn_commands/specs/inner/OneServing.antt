-- The frame of the one message of an input, and the effect of serving that message.
use Rattle.std.specs.Prelude.{◌≡◌, ◌⊎◌, ℕ, ◌+◌, ◌*◌, List, [], take, Bool, true, false, Option, Result, Ok, Err, Vec}
use Rattle.std.specs.Io.KnownBytes.{Appends}
use Rattle.capn_stream.specs.Frames.{most_table_words}
use Rattle.capn_canon.specs.Reads.{IsFramed}
use Rattle.capn_canon.specs.Refusal.{IsMisframed}
use Rattle.capn_canon.specs.declared.refusal.Refusal.{Refusal}
use Rattle.capn_serve.specs.declared.pick.StreamForm.{StreamForm}
use Rattle.capn_serve.specs.declared.pick.StreamForm.TheVariants as forms
use Rattle.capn_commands.specs.WholeInput.{Gives}
use Rattle.capn_commands.specs.declared.plan.Whole.TheVariants as wholes
use Rattle.capn_commands.specs.declared.fault.ToolFault.{ToolFault}
use Rattle.capn_commands.specs.declared.fault.ToolFault.TheVariants as faults

-- After `Ok`, `held` is the first bytes of a stream, or the words that a packed input unpacks to. The first bytes of a
-- stream are at most one byte more than the longest frame. Only a packed input can give a fault.
abbrev pub HoldsFrame : {A : Type 0} → StreamForm → ℕ → List ℕ → Result (Vec ℕ A) ToolFault → Type 0
HoldsFrame forms.Stream most bytes (Ok held) = take (8 * (most + most_table_words) + 1) bytes ≡ held.items
HoldsFrame forms.Stream most bytes (Err fault) = ⊥
HoldsFrame forms.Packed most bytes held = Gives (wholes.Unpacked (most + most_table_words)) bytes held

-- After `Ok`, some `text` was written, and `writes text` holds. After `Refused r`, `refuses r` holds, and nothing was
-- written. After `Memory` or `Io`, nothing was written, or a prefix of some `text` for which `writes text` holds.
abbrev pub ServesWhole : (List ℕ → Type 0) → (Refusal → Type 0) → Option (List ℕ) → Option (List ℕ) → Bool
    → Result (Unit {0}) ToolFault → Type 0
ServesWhole writes refuses old new failed (Ok u) =
    ((text : List ℕ) × writes text × Appends old new text) × (failed ≡ false)
ServesWhole writes refuses old new failed (Err faults.Memory) =
    (Appends old new [] ⊎ ((text : List ℕ) × (count : ℕ) × writes text × Appends old new (take count text)))
    × (failed ≡ false)
ServesWhole writes refuses old new failed (Err faults.Io) =
    ((text : List ℕ) × (count : ℕ) × writes text × Appends old new (take count text)) × (failed ≡ true)
ServesWhole writes refuses old new failed (Err (faults.Refused r)) =
    refuses r × Appends old new [] × (failed ≡ false)
ServesWhole writes refuses old new failed (Err faults.InputTooLong) = ⊥
ServesWhole writes refuses old new failed (Err (faults.NotWhole n)) = ⊥

-- `frame` is the frame of one `message` of at most `most` words, and `writes` holds for `frame`, `message` and `text`.
abbrev pub WritesFrame : (List ℕ → List (List ℕ) → List ℕ → Type 0) → ℕ → List ℕ → List ℕ → Type 0
WritesFrame writes most frame text =
    (message : List (List ℕ)) × IsFramed frame most message × writes frame message text

-- `r` is the reason why `frame` is not exactly one frame of at most `most` words, or `refuses` holds for `frame`, its
-- `message` and `r`.
abbrev pub RefusesFrame : (List ℕ → List (List ℕ) → Refusal → Type 0) → ℕ → List ℕ → Refusal → Type 0
RefusesFrame refuses most frame r = IsMisframed frame most r
    ⊎ ((message : List (List ℕ)) × IsFramed frame most message × refuses frame message r)
