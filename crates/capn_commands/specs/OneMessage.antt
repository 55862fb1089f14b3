-- An input that is one message in a frame: the text that a service writes for the message, and the reason why it writes
-- none. (Our own.)
use Rattle.std.specs.Prelude.{◌≡◌, ◌⊎◌, ℕ, List}
use Rattle.capn_canon.specs.Reads.{IsFramed, Unpacks}
use Rattle.capn_canon.specs.Refusal.{IsMisread}
use Rattle.capn_canon.specs.declared.refusal.Refusal.{Refusal}
use Rattle.capn_serve.specs.declared.pick.StreamForm.{StreamForm}
use Rattle.capn_serve.specs.declared.pick.StreamForm.TheVariants as forms
use Rattle.capn_serve.specs.declared.position.Position.{Position}
use Rattle.capn_serve.specs.StreamRun.{start}
use Rattle.capn_commands.specs.Plan.{form_of}
use Rattle.capn_commands.specs.declared.fault.ToolFault.{ToolFault}
use Rattle.capn_commands.specs.declared.fault.ToolFault.TheVariants as faults

-- For `Stream`, `frame` is `bytes`. For `Packed`, `bytes` unpack to `frame`, which is no longer than a message of
-- `most` words with the longest segment table.
abbrev pub IsFrameOf : StreamForm → ℕ → List ℕ → List ℕ → Type 0
IsFrameOf forms.Stream most bytes frame = bytes ≡ frame
IsFrameOf forms.Packed most bytes frame = Unpacks bytes most frame

-- In the state `s`, a service writes `text` for `message`, which is the first of an input. `frame` are the bytes of
-- `message`.
abbrev pub Writes : {S : Type 0} → (S → Position → List ℕ → List (List ℕ) → List ℕ → S → Type 0) → S → List ℕ
    → List (List ℕ) → List ℕ → Type 0
Writes {S = S} serves s frame message text = (t : S) × serves s start frame message text t

module _ {S : Type 0} (serves : S → Position → List ℕ → List (List ℕ) → List ℕ → S → Type 0)
    (refuses : S → Position → List ℕ → List (List ℕ) → Refusal → Type 0) (s : S) (most : ℕ) where
  -- `bytes` are exactly one `message` of at most `most` words, and in the state `s` the service writes `text` for it.
  abbrev pub WritesOne : StreamForm → List ℕ → List ℕ → Type 0
  WritesOne form bytes text = (frame : List ℕ) × (message : List (List ℕ)) × IsFrameOf form most bytes frame
      × IsFramed frame most message × Writes serves s frame message text

  -- `fault` is a refusal `r`. Either `r` is the reason why `bytes` are not exactly one message of at most `most` words,
  -- or the service refuses their message with `r`.
  abbrev pub RefusesOne : StreamForm → List ℕ → ToolFault → Type 0
  RefusesOne form bytes fault = (r : Refusal) × (fault ≡ faults.Refused r)
      × (IsMisread (form_of form) bytes most r
      ⊎ ((frame : List ℕ) × (message : List (List ℕ)) × IsFrameOf form most bytes frame × IsFramed frame most message
      × refuses s start frame message r))
