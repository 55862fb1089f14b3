-- A stream that is served in chunks: what has been written for the bytes that were read. (Our own.)
use Rattle.std.specs.Prelude.{◌≡◌, ◌≢◌, ◌⊎◌, ◌↔◌, ℕ, ◌*◌, ◌+◌, ◌<◌, ◌≤◌, ◌^◌, List, [], ◌++◌, length, take, Bool, true}
use Rattle.std.specs.Prelude.{false, Option, Result, Ok, Err}
use Rattle.capn_stream.specs.StreamPieces.{Framing, IsUnfinished}
use Rattle.capn_stream.specs.declared.fault.FrameFault.{FrameFault}
use Rattle.capn_stream.specs.declared.fault.FrameFault.TheVariants as frames
use Rattle.capn_canon.specs.declared.refusal.Refusal.TheVariants as refusals
use Rattle.capn_serve.specs.declared.position.Position.{Position}
use Rattle.capn_serve.specs.declared.fault.RunFault.{RunFault}
use Rattle.capn_serve.specs.declared.fault.RunFault.TheVariants as faults
use Rattle.capn_serve.specs.Fold.{Fold, Part, AreParts, IsFolded, Leaves, texts_of}
use Rattle.capn_serve.specs.Outgoing.{Outgoing, Adds, Breaks, BreaksWithin, RunsOut}

module _ {X : Type 0} (f : Fold X) where
  -- Messages at the start of `stream` were served, from the state `x` to the state `y`, and their texts were added.
  -- `rest` are the bytes of `stream` after these messages.
  abbrev pub Tells : X → List ℕ → List ℕ → Outgoing → Outgoing → X → Type 0
  Tells x stream rest old new y = (parts : List Part) × AreParts f x stream parts rest y × Adds old new (texts_of parts)

  -- `parts` are messages at the start of `stream`. The first `count` bytes of their joined texts were added.
  abbrev pub TellsBegun : X → List ℕ → Outgoing → Outgoing → Type 0
  TellsBegun x stream old new =
      (parts : List Part) × (rest : List ℕ) × (y : X) × (count : ℕ) × AreParts f x stream parts rest y
      × Adds old new (take count (texts_of parts))

  -- `parts` are messages at the start of `stream`. The first `count` bytes of `old.kept ++ texts_of parts` were
  -- written.
  abbrev pub TellsFront : X → List ℕ → Outgoing → Outgoing → Type 0
  TellsFront x stream old new =
      (parts : List Part) × (rest : List ℕ) × (y : X) × (count : ℕ) × AreParts f x stream parts rest y
      × Breaks old new count (texts_of parts)

  -- A run over any stream that begins with `stream` writes the text that was added, ends with `fault`, and leaves the
  -- state `left`.
  abbrev pub IsDueSo : X → List ℕ → Outgoing → Outgoing → RunFault → X → Type 0
  IsDueSo x stream old new fault left =
      (more : List ℕ) (behind : Option RunFault) → (text : List ℕ) × (y : X)
      × IsFolded f x (stream ++ more) behind text (Err fault) y × Adds old new text × Leaves f y fault left

  -- A run over a stream that begins with `stream` stopped with `fault`, and `TellsBegun` holds, or `TellsFront` if the
  -- writer failed. `fault` is `Io` exactly if the writer failed. A fault other than `Memory` and `Io` ends every run
  -- over a stream that begins with `stream`.
  pub record Stops (x : X) (stream : List ℕ) (old new : Outgoing) (failed : Bool) (fault : RunFault) (left : X)
      : Type 0 where
    pub told : failed ≡ false → TellsBegun x stream old new
    pub front : failed ≡ true → TellsFront x stream old new
    pub io : (fault ≡ faults.Io) ↔ (failed ≡ true)
    pub due : (fault ≡ faults.Memory) ⊎ ((fault ≡ faults.Io) ⊎ IsDueSo x stream old new fault left)

  -- After `Ok`, the `text` of `message` was added, and `y` is the next state. After `Refused`, nothing was added. After
  -- `Memory`, a prefix of `text` was added, or nothing was added for a `message` that is not refused. After `Io`, a
  -- prefix of `old.kept ++ text` was written.
  abbrev pub AddsMessage : X → List ℕ → List (List ℕ) → Outgoing → Outgoing → Bool → Result (Unit {0}) RunFault → X
      → Type 0
  AddsMessage x frame message old new failed (Ok u) y =
      (text : List ℕ) × f.step x frame message text y × Adds old new text × (failed ≡ false)
  AddsMessage x frame message old new failed (Err (faults.Refused at r)) y =
      (at ≡ f.place x) × f.refuses x frame message r × Adds old new [] × (failed ≡ false)
  AddsMessage x frame message old new failed (Err faults.Memory) y =
      RunsOut (f.step x frame message) (f.refuses x frame message) old new × (failed ≡ false)
  AddsMessage x frame message old new failed (Err faults.Io) y =
      BreaksWithin (f.step x frame message) old new × (failed ≡ true)
  AddsMessage x frame message old new failed (Err faults.InputTooLong) y = ⊥

  -- `framer` has not failed, its limit is `f.most`, and it holds no bytes or an incomplete frame.
  pub record IsListening (framer : Framing) : Type 0 where
    pub good : framer.failed ≡ false
    pub part : IsUnfinished framer.rest framer.most
    pub most : framer.most ≡ f.most

  -- After `Ok`, messages at the start of `before.rest ++ bytes` were served. If the state `y` is not `done`, `after`
  -- holds the bytes after these messages, and these bytes are no complete frame. After `Err`, the run stopped with
  -- `fault`.
  abbrev pub Serves : X → Framing → List ℕ → Outgoing → Outgoing → Bool → Result (Unit {0}) RunFault → Framing → X
      → Type 0
  Serves x before bytes old new failed (Ok u) after y = (rest : List ℕ)
      × Tells x (before.rest ++ bytes) rest old new y
      × (f.done y ≡ false → (after.rest ≡ rest) × IsListening after) × (failed ≡ false)
  Serves x before bytes old new failed (Err fault) after y = Stops x (before.rest ++ bytes) old new failed fault y

  -- After `Ok`, messages at the start of `before.rest` were served, and `after` holds the bytes after these messages.
  -- After `Err`, the run stopped with `fault`, for any bytes `more` after `before.rest`.
  abbrev pub ServesHeld : X → Framing → Outgoing → Outgoing → Bool → Result (Unit {0}) RunFault → Framing → X → Type 0
  ServesHeld x before old new failed (Ok u) after y =
      Tells x before.rest after.rest old new y × IsListening after × (failed ≡ false)
  ServesHeld x before old new failed (Err fault) after y =
      (more : List ℕ) → Stops x (before.rest ++ more) old new failed fault y

  -- After `Ok n`, messages at the start of `before.rest ++ take n bytes` were served. `after` holds the bytes after
  -- these messages. After `Err`, the run stopped with `fault`.
  abbrev pub ServesNext : X → Framing → List ℕ → Outgoing → Outgoing → Bool → Result ℕ RunFault → Framing → X → Type 0
  ServesNext x before bytes old new failed (Ok n) after y =
      (n ≤ length bytes) × (0 < length bytes → 0 < n)
      × (Tells x (before.rest ++ take n bytes) after.rest old new y × IsListening after × (failed ≡ false))
  ServesNext x before bytes old new failed (Err fault) after y =
      Stops x (before.rest ++ bytes) old new failed fault y

  -- After `Ok n`, the first `n` bytes of `bytes` are complete messages, and these messages were served. After `Err`,
  -- the run stopped with `fault`.
  abbrev pub ServesWhole : X → List ℕ → Outgoing → Outgoing → Bool → Result ℕ RunFault → X → Type 0
  ServesWhole x bytes old new failed (Ok n) y = (n ≤ length bytes) × Tells x (take n bytes) [] old new y
      × (failed ≡ false)
  ServesWhole x bytes old new failed (Err fault) y = Stops x bytes old new failed fault y

-- `at.offset + count` is below 2^64. `at.index` is at most a quarter of `at.offset`, and is thus below 2^64 too.
pub record HasRoom (at : Position) (count : ℕ) : Type 0 where
  pub offset : at.offset + count < 2 ^ 64
  pub index : 4 * at.index ≤ at.offset

-- The result is `Err Memory` if `fault` is `Memory`, and `Ok` if `fault` is any other fault of a frame.
abbrev pub Passes : FrameFault → Result (Unit {0}) RunFault → Type 0
Passes fault (Ok u) = fault ≢ frames.Memory
Passes fault (Err e) = (fault ≡ frames.Memory) × (e ≡ faults.Memory)

-- The fault that ends a run after the framer returned the given `FrameFault` for the frame at the position `at`.
abbrev pub fault_at : Position → FrameFault → RunFault
fault_at at frames.Memory = faults.Memory
fault_at at frames.Empty = faults.Refused at (refusals.Frame frames.Empty)
fault_at at (frames.TooManySegments n) = faults.Refused at (refusals.Frame (frames.TooManySegments n))
fault_at at (frames.TooManyWords n) = faults.Refused at (refusals.Frame (frames.TooManyWords n))
fault_at at frames.Cut = faults.Refused at (refusals.Frame frames.Cut)
fault_at at frames.Failed = faults.Refused at (refusals.Frame frames.Failed)
