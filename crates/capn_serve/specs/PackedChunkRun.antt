-- A packed stream that is served in chunks: what has been written for the bytes that were read. (Our own.)
use Rattle.std.specs.Prelude.{◌≡◌, ◌≢◌, ◌⊎◌, ◌↔◌, ℕ, ◌+◌, ◌<◌, ◌^◌, List, [], ◌++◌, length, Bool, true, false, Option}
use Rattle.std.specs.Prelude.{Result, Ok, Err}
use Rattle.capn_pack.specs.PackedPieces as packing
use Rattle.capn_pack.specs.PackedPieces.{Held, NoGroupFirst, Splits, advanced}
use Rattle.capn_stream.specs.StreamPieces.{Framing}
use Rattle.capn_stream.specs.FrameRefusal as frame_rules
use Rattle.capn_stream.specs.declared.fault.FrameFault.{FrameFault}
use Rattle.capn_stream.specs.declared.fault.FrameFault.TheVariants as frames
use Rattle.capn_serve.specs.declared.position.Position.{Position}
use Rattle.capn_serve.specs.declared.fault.RunFault.{RunFault}
use Rattle.capn_serve.specs.declared.fault.RunFault.TheVariants as faults
use Rattle.capn_serve.specs.Fold.{Fold, IsFolded, Leaves, end_of}
use Rattle.capn_serve.specs.Outgoing.{Outgoing, Adds}
use Rattle.capn_serve.specs.ChunkRun.{IsListening, Tells, TellsBegun, TellsFront}
use Rattle.capn_serve.specs.StreamRun.{has_more, taken_of}
use Rattle.capn_serve.specs.PackedRun.{cut_group, unless_more}

-- The unpacker `held` has not failed, and its offset is below 2^64. Its bytes do not begin with a complete group.
pub record IsUnpacking (held : Held) : Type 0 where
  pub good : held.failed ≡ false
  pub group : NoGroupFirst held.rest
  pub offset : held.offset < 2 ^ 64

-- The state of a packed stream between two chunks. `group` is the unpacker, and `rest` are the bytes of an unfinished
-- message. `left` is the number of unpacked bytes that may still be served.
pub record Pending : Type 0 where
  pub group : Held
  pub rest : List ℕ
  pub left : ℕ

-- The `Pending` of the unpacker `held`, the bytes in `framer`, and the number `left`.
abbrev pub pending : Held → Framing → ℕ → Pending
pending held framer left = record { group = held; rest = framer.rest; left = left }

-- The `Pending` before the first byte of a packed stream, if at most `limit` unpacked bytes may be served.
abbrev pub fresh : ℕ → Pending
fresh limit = record { group = record { rest = []; offset = 0; failed = false }; rest = []; left = limit }

module _ {X : Type 0} (f : Fold X) where
  -- For any bytes `more` after `stream`, a run writes the text that was added, ends with `fault`, and leaves the state
  -- `last`. The run is over `rest` and the first `left` bytes of `stream ++ more`.
  abbrev pub IsDueWithin : X → ℕ → List ℕ → List ℕ → Outgoing → Outgoing → RunFault → X → Type 0
  IsDueWithin x left rest stream old new fault last = (more : List ℕ) → (text : List ℕ) × (y : X)
      × ((behind : Option RunFault) → IsFolded f x (rest ++ taken_of left (stream ++ more))
      (unless_more (has_more left (stream ++ more)) behind) text (Err fault) y) × Adds old new text
      × Leaves f y fault last

  -- A run over `rest` and the first `left` bytes of `stream` stopped with `fault` and left the state `last`. `fault` is
  -- `Memory` or `Io`, or the run ends with `fault` for any bytes after `stream`.
  pub record Halts (x : X) (left : ℕ) (rest stream : List ℕ) (old new : Outgoing) (failed : Bool) (fault : RunFault)
      (last : X) : Type 0 where
    pub told : failed ≡ false → TellsBegun f x (rest ++ taken_of left stream) old new
    pub front : failed ≡ true → TellsFront f x (rest ++ taken_of left stream) old new
    pub io : (fault ≡ faults.Io) ↔ (failed ≡ true)
    pub due : (fault ≡ faults.Memory) ⊎ ((fault ≡ faults.Io) ⊎ IsDueWithin x left rest stream old new fault last)

  -- After `Ok`, messages at the start of `before.rest ++ taken_of left stream` were served. If the state `y` is not
  -- `done`, `stream` has at most `left` bytes, and `after` holds the bytes after these messages. After `Err`, the run
  -- stopped with `fault`.
  abbrev pub ServesPart : X → ℕ → Framing → List ℕ → Outgoing → Outgoing → Bool → Result (Unit {0}) RunFault → ℕ
      → Framing → X → Type 0
  ServesPart x left before stream old new failed (Ok u) room after y = (rest : List ℕ)
      × Tells f x (before.rest ++ taken_of left stream) rest old new y
      × (f.done y ≡ false → (length stream + room ≡ left) × (after.rest ≡ rest) × IsListening f after)
      × (failed ≡ false)
  ServesPart x left before stream old new failed (Err fault) room after y =
      Halts x left before.rest stream old new failed fault y

  -- The complete groups of `before.group.rest ++ bytes` unpack to `stream`, and `stream` has at most `before.left`
  -- bytes. Messages at the start of `before.rest ++ stream` were served. `after` holds the bytes after these groups,
  -- and the bytes after these messages.
  pub record TellsPacked (x : X) (before : Pending) (bytes : List ℕ) (after : Pending) (old new : Outgoing) (y : X)
      : Type 0 where
    pub stream : List ℕ
    pub len : ℕ
    pub split : Splits (before.group.rest ++ bytes) after.group.rest [] stream len
    pub offset : after.group.offset ≡ advanced before.group.offset len
    pub good : after.group.failed ≡ false
    pub size : length stream + after.left ≡ before.left
    pub told : Tells f x (before.rest ++ stream) after.rest old new y

  -- `before.group.rest ++ bytes` begin with some complete groups, which unpack to `stream`. Messages at the start of
  -- `before.rest ++ taken_of before.left stream` were served.
  abbrev pub ReachesPacked : X → Pending → List ℕ → Outgoing → Outgoing → X → Type 0
  ReachesPacked x before bytes old new y = (stream : List ℕ) × packing.Begins (before.group.rest ++ bytes) [] stream
      × (rest : List ℕ) × Tells f x (before.rest ++ taken_of before.left stream) rest old new y

  -- `before.group.rest ++ bytes` begin with some complete groups, which unpack to `stream`. A run over `before.rest`
  -- and the first `before.left` bytes of `stream` stopped with `fault`, and left the state `last`.
  abbrev pub HaltsPacked : X → Pending → List ℕ → Outgoing → Outgoing → Bool → RunFault → X → Type 0
  HaltsPacked x before bytes old new failed fault last = (stream : List ℕ)
      × packing.Begins (before.group.rest ++ bytes) [] stream
      × Halts x before.left before.rest stream old new failed fault last

  -- After `Ok`, messages in the packed `bytes` were served, up to the state `y`. If `y` is not `done`, all complete
  -- messages were served, and `held`, `framer` and `left` are the state after `bytes`. After `Err`, the run stopped
  -- with `fault`.
  abbrev pub ServesPacked : X → Pending → List ℕ → Outgoing → Outgoing → Bool → Result (Unit {0}) RunFault → Held
      → Framing → ℕ → X → Type 0
  ServesPacked x before bytes old new failed (Ok u) held framer left y =
      ReachesPacked x before bytes old new y
      × (f.done y ≡ false → TellsPacked x before bytes (pending held framer left) old new y × IsListening f framer)
      × (failed ≡ false)
  ServesPacked x before bytes old new failed (Err fault) held framer left y =
      HaltsPacked x before bytes old new failed fault y

-- A packed input ended, with no complete frame at the position `at`. `rest` are the bytes of an unfinished message, and
-- `group` are the bytes of an unfinished group. `ending` is the end of the run, and is not `Io`.
abbrev pub EndsPacked : Position → List ℕ → ℕ → List ℕ → ℕ → Result (Unit {0}) RunFault → Type 0
EndsPacked at group offset rest most ending = (e : FrameFault) × (e ≢ frames.Memory)
    × frame_rules.IsFrameRefused rest most e × (ending ≡ end_of at e (cut_group at group offset))
    × (ending ≢ Err faults.Io)
