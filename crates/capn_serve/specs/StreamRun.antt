-- A run over a stream: how many bytes are served, what is written, how the run ends, and the state after the run. (Our
-- own.)
use Rattle.std.specs.Prelude.{◌≡◌, ◌⊎◌, ◌↔◌, ℕ, ◌+◌, ◌<◌, ◌≤◌, nat_lt, List, [], ◌++◌, length, take, Bool, true}
use Rattle.std.specs.Prelude.{false, Option, Some, None, IfSome, Result, Ok, Err}
use Rattle.std.specs.Io.KnownBytes.{Consumes, Appends}
use Rattle.capn_stream.specs.StreamPieces.{IsUnfinished}
use Rattle.capn_stream.specs.FrameRefusal as frame_rules
use Rattle.capn_stream.specs.declared.fault.FrameFault.TheVariants as frames
use Rattle.capn_canon.specs.declared.refusal.Refusal.TheVariants as refusals
use Rattle.capn_serve.specs.declared.position.Position.{Position}
use Rattle.capn_serve.specs.declared.fault.RunFault.{RunFault}
use Rattle.capn_serve.specs.declared.fault.RunFault.TheVariants as faults
use Rattle.capn_serve.specs.declared.service.Run.{Run}
use Rattle.capn_serve.specs.Fold.{Fold, Part, AreParts, IfGoing, IsFolded, Leaves, texts_of}

-- The first `limit` bytes of `input`, or all bytes of `input` if there are fewer.
abbrev pub taken_of : ℕ → List ℕ → List ℕ
taken_of limit input = take limit input

-- Tests whether `input` has more than `limit` bytes.
abbrev pub has_more : ℕ → List ℕ → Bool
has_more limit input = nat_lt limit (length input)

-- The fault after the served bytes of a stream: `InputTooLong` if the argument is `true`, and otherwise none. The
-- argument says whether the stream has more bytes than may be served.
abbrev pub behind : Bool → Option RunFault
behind true = Some faults.InputTooLong
behind false = None

-- The position at which a stream begins.
abbrev pub start : Position
start = record { index = 0; offset = 0 }

-- The run of a service before its first message.
abbrev pub first_run : {S : Type 0} → S → Run S
first_run s = record { service = s; at = start }

-- A reader returned at least one byte.
abbrev pub TakesBytes : Option (List ℕ) → Option (List ℕ) → Type 0
TakesBytes old new = (bytes : List ℕ) × Consumes old new bytes × (0 < length bytes)

-- `bytes` are `before`, followed by a chunk `piece` of at most 65,536 bytes. `Written` holds for `before` and the
-- writer's contents `old` and `mid`, and then `more` was written.
abbrev pub IsAhead : (List ℕ → Option (List ℕ) → Option (List ℕ) → Type 0) → List ℕ → Option (List ℕ)
    → Option (List ℕ) → Type 0
IsAhead Written bytes old new = (before : List ℕ) × (piece : List ℕ) × (mid : Option (List ℕ)) × (more : List ℕ)
    × (bytes ≡ before ++ piece) × (length piece ≤ 65536) × Written before old mid × Appends mid new more

-- `bytes` are empty, or `Short` holds for all of `bytes` before a last chunk of at most 65,536 bytes.
abbrev pub IsNeeded : (List ℕ → Type 0) → List ℕ → Type 0
IsNeeded Short bytes = (bytes ≡ [])
    ⊎ ((before : List ℕ) × (piece : List ℕ) × (bytes ≡ before ++ piece) × (length piece ≤ 65536) × Short before)

module _ {X : Type 0} (f : Fold X) (x : X) (limit : ℕ) where
  -- A run over `bytes` writes `text` and ends with `ending`, and `y` is the state after the messages of `bytes`.
  abbrev pub IsDue : List ℕ → Bool → List ℕ → Result (Unit {0}) RunFault → X → Type 0
  IsDue bytes is_longer text ending y = IsFolded f x bytes (behind is_longer) text ending y

  -- After `Ok`, the messages of `bytes` have written `text`, and `y` is the state after them. After `Err e`, `e` is
  -- `Memory` or `Io`, or the messages of `bytes` have written `text` and their run ends with `e`.
  abbrev pub HasEnded : List ℕ → Bool → Option (List ℕ) → Option (List ℕ) → Result (Unit {0}) RunFault → X → Type 0
  HasEnded bytes is_longer old new (Ok u) y =
      (text : List ℕ) × IsDue bytes is_longer text (Ok u) y × Appends old new text
  HasEnded bytes is_longer old new (Err e) y =
      (e ≡ faults.Memory)
      ⊎ ((e ≡ faults.Io)
      ⊎ ((text : List ℕ) × (z : X) × IsDue bytes is_longer text (Err e) z × Appends old new text × Leaves f z e y))

  -- A run has ended with `ending` over the first `limit` bytes of `input`, and `y` is the state after the run.
  abbrev pub EndsAs : Option (List ℕ) → Option (List ℕ) → Result (Unit {0}) RunFault → X → List ℕ → Type 0
  EndsAs old new ending y input = HasEnded (taken_of limit input) (has_more limit input) old new ending y

  -- `parts` are messages at the start of `bytes`. The first `count` bytes of their joined texts were written.
  abbrev pub HasWritten : List ℕ → Option (List ℕ) → Option (List ℕ) → Type 0
  HasWritten bytes old new = (parts : List Part) × (rest : List ℕ) × (y : X) × (count : ℕ)
      × AreParts f x bytes parts rest y × Appends old new (take count (texts_of parts))

  -- The texts of all complete messages in `bytes` were written, and no complete frame follows these messages.
  abbrev pub HasWrittenAll : List ℕ → Option (List ℕ) → Option (List ℕ) → Type 0
  HasWrittenAll bytes old new = (parts : List Part) × (rest : List ℕ) × (y : X) × AreParts f x bytes parts rest y
      × IsUnfinished rest f.most × Appends old new (texts_of parts)

  -- The complete messages in `bytes` lead to a state that is not `done`, and no complete frame follows these messages.
  abbrev pub IsShort : List ℕ → Type 0
  IsShort bytes = (parts : List Part) × (rest : List ℕ) × (y : X) × AreParts f x bytes parts rest y
      × IsUnfinished rest f.most × (f.done y ≡ false)

  -- A reader returned `bytes`, at most one byte more than `limit`, and a prefix of the texts of their messages was
  -- written. Before the last chunk was read, all messages before that chunk had written their texts, and the state was
  -- not `done`.
  pub record Begins (old_reader new_reader old_writer new_writer : Option (List ℕ)) : Type 0 where
    pub bytes : List ℕ
    pub read : Consumes old_reader new_reader bytes
    pub bounded : length bytes ≤ limit + 1
    pub lazy : IsAhead HasWrittenAll bytes old_writer new_writer
    pub needed : IsNeeded IsShort bytes
    pub written : HasWritten (taken_of limit bytes) old_writer new_writer

  -- A reader returned `bytes`. The texts of all messages in `bytes` were written, and the state `y` after these
  -- messages is not `done`.
  abbrev pub KeepsUp : Option (List ℕ) → Option (List ℕ) → Option (List ℕ) → Option (List ℕ) → Type 0
  KeepsUp a b c d = (bytes : List ℕ) × (text : List ℕ) × (ending : Result (Unit {0}) RunFault) × (y : X)
      × Consumes a b bytes
      × IfGoing (f.done y) (IsDue (taken_of limit bytes) (has_more limit bytes) text ending y) × Appends c d text

  -- The effect of a run that ends with the result `r` and leaves the state `y`. `a` and `b` are the reader before and
  -- after the run, and `c` and `d` the writer.
  pub record Runs (a b c d : Option (List ℕ)) (reader_failed writer_failed : Bool) (r : Result (Unit {0}) RunFault)
      (y : X) : Type 0 where
    pub exact : IfSome a (EndsAs c d r y)
    pub io : (r ≡ Err faults.Io) ↔ ((reader_failed ≡ true) ⊎ (writer_failed ≡ true))
    pub begun : Begins a b c d
    pub heard : reader_failed ≡ true → KeepsUp a b c d
    pub memory : r ≡ Err faults.Memory → TakesBytes a b

-- The input ended at the position `at`, with the bytes `rest` after the last complete message. After `Ok`, `rest` is
-- empty. After `Err`, `rest` is an incomplete frame, and `fault` refuses that frame.
abbrev pub EndsInput : Position → List ℕ → ℕ → Result (Unit {0}) RunFault → Type 0
EndsInput at rest most (Ok u) = frame_rules.IsFrameRefused rest most frames.Empty
EndsInput at rest most (Err fault) = frame_rules.IsFrameRefused rest most frames.Cut
    × (fault ≡ faults.Refused at (refusals.Frame frames.Cut))
