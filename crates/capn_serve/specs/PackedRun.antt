-- A run over a packed stream: how many bytes are served, what is written, how the run ends, and the state after the
-- run. (Our own.)
use Rattle.std.specs.Prelude.{◌≡◌, ◌⊎◌, ◌↔◌, ℕ, ◌+◌, ◌≤◌, List, [], ◌∷◌, length, take, Bool, true, false}
use Rattle.std.specs.Prelude.{Option, Some, None, IfSome, Result, Ok, Err}
use Rattle.std.specs.Io.KnownBytes.{Consumes, Appends}
use Rattle.capn_pack.specs.PackedPieces as packing
use Rattle.capn_pack.specs.declared.fault.UnpackFault.TheVariants as cuts
use Rattle.capn_canon.specs.declared.refusal.Refusal.TheVariants as refusals
use Rattle.capn_serve.specs.declared.position.Position.{Position}
use Rattle.capn_serve.specs.declared.fault.RunFault.{RunFault}
use Rattle.capn_serve.specs.declared.fault.RunFault.TheVariants as faults
use Rattle.capn_serve.specs.Fold.{Fold, Part, AreParts, IfGoing, IsFolded, Leaves, texts_of}
use Rattle.capn_stream.specs.StreamPieces.{IsUnfinished}
use Rattle.capn_serve.specs.StreamRun.{IsAhead, IsNeeded, IsShort, TakesBytes, has_more, taken_of}

-- The fault, if there is one, that comes after the served bytes. It is `InputTooLong` if the first argument is `true`,
-- and otherwise `behind`. The first argument says whether there are more bytes than may be served.
abbrev pub unless_more : Bool → Option RunFault → Option RunFault
unless_more true behind = Some faults.InputTooLong
unless_more false behind = behind

-- The fault, if there is one, that comes after the complete groups. There is none if `group`, the bytes of a further
-- group, is empty. Otherwise the fault is `Cut offset`, at the position `at`.
abbrev pub cut_group : Position → List ℕ → ℕ → Option RunFault
cut_group at [] offset = None
cut_group at (b ∷ group) offset = Some (faults.Refused at (refusals.Packed (cuts.Cut offset)))

module _ {X : Type 0} (f : Fold X) (x : X) (limit : ℕ) where
  -- A run over the packed `bytes` writes `text` and ends with `ending`, and `y` is the state after the messages. The
  -- complete groups of `bytes` unpack to `stream`, and at most `limit` bytes of `stream` are served.
  pub record IsDuePacked (bytes : List ℕ) (is_longer : Bool) (text : List ℕ) (ending : Result (Unit {0}) RunFault)
      (y : X) : Type 0 where
    pub stream : List ℕ
    pub group : List ℕ
    pub offset : ℕ
    pub split : packing.Splits bytes group [] stream offset
    pub due : IsFolded f x (taken_of limit stream)
        (unless_more (has_more limit stream) (unless_more is_longer (cut_group (f.place y) group offset))) text ending y

  -- After `Ok`, the messages of `bytes` have written `text`, and `y` is the state after them. After `Err e`, `e` is
  -- `Memory` or `Io`, or the messages of `bytes` have written `text` and their run ends with `e`.
  abbrev pub HasEndedPacked : List ℕ → Bool → Option (List ℕ) → Option (List ℕ) → Result (Unit {0}) RunFault → X
      → Type 0
  HasEndedPacked bytes is_longer old new (Ok u) y =
      (text : List ℕ) × IsDuePacked bytes is_longer text (Ok u) y × Appends old new text
  HasEndedPacked bytes is_longer old new (Err e) y =
      (e ≡ faults.Memory)
      ⊎ ((e ≡ faults.Io)
      ⊎ ((text : List ℕ) × (z : X) × IsDuePacked bytes is_longer text (Err e) z × Appends old new text
      × Leaves f z e y))

  -- `bytes` begin with some complete groups, which unpack to `stream`. A prefix of the joined texts of some messages at
  -- the start of `stream` was written. These messages are within the first `limit` bytes of `stream`.
  abbrev pub HasWrittenPacked : List ℕ → Option (List ℕ) → Option (List ℕ) → Type 0
  HasWrittenPacked bytes old new = (stream : List ℕ) × packing.Begins bytes [] stream × (parts : List Part)
      × (rest : List ℕ) × (y : X) × (count : ℕ) × AreParts f x (taken_of limit stream) parts rest y
      × Appends old new (take count (texts_of parts))

  -- The complete groups of `bytes` unpack to `stream`, and `stream` has at most `limit` bytes. The texts of the
  -- messages in `stream` were written, and no complete frame is in the bytes `rest` after these messages.
  abbrev pub HasWrittenAllPacked : List ℕ → Option (List ℕ) → Option (List ℕ) → Type 0
  HasWrittenAllPacked bytes old new = (stream : List ℕ) × (group : List ℕ) × (offset : ℕ)
      × packing.Splits bytes group [] stream offset × (length stream ≤ limit) × (parts : List Part) × (rest : List ℕ)
      × (y : X) × AreParts f x stream parts rest y × IsUnfinished rest f.most × Appends old new (texts_of parts)

  -- The complete groups of `bytes` unpack to `stream`. The complete messages of `stream` lead to a state that is not
  -- `done`.
  abbrev pub IsShortPacked : List ℕ → Type 0
  IsShortPacked bytes = (stream : List ℕ) × (group : List ℕ) × (offset : ℕ)
      × packing.Splits bytes group [] stream offset × IsShort f x limit stream

-- All definitions of this module are for a run that serves at most `most_packed` packed bytes and at most `limit`
-- unpacked bytes.
module _ {X : Type 0} (f : Fold X) (x : X) (most_packed limit : ℕ) where
  -- The run has ended with `ending` over the first `most_packed` bytes of `input`, and `y` is the state after the run.
  abbrev pub EndsPackedAs : Option (List ℕ) → Option (List ℕ) → Result (Unit {0}) RunFault → X → List ℕ → Type 0
  EndsPackedAs old new ending y input =
      HasEndedPacked f x limit (taken_of most_packed input) (has_more most_packed input) old new ending y

  -- A reader returned `bytes`, at most one byte more than `most_packed`, and a prefix of the texts of their messages
  -- was written. Before the last chunk was read, all messages before that chunk had written their texts, and the state
  -- was not `done`.
  pub record BeginsPacked (a b c d : Option (List ℕ)) : Type 0 where
    pub bytes : List ℕ
    pub read : Consumes a b bytes
    pub bounded : length bytes ≤ most_packed + 1
    pub lazy : IsAhead (HasWrittenAllPacked f x limit) bytes c d
    pub needed : IsNeeded (IsShortPacked f x limit) bytes
    pub written : HasWrittenPacked f x limit (taken_of most_packed bytes) c d

  -- A reader returned `bytes`. The texts of all messages in `bytes` were written, and the state `y` after these
  -- messages is not `done`.
  abbrev pub KeepsUpPacked : Option (List ℕ) → Option (List ℕ) → Option (List ℕ) → Option (List ℕ) → Type 0
  KeepsUpPacked a b c d = (bytes : List ℕ) × (text : List ℕ) × (ending : Result (Unit {0}) RunFault) × (y : X)
      × Consumes a b bytes × IfGoing (f.done y) (IsDuePacked f x limit (taken_of most_packed bytes)
      (has_more most_packed bytes) text ending y) × Appends c d text

  -- The effect of a run that ends with the result `r` and leaves the state `y`. `a` and `b` are the reader before and
  -- after the run, and `c` and `d` the writer.
  pub record RunsPacked (a b c d : Option (List ℕ)) (reader_failed writer_failed : Bool)
      (r : Result (Unit {0}) RunFault) (y : X) : Type 0 where
    pub exact : IfSome a (EndsPackedAs c d r y)
    pub io : (r ≡ Err faults.Io) ↔ ((reader_failed ≡ true) ⊎ (writer_failed ≡ true))
    pub begun : BeginsPacked a b c d
    pub heard : reader_failed ≡ true → KeepsUpPacked a b c d
    pub memory : r ≡ Err faults.Memory → TakesBytes a b
