-- A run over a bare input, which is one message: what is written, how the run ends, and the state after the run. (Our
-- own.)
use Rattle.std.specs.Prelude.{◌≡◌, ◌⊎◌, ◌↔◌, ℕ, ◌+◌, ◌<◌, ◌≤◌, List, [], ◌∷◌, length, take, Bool, true}
use Rattle.std.specs.Prelude.{false, Option, IfSome, Result, Ok, Err, Vec}
use Rattle.std.specs.Io.KnownBytes.{Consumes, Appends, IsAtEnd}
use Rattle.capn_words.specs.Message.{IsBare, ReadsBare}
use Rattle.capn_words.specs.declared.bare.BareFault.{BareFault}
use Rattle.capn_canon.specs.declared.refusal.Refusal.{Refusal}
use Rattle.capn_canon.specs.declared.refusal.Refusal.TheVariants as refusals
use Rattle.capn_serve.specs.declared.position.Position.{Position}
use Rattle.capn_serve.specs.declared.fault.RunFault.{RunFault}
use Rattle.capn_serve.specs.declared.fault.RunFault.TheVariants as faults
use Rattle.capn_serve.specs.Fold.{Fold, IfGoing, Leaves}
use Rattle.capn_serve.specs.Outgoing.{Outgoing, Adds}
use Rattle.capn_serve.specs.ChunkRun.{AddsMessage}
use Rattle.capn_serve.specs.StreamRun.{TakesBytes}
use Rattle.capn_serve.specs.WholeInput.{most_input}

-- `bytes` are not one segment, and `fault` refuses them at the position `at`.
abbrev pub IsUnbare : Position → List ℕ → RunFault → Type 0
IsUnbare at bytes fault = (e : BareFault) × (fault ≡ faults.Refused at (refusals.Bare e)) × ReadsBare bytes (Err e)

-- The result is `Ok` with all of the bare input `bytes`, or a fault that refuses `bytes` at the position `at`.
abbrev pub IsShortBare : {A : Type 0} → Position → List ℕ → Result (Vec ℕ A) RunFault → Type 0
IsShortBare at bytes (Ok held) = bytes ≡ held.items
IsShortBare at bytes (Err fault) = IsUnbare at bytes fault

module _ {X : Type 0} (f : Fold X) (x : X) where
  -- `bytes` are one segment. In the state `x`, the message with this segment writes `text` and leads to the state `y`.
  -- The frame of the message is `bytes` itself.
  abbrev pub WritesBare : List ℕ → List ℕ → X → Type 0
  WritesBare bytes text y = (words : List ℕ) × IsBare bytes words × f.step x bytes (words ∷ []) text y

  -- `bytes` are one segment, and the message of that segment is refused with `fault` in the state `x`.
  abbrev pub RefusesBare : List ℕ → RunFault → Type 0
  RefusesBare bytes fault = (words : List ℕ) × (r : Refusal) × IsBare bytes words × f.refuses x bytes (words ∷ []) r
      × (fault ≡ faults.Refused (f.place x) r)

  -- If the length of `bytes` is above `most_input`, `fault` is `InputTooLong`. Otherwise `fault` says that `bytes` are
  -- not one segment, or that their message is refused.
  abbrev pub EndsBare : List ℕ → RunFault → Type 0
  EndsBare bytes fault = ((most_input < length bytes) × (fault ≡ faults.InputTooLong))
      ⊎ ((length bytes ≤ most_input) × (IsUnbare (f.place x) bytes fault ⊎ RefusesBare bytes fault))

  -- The first argument says whether the state `x` is `done`. If it is `true`, `text` is empty and `y` is `x`. Otherwise
  -- `bytes` have at most `most_input` bytes, and their message writes `text` and leads to the state `y`.
  abbrev pub WritesBy : Bool → List ℕ → List ℕ → X → Type 0
  WritesBy true bytes text y = (text ≡ []) × (y ≡ x)
  WritesBy false bytes text y = (length bytes ≤ most_input) × WritesBare bytes text y

  -- `bytes` are one segment, and `AddsMessage` holds for their message. Or `bytes` are not one segment, as `fault`
  -- says. Then nothing was added, and `y` is `x`.
  abbrev pub ServesBare : List ℕ → Outgoing → Outgoing → Bool → Result (Unit {0}) RunFault → X → Type 0
  ServesBare bytes old new failed (Ok u) y =
      (words : List ℕ) × IsBare bytes words × AddsMessage f x bytes (words ∷ []) old new failed (Ok u) y
  ServesBare bytes old new failed (Err fault) y =
      ((words : List ℕ) × IsBare bytes words × AddsMessage f x bytes (words ∷ []) old new failed (Err fault) y)
      ⊎ (IsUnbare (f.place x) bytes fault × Adds old new [] × (failed ≡ false) × (x ≡ y))

  -- After `Ok`, the text of `input` was written, and `y` is the state after `input`. After `Err e`, `e` is `Memory` or
  -- `Io`, or nothing was written and `EndsBare` holds for `input` and `e`.
  abbrev pub EndsAs : Option (List ℕ) → Option (List ℕ) → Result (Unit {0}) RunFault → X → List ℕ → Type 0
  EndsAs old new (Ok u) y input = (text : List ℕ) × WritesBy (f.done x) input text y × Appends old new text
  EndsAs old new (Err e) y input =
      (e ≡ faults.Memory)
      ⊎ ((e ≡ faults.Io) ⊎ (IfGoing (f.done x) (EndsBare input e) × Appends old new [] × Leaves f x e y))

  -- Nothing was written for `bytes`, or a prefix of the text of their message.
  abbrev pub HasWritten : List ℕ → Option (List ℕ) → Option (List ℕ) → Type 0
  HasWritten bytes old new = Appends old new []
      ⊎ ((text : List ℕ) × (y : X) × (count : ℕ) × WritesBare bytes text y × Appends old new (take count text))

  -- A reader returned `bytes`, at most one byte more than `most_input`, and none if the state `x` is `done`. Nothing
  -- was written for `bytes`, or a prefix of the text of their message.
  pub record Begins (a b c d : Option (List ℕ)) : Type 0 where
    pub bytes : List ℕ
    pub read : Consumes a b bytes
    pub bounded : length bytes ≤ most_input + 1
    pub needed : f.done x ≡ true → bytes ≡ []
    pub written : HasWritten bytes c d

  -- The effect of a run that ends with the result `r` and leaves the state `y`. `a` and `b` are the reader before and
  -- after the run, and `c` and `d` the writer.
  pub record RunsBare (a b c d : Option (List ℕ)) (reader_failed writer_failed : Bool) (r : Result (Unit {0}) RunFault)
      (y : X) : Type 0 where
    pub exact : IfSome a (EndsAs c d r y)
    pub io : (r ≡ Err faults.Io) ↔ ((reader_failed ≡ true) ⊎ (writer_failed ≡ true))
    pub begun : Begins a b c d
    pub heard : reader_failed ≡ true → IfGoing (f.done x) (Appends c d [])
    pub memory : r ≡ Err faults.Memory → TakesBytes a b ⊎ IsAtEnd b
