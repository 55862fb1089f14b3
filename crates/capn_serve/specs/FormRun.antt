-- A run over an input in any of the three forms: what is written, how the run ends, and the state after the run. (Our
-- own.)
use Rattle.std.specs.Prelude.{◌≡◌, ◌⊎◌, ◌↔◌, ℕ, ◌+◌, ◌-◌, ◌^◌, ◌≤◌, List, [], length, Bool, true, Option, IfSome}
use Rattle.std.specs.Prelude.{Result, Ok, Err}
use Rattle.std.specs.Io.KnownBytes.{Consumes, Appends, IsAtEnd}
use Rattle.capn_canon.specs.declared.form.Form.{Form}
use Rattle.capn_canon.specs.declared.form.Form.TheVariants as forms
use Rattle.capn_serve.specs.declared.fault.RunFault.{RunFault}
use Rattle.capn_serve.specs.declared.fault.RunFault.TheVariants as faults
use Rattle.capn_serve.specs.declared.pick.StreamForm.{StreamForm}
use Rattle.capn_serve.specs.declared.pick.StreamForm.TheVariants as stream_forms
use Rattle.capn_serve.specs.Fold.{Fold, IfGoing, Leaves}
use Rattle.capn_serve.specs.StreamRun as streams
use Rattle.capn_serve.specs.StreamRun.{IsAhead, IsNeeded, TakesBytes}
use Rattle.capn_serve.specs.PackedRun as packings
use Rattle.capn_serve.specs.BareRun as bares
use Rattle.capn_serve.specs.WholeInput.{most_input}

-- The `Form` of an input that holds a stream in the given `StreamForm`.
abbrev pub form_of : StreamForm → Form
form_of stream_forms.Stream = forms.Stream
form_of stream_forms.Packed = forms.Packed

-- The greatest number of bytes that a stream may have.
abbrev pub most_stream : ℕ
most_stream = 2 ^ 64 - 1

-- The condition for a run to end with `Memory`. At least one byte was read, or the form is `Bare` and the input was
-- read to its end.
abbrev pub MayNeedMemory : Form → Option (List ℕ) → Option (List ℕ) → Type 0
MayNeedMemory forms.Stream a b = TakesBytes a b
MayNeedMemory forms.Packed a b = TakesBytes a b
MayNeedMemory forms.Bare a b = TakesBytes a b ⊎ IsAtEnd b

module _ {X : Type 0} (f : Fold X) (x : X) where
  -- The messages of `input` write `text`. A run over them ends with `ending`, and `y` is the state after them.
  abbrev pub AreMessages : Form → List ℕ → List ℕ → Result (Unit {0}) RunFault → X → Type 0
  AreMessages forms.Stream input text ending y =
      streams.IsDue f x most_stream (streams.taken_of most_stream input) (streams.has_more most_stream input) text
      ending y
  AreMessages forms.Packed input text ending y =
      packings.IsDuePacked f x most_stream (streams.taken_of most_stream input)
      (streams.has_more most_stream input) text ending y
  AreMessages forms.Bare input text (Ok u) y = bares.WritesBy f x (f.done x) input text y
  AreMessages forms.Bare input text (Err fault) y =
      IfGoing (f.done x) (bares.EndsBare f x input fault) × (text ≡ []) × (y ≡ x)

  -- `bytes` begin with some messages, and a prefix of the joined texts of these messages was written.
  abbrev pub HasWritten : Form → List ℕ → Option (List ℕ) → Option (List ℕ) → Type 0
  HasWritten forms.Stream bytes old new =
      streams.HasWritten f x most_stream (streams.taken_of most_stream bytes) old new
  HasWritten forms.Packed bytes old new =
      packings.HasWrittenPacked f x most_stream (streams.taken_of most_stream bytes) old new
  HasWritten forms.Bare bytes old new = bares.HasWritten f x bytes old new

  -- After `Ok`, the messages of `input` have written `text`, and `y` is the state after them. After `Err e`, `e` is
  -- `Memory` or `Io`, or the messages of `input` have written `text` and their run ends with `e`.
  abbrev pub MessagesEnd : Form → Option (List ℕ) → Option (List ℕ) → Result (Unit {0}) RunFault → X → List ℕ → Type 0
  MessagesEnd form old new (Ok u) y input =
      (text : List ℕ) × AreMessages form input text (Ok tt) y × Appends old new text
  MessagesEnd form old new (Err e) y input =
      (e ≡ faults.Memory)
      ⊎ ((e ≡ faults.Io)
      ⊎ ((text : List ℕ) × (z : X) × AreMessages form input text (Err e) z × Appends old new text × Leaves f z e y))

  -- `bytes` have at most one byte more than an input of the given form may have. For `Stream` and `Packed`, the texts
  -- of all messages before the last chunk of `bytes` were written.
  abbrev pub IsReadSoFar : Form → List ℕ → Option (List ℕ) → Option (List ℕ) → Type 0
  IsReadSoFar forms.Stream bytes old new = (length bytes ≤ most_stream + 1)
      × IsAhead (streams.HasWrittenAll f x most_stream) bytes old new
  IsReadSoFar forms.Packed bytes old new = (length bytes ≤ most_stream + 1)
      × IsAhead (packings.HasWrittenAllPacked f x most_stream) bytes old new
  IsReadSoFar forms.Bare bytes old new = length bytes ≤ most_input + 1

  -- No more chunks were read than the run needs. For `Stream` and `Packed`, `bytes` are empty, or the messages before
  -- the last chunk of `bytes` do not end the run. For `Bare`, `bytes` are empty if the state `x` is `done`.
  abbrev pub IsNeededSoFar : Form → List ℕ → Type 0
  IsNeededSoFar forms.Stream bytes = IsNeeded (streams.IsShort f x most_stream) bytes
  IsNeededSoFar forms.Packed bytes = IsNeeded (packings.IsShortPacked f x most_stream) bytes
  IsNeededSoFar forms.Bare bytes = f.done x ≡ true → bytes ≡ []

  -- A reader returned `bytes`, no more than `IsReadSoFar` and `IsNeededSoFar` allow. `HasWritten` states what was
  -- written for `bytes`.
  pub record BeginsMessages (form : Form) (a b c d : Option (List ℕ)) : Type 0 where
    pub bytes : List ℕ
    pub read : Consumes a b bytes
    pub bounded : IsReadSoFar form bytes c d
    pub needed : IsNeededSoFar form bytes
    pub written : HasWritten form bytes c d

  -- For `Stream` and `Packed`, a reader returned some bytes, and all texts of the messages in these bytes were written.
  -- The state after these messages is not `done`. For `Bare` nothing was written, and the state `x` is not `done`.
  abbrev pub KeepsUp : Form → Option (List ℕ) → Option (List ℕ) → Option (List ℕ) → Option (List ℕ) → Type 0
  KeepsUp forms.Stream a b c d = streams.KeepsUp f x most_stream a b c d
  KeepsUp forms.Packed a b c d = packings.KeepsUpPacked f x most_stream most_stream a b c d
  KeepsUp forms.Bare a b c d = IfGoing (f.done x) (Appends c d [])

  -- The effect of a run over an input in `form` that ends with the result `r` and leaves the state `y`. `a` and `b` are
  -- the reader before and after the run, and `c` and `d` the writer.
  pub record ServesMessages (form : Form) (a b c d : Option (List ℕ)) (reader_failed writer_failed : Bool)
      (r : Result (Unit {0}) RunFault) (y : X) : Type 0 where
    pub exact : IfSome a (MessagesEnd form c d r y)
    pub io : (r ≡ Err faults.Io) ↔ ((reader_failed ≡ true) ⊎ (writer_failed ≡ true))
    pub begun : BeginsMessages form a b c d
    pub heard : reader_failed ≡ true → KeepsUp form a b c d
    pub memory : r ≡ Err faults.Memory → MayNeedMemory form a b
