-- A run that picks messages: what is written, how the run ends, and how far the run reads. (Our own.)
use Rattle.std.specs.Prelude.{◌≡◌, ◌⊎◌, ◌↔◌, ℕ, ◌+◌, ◌-◌, ◌^◌, ◌<◌, ◌≤◌, List, [], length}
use Rattle.std.specs.Prelude.{Bool, true, Option, IfSome, Result, Ok, Err}
use Rattle.std.specs.Io.KnownBytes.{Consumes, Appends}
use Rattle.capn_pack.specs.PackedPieces as packing
use Rattle.capn_serve.specs.declared.fault.RunFault.{RunFault}
use Rattle.capn_serve.specs.declared.fault.RunFault.TheVariants as faults
use Rattle.capn_serve.specs.declared.pick.Pick.{Pick}
use Rattle.capn_serve.specs.declared.pick.Range.{Range}
use Rattle.capn_serve.specs.declared.pick.StreamForm.{StreamForm}
use Rattle.capn_serve.specs.declared.pick.StreamForm.TheVariants as forms
use Rattle.capn_serve.specs.Pick.{IsEnough, IsTooFew, Picking, last_of, pick_fold, ranges_of}
use Rattle.capn_serve.specs.StreamRun as streams
use Rattle.capn_serve.specs.StreamRun.{TakesBytes, first_run, has_more, taken_of}
use Rattle.capn_serve.specs.PackedRun as packings

-- The greatest number of bytes that a run serves. In a packed input this limit holds for packed and for unpacked bytes.
abbrev pub most_taken : ℕ
most_taken = 2 ^ 64 - 1

module _ (most : ℕ) (ranges : List Range) where
  -- A run over `bytes` writes the picked messages as `text`, and ends with `ending`. If the stream has at least
  -- `last_of ranges` messages, `ending` is `Ok`. Otherwise the end of the stream decides `ending`.
  abbrev pub IsPickedOf : StreamForm → List ℕ → Bool → List ℕ → Result (Unit {0}) RunFault → Type 0
  IsPickedOf forms.Stream bytes is_longer text ending =
      (IsEnough most ranges bytes text × (ending ≡ Ok tt))
      ⊎ ((y : Picking) × streams.IsDue (pick_fold most) (first_run ranges) most_taken bytes is_longer text ending y
      × (y.at.index < last_of ranges))
  IsPickedOf forms.Packed bytes is_longer text ending =
      ((stream : List ℕ) × packing.Begins bytes [] stream × IsEnough most ranges (taken_of most_taken stream) text
      × (ending ≡ Ok tt))
      ⊎ ((y : Picking)
      × packings.IsDuePacked (pick_fold most) (first_run ranges) most_taken bytes is_longer text ending y
      × (y.at.index < last_of ranges))

  -- A run over `input` writes the picked messages as `text`, and ends with `ending`.
  abbrev pub IsPicked : StreamForm → List ℕ → List ℕ → Result (Unit {0}) RunFault → Type 0
  IsPicked form input text ending =
      IsPickedOf form (taken_of most_taken input) (has_more most_taken input) text ending

  -- The result `r` is `Memory` or `Io`, or a run over `input` writes the picked messages as `text` and ends with `r`.
  -- In the last case `text` was written.
  abbrev pub EndsAs : StreamForm → Option (List ℕ) → Option (List ℕ) → Result (Unit {0}) RunFault → List ℕ → Type 0
  EndsAs form old new r input =
      (r ≡ Err faults.Memory)
      ⊎ ((r ≡ Err faults.Io) ⊎ ((text : List ℕ) × IsPicked form input text r × Appends old new text))

  -- A stream has fewer than `last_of ranges` complete messages. The stream is `bytes`, or for `Packed` the words of the
  -- complete groups of `bytes`.
  abbrev pub IsShort : StreamForm → List ℕ → Type 0
  IsShort forms.Stream bytes = IsTooFew most ranges bytes
  IsShort forms.Packed bytes = (stream : List ℕ) × (group : List ℕ) × (offset : ℕ)
      × packing.Splits bytes group [] stream offset × IsTooFew most ranges stream

  -- A prefix of the text that is picked from `bytes` was written.
  abbrev pub HasWritten : StreamForm → List ℕ → Option (List ℕ) → Option (List ℕ) → Type 0
  HasWritten forms.Stream bytes old new =
      streams.HasWritten (pick_fold most) (first_run ranges) most_taken (taken_of most_taken bytes) old new
  HasWritten forms.Packed bytes old new =
      packings.HasWrittenPacked (pick_fold most) (first_run ranges) most_taken (taken_of most_taken bytes) old new

  -- All picked messages of a stream were written, and no complete frame follows the messages of that stream. The stream
  -- is `bytes`, or for `Packed` the words of the complete groups of `bytes`.
  abbrev pub HasWrittenAll : StreamForm → List ℕ → Option (List ℕ) → Option (List ℕ) → Type 0
  HasWrittenAll forms.Stream bytes old new =
      streams.HasWrittenAll (pick_fold most) (first_run ranges) most_taken bytes old new
  HasWrittenAll forms.Packed bytes old new =
      packings.HasWrittenAllPacked (pick_fold most) (first_run ranges) most_taken bytes old new

  -- A reader returned `bytes`, in no more chunks than the run needs. A prefix of the text that is picked from `bytes`
  -- was written. Before the last chunk was read, all messages picked from the bytes before that chunk had been written.
  pub record Begins (form : StreamForm) (a b c d : Option (List ℕ)) : Type 0 where
    pub bytes : List ℕ
    pub read : Consumes a b bytes
    pub bounded : length bytes ≤ most_taken + 1
    pub ahead : streams.IsAhead (HasWrittenAll form) bytes c d
    pub needed : streams.IsNeeded (IsShort form) bytes
    pub written : HasWritten form bytes c d

  -- A reader returned some bytes, and all messages that are picked from these bytes were written.
  abbrev pub KeepsUp : StreamForm → Option (List ℕ) → Option (List ℕ) → Option (List ℕ) → Option (List ℕ) → Type 0
  KeepsUp forms.Stream a b c d = streams.KeepsUp (pick_fold most) (first_run ranges) most_taken a b c d
  KeepsUp forms.Packed a b c d =
      packings.KeepsUpPacked (pick_fold most) (first_run ranges) most_taken most_taken a b c d

  -- The effect of a run that ends with the result `r`. `a` and `b` are the reader before and after the run, and `c` and
  -- `d` the writer.
  pub record PicksRanges (form : StreamForm) (a b c d : Option (List ℕ)) (reader_failed writer_failed : Bool)
      (r : Result (Unit {0}) RunFault) : Type 0 where
    pub exact : IfSome a (EndsAs form c d r)
    pub io : (r ≡ Err faults.Io) ↔ ((reader_failed ≡ true) ⊎ (writer_failed ≡ true))
    pub begun : Begins form a b c d
    pub heard : reader_failed ≡ true → KeepsUp form a b c d
    pub memory : r ≡ Err faults.Memory → TakesBytes a b

-- The effect of a run with the options `p`. The run picks the messages from number `p.from` to number `p.to`.
abbrev pub Picks : ℕ → Pick → StreamForm → Option (List ℕ) → Option (List ℕ) → Option (List ℕ) → Option (List ℕ) → Bool
    → Bool → Result (Unit {0}) RunFault → Type 0
Picks most p = PicksRanges most (ranges_of p)
