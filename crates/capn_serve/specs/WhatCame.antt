-- The bytes that were read of the message at which a run stopped. (Our own.)
use Rattle.std.specs.Prelude.{◌≡◌, ◌⊎◌, ℕ, ◌<◌, List, [], ◌++◌, length, ⊤}
use Rattle.capn_pack.specs.PackedPieces as packing
use Rattle.capn_pack.specs.declared.fault.UnpackFault.TheVariants as cuts
use Rattle.capn_stream.specs.StreamPieces.{IsUnfinished}
use Rattle.capn_stream.specs.FrameRefusal.{IsFrameRefused}
use Rattle.capn_stream.specs.declared.fault.FrameFault.TheVariants as frames
use Rattle.capn_canon.specs.declared.form.Form.{Form}
use Rattle.capn_canon.specs.declared.form.Form.TheVariants as forms
use Rattle.capn_canon.specs.declared.refusal.Refusal.TheVariants as refusals
use Rattle.capn_serve.specs.declared.position.Position.{Position}
use Rattle.capn_serve.specs.declared.fault.RunFault.{RunFault}
use Rattle.capn_serve.specs.declared.fault.RunFault.TheVariants as faults
use Rattle.capn_serve.specs.Fold.{Fold, Part, AreParts, RefusesOne}
use Rattle.capn_serve.specs.StreamRun.{taken_of}
use Rattle.capn_serve.specs.FormRun.{most_stream}

-- The bytes that a run holds when it ends: `rest` of an unfinished message, and `group` of an unfinished packed group.
pub record Came : Type 0 where
  pub rest : List ℕ
  pub group : List ℕ

-- `fault` is the refusal of some message in some state.
abbrev pub IsOwnRefusal : {X : Type 0} → Fold X → RunFault → Type 0
IsOwnRefusal {X} f fault = (z : X) × RefusesOne f z fault

module _ {X : Type 0} (f : Fold X) (x : X) where
  -- `bytes` are messages that lead to the state `y`, followed by `came` and `more`.
  abbrev pub ComesAfter : List ℕ → List ℕ → List ℕ → X → Type 0
  ComesAfter bytes came more y = (parts : List Part) × AreParts f x bytes parts (came ++ more) y

  -- `bytes` are messages that lead to the state `y`, followed by `came`. `came` is an incomplete frame.
  abbrev pub HoldsAll : List ℕ → List ℕ → X → Type 0
  HoldsAll bytes came y = ComesAfter bytes came [] y × IsFrameRefused came f.most frames.Cut

  -- `bytes` are messages that lead to the state `y`, followed by `came` and `more`. The segment table at the start of
  -- `came` announces `n` words, which are more than `f.most`.
  abbrev pub HoldsTable : List ℕ → ℕ → List ℕ → X → Type 0
  HoldsTable bytes n came y =
      (more : List ℕ) × ComesAfter bytes came more y × IsFrameRefused came f.most (frames.TooManyWords n)

  -- If `fault` refuses a frame with `Cut`, `came` is that frame, at the end of `bytes`. If `fault` refuses a frame with
  -- `TooManyWords`, `came` is the start of that frame, with its segment table.
  pub record TellsStream (bytes : List ℕ) (fault : RunFault) (came : List ℕ) (y : X) : Type 0 where
    pub cut : (at : Position) → fault ≡ faults.Refused at (refusals.Frame frames.Cut) → HoldsAll bytes came y
    pub words : (at : Position) (n : ℕ) → fault ≡ faults.Refused at (refusals.Frame (frames.TooManyWords n))
        → HoldsTable bytes n came y

  -- If `fault` refuses a group with `Cut`, `came.group` is that group, and `came.rest` is the unfinished message before
  -- it. If `fault` refuses a frame with `Cut`, `came.rest` is that frame. If `fault` refuses a frame with
  -- `TooManyWords`, `came.rest` is the start of that frame, with its segment table.
  pub record TellsGroups (limit : ℕ) (bytes : List ℕ) (fault : RunFault) (came : Came) (y : X) : Type 0 where
    pub group : (at : Position) (o : ℕ) → fault ≡ faults.Refused at (refusals.Packed (cuts.Cut o))
        → (stream : List ℕ) × packing.Splits bytes came.group [] stream o × (0 < length came.group)
        × ComesAfter stream came.rest [] y × IsUnfinished came.rest f.most
    pub cut : (at : Position) → fault ≡ faults.Refused at (refusals.Frame frames.Cut)
        → (stream : List ℕ) × (len : ℕ) × packing.Splits bytes [] [] stream len × HoldsAll stream came.rest y
    pub words : (at : Position) (n : ℕ) → fault ≡ faults.Refused at (refusals.Frame (frames.TooManyWords n))
        → (stream : List ℕ) × packing.Begins bytes [] stream × HoldsTable (taken_of limit stream) n came.rest y

  -- `TellsStream` or `TellsGroups` states what `came` holds of the message or group at which a run over `input` stopped
  -- with `fault`. Nothing is stated if the form is `Bare`, or if `fault` is the refusal of a complete message.
  abbrev pub TellsInput : Form → List ℕ → RunFault → Came → X → Type 0
  TellsInput forms.Stream input fault came y =
      IsOwnRefusal f fault ⊎ TellsStream (taken_of most_stream input) fault came.rest y
  TellsInput forms.Packed input fault came y =
      IsOwnRefusal f fault ⊎ TellsGroups most_stream (taken_of most_stream input) fault came y
  TellsInput forms.Bare input fault came y = ⊤
