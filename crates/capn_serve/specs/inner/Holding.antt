-- The bytes that a framer holds of a message whose frame is refused before the end of an input.
use Rattle.std.specs.Prelude.{◌≡◌, ◌⊎◌, ℕ, List, [], ◌++◌}
use Rattle.capn_pack.specs.PackedPieces as packing
use Rattle.capn_pack.specs.declared.fault.UnpackFault.TheVariants as cuts
use Rattle.capn_stream.specs.declared.fault.FrameFault.TheVariants as frames
use Rattle.capn_canon.specs.declared.refusal.Refusal.TheVariants as refusals
use Rattle.capn_serve.specs.declared.position.Position.{Position}
use Rattle.capn_serve.specs.declared.fault.RunFault.{RunFault}
use Rattle.capn_serve.specs.declared.fault.RunFault.TheVariants as faults
use Rattle.capn_serve.specs.Fold.{Fold}
use Rattle.capn_serve.specs.StreamRun.{taken_of}
use Rattle.capn_serve.specs.PackedChunkRun.{Pending}
use Rattle.capn_serve.specs.WhatCame.{HoldsTable, IsOwnRefusal}

-- `fault` is `Memory`, `Io`, or the refusal of a message.
abbrev pub IsOfMessage : {X : Type 0} → Fold X → RunFault → Type 0
IsOfMessage f fault = (fault ≡ faults.Memory) ⊎ ((fault ≡ faults.Io) ⊎ IsOwnRefusal f fault)

-- `fault` refuses no frame with `Cut` and no packed group with `Cut`. These two faults are found only at the end of an
-- input.
pub record IsWithin (fault : RunFault) : Type 0 where
  pub frame : (at : Position) → fault ≡ faults.Refused at (refusals.Frame frames.Cut) → ⊥
  pub group : (at : Position) (o : ℕ) → fault ≡ faults.Refused at (refusals.Packed (cuts.Cut o)) → ⊥

module _ {X : Type 0} (f : Fold X) (x : X) where
  -- `fault` is the refusal of a message, or `IsWithin` holds. In the second case, if `fault` refuses a frame with
  -- `TooManyWords`, `came` is the start of that frame, with its segment table.
  abbrev pub Holds : List ℕ → RunFault → List ℕ → X → Type 0
  Holds stream fault came y = IsOwnRefusal f fault
      ⊎ (IsWithin fault × ((at : Position) (n : ℕ)
      → fault ≡ faults.Refused at (refusals.Frame (frames.TooManyWords n)) → HoldsTable f x stream n came y))

  -- `fault` is the refusal of a message, or `IsWithin` holds. In the second case, if `fault` refuses a frame with
  -- `TooManyWords`, `came` is the start of that frame. The frame is in the words that the packed `bytes` unpack to.
  abbrev pub HoldsPacked : Pending → List ℕ → RunFault → List ℕ → X → Type 0
  HoldsPacked before bytes fault came y = IsOwnRefusal f fault
      ⊎ (IsWithin fault × ((at : Position) (n : ℕ)
      → fault ≡ faults.Refused at (refusals.Frame (frames.TooManyWords n)) → (stream : List ℕ)
      × packing.Begins (before.group.rest ++ bytes) [] stream
      × HoldsTable f x (before.rest ++ taken_of before.left stream) n came y))
