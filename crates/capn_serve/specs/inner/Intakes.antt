-- The relations `takes` and `gives` of the two types with the trait `Intake`, for a stream and for a packed stream.
use Rattle.std.specs.Prelude.{◌≡◌, ◌⊎◌, ℕ, List, Bool, Option, Result, IfErr}
use Rattle.capn_pack.specs.PackedPieces.{Held}
use Rattle.capn_stream.specs.StreamPieces.{Framing}
use Rattle.capn_serve.specs.declared.fault.RunFault.{RunFault}
use Rattle.capn_serve.specs.Fold.{Fold}
use Rattle.capn_serve.specs.Outgoing.{sent}
use Rattle.capn_serve.specs.ChunkRun.{HasRoom, IsListening, Tells}
use Rattle.capn_serve.specs.StreamRun.{HasEnded, HasWritten, start}
use Rattle.capn_serve.specs.PackedRun.{HasEndedPacked, HasWrittenPacked}
use Rattle.capn_serve.specs.PackedChunkRun.{TellsPacked, fresh, pending}
use Rattle.capn_serve.specs.WhatCame.{IsOwnRefusal, TellsGroups, TellsStream}

module _ {X : Type 0} (f : Fold X) (x : X) where
  -- `bytes` begin at the start of a stream. Messages at the start of `bytes` were served, and the framer `now` holds
  -- the bytes after these messages.
  abbrev pub TakesStream : Framing → X → List ℕ → Option (List ℕ) → Option (List ℕ) → Type 0
  TakesStream now y bytes c d = (f.place x ≡ start) × Tells f x bytes now.rest (sent c) (sent d) y × IsListening f now

  -- `fault` is the refusal of a message, or `TellsStream` states what `came` holds of the message at which the run
  -- stopped.
  abbrev pub CameOf : List ℕ → RunFault → List ℕ → X → Type 0
  CameOf bytes fault came y = IsOwnRefusal f fault ⊎ TellsStream f x bytes fault came y

  -- A run over `bytes` has ended with `r`, and a prefix of the texts of the messages in `bytes` was written. After a
  -- fault, `CameOf` states what the framer `now` holds.
  abbrev pub GivesStream : Framing → X → List ℕ → Bool → Option (List ℕ) → Option (List ℕ)
      → Result (Unit {0}) RunFault → Type 0
  GivesStream now y bytes is_longer c d r = HasEnded f x 0 bytes is_longer c d r y × HasWritten f x 0 bytes c d
      × IfErr r (λ e. CameOf bytes e now.rest y)

  module _ (limit : ℕ) where
    -- The packed `bytes` were read from the state `fresh limit` on, and their messages were served. `held`, `now` and
    -- `left` are the state after `bytes`.
    abbrev pub TakesPacked : Held → Framing → ℕ → X → List ℕ → Option (List ℕ) → Option (List ℕ) → Type 0
    TakesPacked held now left y bytes c d = HasRoom (f.place x) limit
        × TellsPacked f x (fresh limit) bytes (pending held now left) (sent c) (sent d) y × IsListening f now

    -- `fault` is the refusal of a message, or `TellsGroups` states what `came` and `group` hold when a run stops with
    -- `fault`.
    abbrev pub CameOfPacked : List ℕ → RunFault → List ℕ → List ℕ → X → Type 0
    CameOfPacked bytes fault came group y =
        IsOwnRefusal f fault ⊎ TellsGroups f x limit bytes fault (record { rest = came; group = group }) y

    -- A run over the packed `bytes` has ended with `r`, and a prefix of the texts of their messages was written. After
    -- a fault, `CameOfPacked` states what the framer `now` and the unpacker `held` hold.
    abbrev pub GivesPacked : Held → Framing → X → List ℕ → Bool → Option (List ℕ) → Option (List ℕ)
        → Result (Unit {0}) RunFault → Type 0
    GivesPacked held now y bytes is_longer c d r = HasEndedPacked f x limit bytes is_longer c d r y
        × HasWrittenPacked f x limit bytes c d × IfErr r (λ e. CameOfPacked bytes e now.rest held.rest y)
