-- The conditions before and after some bytes of a run are served.
use Rattle.std.specs.Prelude.{◌≡◌, ℕ, ◌+◌, ◌≤◌, List, ◌++◌, length, Bool, false, Result, IfErr}
use Rattle.capn_words.specs.Message.{most_message_words}
use Rattle.capn_pack.specs.PackedPieces.{Held}
use Rattle.capn_stream.specs.StreamPieces.{Framing}
use Rattle.capn_serve.specs.declared.fault.RunFault.{RunFault}
use Rattle.capn_serve.specs.Fold.{Fold}
use Rattle.capn_serve.specs.Outgoing.{Outgoing}
use Rattle.capn_serve.specs.ChunkRun.{HasRoom, IsListening, Serves, ServesNext}
use Rattle.capn_serve.specs.PackedChunkRun.{Pending, ServesPacked}
use Rattle.capn_serve.specs.inner.Holding.{Holds, HoldsPacked}

module _ {X : Type 0} (f : Fold X) (x : X) where
  -- Messages of `count` bytes in all can be served in the state `x`. The writer has not failed, `HasRoom` holds at the
  -- position `f.place x`, and `f.most` is at most `most_message_words`.
  pub record CanServe (count : ℕ) (failed : Bool) : Type 0 where
    pub small : f.most ≤ most_message_words
    pub fine : failed ≡ false
    pub room : HasRoom (f.place x) count

  -- `count` bytes can be served after the bytes in the framer `before`. `before` holds no complete message, and the
  -- state `x` is not `done`.
  pub record IsReady (before : Framing) (count : ℕ) (failed : Bool) : Type 0 where
    pub can : CanServe (length before.rest + count) failed
    pub going : f.done x ≡ false
    pub listening : IsListening f before

  -- The start of `bytes` was served, as `ServesNext` states. After an error, `Holds` states what the framer `after`
  -- holds.
  pub record HasServedNext (before : Framing) (bytes : List ℕ) (old new : Outgoing) (failed : Bool)
      (r : Result ℕ RunFault) (after : Framing) (y : X) : Type 0 where
    pub served : ServesNext f x before bytes old new failed r after y
    pub came : IfErr r (λ e. Holds f x (before.rest ++ bytes) e after.rest y)

  -- `bytes` were served, as `Serves` states. After an error, `Holds` states what the framer `after` holds.
  pub record HasServed (before : Framing) (bytes : List ℕ) (old new : Outgoing) (failed : Bool)
      (r : Result (Unit {0}) RunFault) (after : Framing) (y : X) : Type 0 where
    pub served : Serves f x before bytes old new failed r after y
    pub came : IfErr r (λ e. Holds f x (before.rest ++ bytes) e after.rest y)

  -- The packed `bytes` were served, as `ServesPacked` states. After an error, `HoldsPacked` states what the framer
  -- `after` holds.
  pub record HasServedPacked (before : Pending) (bytes : List ℕ) (old new : Outgoing) (failed : Bool)
      (r : Result (Unit {0}) RunFault) (held : Held) (after : Framing) (left : ℕ) (y : X) : Type 0 where
    pub served : ServesPacked f x before bytes old new failed r held after left y
    pub came : IfErr r (λ e. HoldsPacked f x before bytes e after.rest y)
