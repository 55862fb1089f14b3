-- The calls of a framer in their order: the bytes that they receive, the messages that they give, and the reason why no
-- message follows. (Our own.)
use Rattle.std.specs.Prelude.{◌≡◌, ℕ, List, [], ◌∷◌, ◌++◌, take, Ok, Err, Some}
use Rattle.capn_stream.specs.FrameRefusal.{IsFrameRefused}
use Rattle.capn_stream.specs.StreamPieces.{Framing, FeedGives, TakeGives}
use Rattle.capn_stream.specs.declared.fault.FrameFault.{FrameFault}
use Rattle.capn_stream.specs.declared.fault.FrameFault.TheVariants.{Memory, Empty, TooManySegments, TooManyWords, Cut}
use Rattle.capn_stream.specs.declared.fault.FrameFault.TheVariants.{Failed}

-- a call that returns no error: `feed`, which receives the first `n` bytes of a piece, or `take`, which returns a
-- message
pub data Call : Type 0 where
  fed : (piece : List ℕ) (n : ℕ) → Call
  took : List (List ℕ) → Call

-- the clauses of `feed` and `take` allow that `calls` lead a framer from the state `before` to the state `after`
abbrev pub Lead : List Call → Framing → Framing → Type 0
Lead [] before after = after ≡ before
Lead (fed piece n ∷ calls) before after = (next : Framing) × FeedGives before piece (Ok n) next × Lead calls next after
Lead (took message ∷ calls) before after =
    (next : Framing) × TakeGives before (Some message) next × Lead calls next after

-- the bytes that the calls receive, one after another, without the borders of the pieces
abbrev pub received : List Call → List ℕ
received [] = []
received (fed piece n ∷ calls) = take n piece ++ received calls
received (took message ∷ calls) = received calls

-- the messages that the calls return
abbrev pub given : List Call → List (List (List ℕ))
given [] = []
given (fed piece n ∷ calls) = given calls
given (took message ∷ calls) = message ∷ given calls

-- a call of `feed` in the state `at` returns the error `e`, for a piece that is the beginning of `more`
abbrev pub FailsWithin : Framing → List ℕ → FrameFault → Type 0
FailsWithin at more e =
    (piece rest : List ℕ) × (after : Framing) × (more ≡ piece ++ rest) × FeedGives at piece (Err e) after

-- The reason why a framer in the state `at` gives no message of the bytes `more`. For `Empty` and `Cut`, there are no
-- more bytes, and the framer has none, or the beginning of a frame. For the other reasons, `feed` returns the error.
abbrev pub EndsBy : Framing → List ℕ → FrameFault → Type 0
EndsBy at more Empty = (more ≡ []) × IsFrameRefused at.rest at.most Empty
EndsBy at more Cut = (more ≡ []) × IsFrameRefused at.rest at.most Cut
EndsBy at more (TooManySegments n) = FailsWithin at more (TooManySegments n)
EndsBy at more (TooManyWords n) = FailsWithin at more (TooManyWords n)
EndsBy at more Memory = ⊥
EndsBy at more Failed = ⊥

-- A framer in the state `start` is fed the bytes `bs`, in pieces, by `calls`. After these calls no message follows, and
-- `e` is the reason.
pub record IsRun (start : Framing) (bs : List ℕ) (calls : List Call) (e : FrameFault) : Type 0 where
  pub last : Framing
  pub more : List ℕ
  pub leads : Lead calls start last
  pub all : bs ≡ received calls ++ more
  pub ends : EndsBy last more e
