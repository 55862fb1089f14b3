-- The laws of frames.
use Rattle.std.specs.Prelude.{◌≡◌, ◌≢◌, ℕ, List}
use Rattle.capn_stream.specs.Frames.{StandsFirst}
use Rattle.capn_stream.specs.FrameRefusal.{IsFrameRefused}
use Rattle.capn_stream.specs.StreamPieces.{Framing}
use Rattle.capn_stream.specs.Calls.{Call, given, IsRun}
use Rattle.capn_stream.specs.declared.fault.FrameFault.{FrameFault}
use Rattle.capn_stream.specs.declared.fault.FrameFault.TheVariants.{Memory}

-- bytes `bs` begin with the frame of at most one message, and this frame has one length, whatever number of words is
-- allowed
abbrev pub OneFrame : Type 0
OneFrame = (bs : List ℕ) (most limit : ℕ) (m n : List (List ℕ)) (taken len : ℕ)
    → StandsFirst bs most m taken → StandsFirst bs limit n len → (m ≡ n) × (taken ≡ len)

-- for a given `most`, the bytes `bs` are refused for at most one reason other than `Memory`
abbrev pub OneRefusal : Type 0
OneRefusal = (bs : List ℕ) (most : ℕ) (e f : FrameFault)
    → IsFrameRefused bs most e → IsFrameRefused bs most f → e ≢ Memory → f ≢ Memory → e ≡ f

-- bytes `bs` that begin with the frame of a message of at most `most` words are refused only for `Memory`
abbrev pub FramedAreNotRefused : Type 0
FramedAreNotRefused = (bs : List ℕ) (most : ℕ) (m : List (List ℕ)) (taken : ℕ) (e : FrameFault)
    → StandsFirst bs most m taken → IsFrameRefused bs most e → e ≡ Memory

-- however the bytes `bs` are cut into pieces, a framer gives the same messages of them, and no more follow for the same
-- reason (`IsRun`)
abbrev pub HoweverCut : Type 0
HoweverCut = (start : Framing) (bs : List ℕ) (calls others : List Call) (e f : FrameFault)
    → IsRun start bs calls e → IsRun start bs others f → (given calls ≡ given others) × (e ≡ f)
