-- The reasons why bytes in a form have no canonical bytes: the bytes are not read, the walk of the message stops, or
-- the value has a capability. (Our own: the order of the tests.)
use Rattle.std.specs.Prelude.{◌≡◌, ◌≢◌, ℕ, ◌+◌, List, Some, Err, ⊤}
use Rattle.capn_words.specs.Message.{ReadsBare}
use Rattle.capn_pack.specs.UnpackRefusal as packs
use Rattle.capn_pack.specs.declared.fault.UnpackFault.TheVariants as unpack_faults
use Rattle.capn_stream.specs.Frames.{most_table_words}
use Rattle.capn_stream.specs.FrameRefusal as frames
use Rattle.capn_stream.specs.declared.fault.FrameFault.TheVariants as frame_faults
use Rattle.capn_value.specs.Tree.{Tree}
use Rattle.capn_value.specs.FirstCap.{first_cap}
use Rattle.capn_walk.specs.Accepted as walks
use Rattle.capn_walk.specs.Limits.{Bounds}
use Rattle.capn_canon.specs.declared.form.Form.{Form}
use Rattle.capn_canon.specs.declared.form.Form.TheVariants as forms
use Rattle.capn_canon.specs.declared.refusal.Refusal.{Refusal}
use Rattle.capn_canon.specs.declared.refusal.Refusal.TheVariants as refusals
use Rattle.capn_canon.specs.Reads.{Reads, Trails, Unpacks}

-- The refusal says why `bs` are not exactly one frame of at most `most` words. `Frame` says why `bs` begin with no such
-- frame, and `Trailing` says that more bytes follow the frame.
abbrev pub IsMisframed : List ℕ → (most : ℕ) → Refusal → Type 0
IsMisframed bs most (refusals.Frame e) = (e ≢ frame_faults.Memory) × frames.IsFrameRefused bs most e
IsMisframed bs most (refusals.Trailing at) = Trails bs most at
IsMisframed bs most _ = ⊥

-- The refusal says why `bs` are not read as a message in the given form.
abbrev pub IsMisread : Form → List ℕ → (most : ℕ) → Refusal → Type 0
IsMisread forms.Bare bs most (refusals.Bare e) = ReadsBare bs (Err e)
IsMisread forms.Bare bs most _ = ⊥
IsMisread forms.Stream bs most r = IsMisframed bs most r
IsMisread forms.Packed bs most (refusals.Packed e) = (e ≢ unpack_faults.Memory)
    × packs.IsUnpackRefused bs (most + most_table_words) e
IsMisread forms.Packed bs most r = (text : List ℕ) × Unpacks bs most text × IsMisframed text most r

-- The refusal is `Memory`, or it says why `message` has no canonical bytes. `Walk` says where and why the walk stops.
-- `Capability` has the index of the first capability of the value.
abbrev pub IsRefusedMessage : List (List ℕ) → Bounds → Refusal → Type 0
IsRefusedMessage message limits (refusals.Walk s) = walks.IsWalkRefused message limits s.fault s.place s.paid s.visits
IsRefusedMessage message limits (refusals.Capability k) = (v : Tree) × walks.IsValueOf message limits v
    × (first_cap v ≡ Some k)
IsRefusedMessage message limits refusals.Memory = ⊤
IsRefusedMessage message limits _ = ⊥

-- The refusal is `Memory`, or it says why `bs` have no canonical bytes in `form`. `Walk` and `Capability` are true of
-- the message that `bs` are read as. Any other refusal says why `bs` are not read.
abbrev pub IsRefused : Form → List ℕ → Bounds → Refusal → Type 0
IsRefused form bs limits (refusals.Walk s) =
    (message : List (List ℕ)) × Reads form bs limits.message_words message
    × IsRefusedMessage message limits (refusals.Walk s)
IsRefused form bs limits (refusals.Capability k) =
    (message : List (List ℕ)) × Reads form bs limits.message_words message
    × IsRefusedMessage message limits (refusals.Capability k)
IsRefused form bs limits refusals.Memory = ⊤
IsRefused form bs limits r = IsMisread form bs limits.message_words r

-- If the refusal is `Walk`, its `paid` is at most `budget`, and its `visits` are at most `paid + 1`.
abbrev pub IsPaidWithin : ℕ → Refusal → Type 0
IsPaidWithin budget (refusals.Walk s) = walks.IsBounded budget s.paid s.visits
IsPaidWithin budget _ = ⊤

-- The refusal is `Memory`, or it is `Walk` and says why `message` is not accepted.
abbrev pub IsUnaccepted : List (List ℕ) → Bounds → Refusal → Type 0
IsUnaccepted message limits (refusals.Walk s) = walks.IsWalkRefused message limits s.fault s.place s.paid s.visits
IsUnaccepted message limits refusals.Memory = ⊤
IsUnaccepted message limits _ = ⊥

-- The refusal is true of `bs` (`IsRefused`), and is not `Capability`. So it is `Memory`, or it says why `bs` are not
-- read as a message that is accepted.
abbrev pub IsUnacceptedIn : Form → List ℕ → Bounds → Refusal → Type 0
IsUnacceptedIn form bs limits (refusals.Capability k) = ⊥
IsUnacceptedIn form bs limits r = IsRefused form bs limits r
