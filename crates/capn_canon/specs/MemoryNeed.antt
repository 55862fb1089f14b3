-- The cases in which memory may be needed to survey a message, and to lay out its value. (Our own.)
use Rattle.std.specs.Prelude.{◌≡◌, ◌⊎◌, ℕ, ◌+◌, List, None}
use Rattle.capn_pack.specs.UnpackRefusal.{StartsWithin}
use Rattle.capn_stream.specs.Frames.{most_table_words}
use Rattle.capn_stream.specs.FrameRefusal.{HasTable}
use Rattle.capn_value.specs.Tree.{Tree}
use Rattle.capn_value.specs.FirstCap.{first_cap}
use Rattle.capn_walk.specs.Accepted.{IsValueOf}
use Rattle.capn_walk.specs.Limits.{Bounds}
use Rattle.capn_canon.specs.Denotes.{Denotes}
use Rattle.capn_canon.specs.declared.form.Form.{Form}
use Rattle.capn_canon.specs.declared.form.Form.TheVariants as forms

-- Reading `bs` in the given form may need memory. In `Bare` it never does. In `Stream` it may if `bs` begin with a
-- complete frame of more than 64 segments and at most `limits.message_words` words (`HasTable`). In `Packed` it may if
-- `bs` begin with a complete group of at most `limits.message_words + most_table_words` words.
abbrev pub MayNeedMemory : Form → List ℕ → Bounds → Type 0
MayNeedMemory forms.Bare bs limits = ⊥
MayNeedMemory forms.Stream bs limits = HasTable bs limits.message_words
MayNeedMemory forms.Packed bs limits = StartsWithin bs (limits.message_words + most_table_words)

-- Laying out the value of `message` may need memory: `message` is accepted, and its value has no capability.
abbrev pub MayNeedBytes : List (List ℕ) → Bounds → Type 0
MayNeedBytes message limits = (v : Tree) × IsValueOf message limits v × (first_cap v ≡ None)

-- Canonicalising `bs` may need memory. Either reading `bs` may need it, or `bs` denote a value without capabilities,
-- which is laid out.
abbrev pub MayNeedBytesIn : Form → List ℕ → Bounds → Type 0
MayNeedBytesIn form bs limits =
    MayNeedMemory form bs limits ⊎ ((v : Tree) × Denotes form bs limits v × (first_cap v ≡ None))
