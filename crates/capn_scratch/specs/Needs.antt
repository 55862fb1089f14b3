-- The number of words of scratch that bytes in a form need. (Our own.)
use Rattle.std.specs.Prelude.{◌≡◌, ℕ, ◌+◌, ◌-◌, ◌*◌, ◌≤◌, List, length, nat_lt, if◌then◌else◌, ⊤}
use Rattle.capn_pack.specs.Packed.{Packs}
use Rattle.capn_stream.specs.FrameRefusal.{announced_segments}
use Rattle.capn_canon.specs.declared.form.Form.{Form}
use Rattle.capn_canon.specs.declared.form.Form.TheVariants as forms

-- The greatest number of segments whose ends are kept on the stack.
abbrev pub most_kept : ℕ
most_kept = 64

-- The number of words of scratch for the ends of `count` segments. It is 0 for at most 64 segments, and otherwise one
-- less than `count`.
abbrev pub table_need : ℕ → ℕ
table_need count = if nat_lt most_kept count then count - 1 else 0

-- `bs` need `n` words of scratch in the given form. Bare bytes need none. A frame needs words for the ends of its
-- segments, and a packed text also needs words for the unpacked frame.
abbrev pub Needs : Form → List ℕ → ℕ → Type 0
Needs forms.Bare bs n = n ≡ 0
Needs forms.Stream bs n = n ≡ table_need (announced_segments bs)
Needs forms.Packed bs n = (text : List ℕ) × Packs bs text
    × (8 * n ≡ length text + 8 * table_need (announced_segments text))

-- `bs` need at most `scratch` words of scratch.
abbrev pub HasScratch : Form → List ℕ → ℕ → Type 0
HasScratch form bs scratch = (n : ℕ) × Needs form bs n × (n ≤ scratch)

-- If the form is `Packed`, `bs` unpack to at most `scratch` words.
abbrev pub HoldsText : Form → List ℕ → ℕ → Type 0
HoldsText forms.Bare bs scratch = ⊤
HoldsText forms.Stream bs scratch = ⊤
HoldsText forms.Packed bs scratch = (text : List ℕ) × Packs bs text × (length text ≤ 8 * scratch)
