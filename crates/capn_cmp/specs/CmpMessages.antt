-- The messages that `cmp` finds to differ from the first one. Two messages differ if their canonical bytes differ. (Our
-- own.)
use Rattle.std.specs.Prelude.{◌≡◌, ◌≢◌, ◌⊎◌, ℕ, ◌<◌, List, [], ◌∷◌, ◌++◌, codes, length, Bool, true, false, Result}
use Rattle.std.specs.Prelude.{Ok, Err, refl}
use Rattle.std.specs.Fmt.{digits}
use Rattle.capn_walk.specs.Limits.{Bounds}
use Rattle.capn_canon.specs.Denotes.{AnswersMessage}
use Rattle.capn_canon.specs.Refusal.{IsRefusedMessage}
use Rattle.capn_canon.specs.declared.refusal.Refusal.{Refusal}
use Rattle.capn_canon.specs.declared.refusal.Refusal.TheVariants as refusals
use Rattle.capn_serve.specs.FaultText.{place_text}
use Rattle.capn_serve.specs.declared.position.Position.{Position}
use Rattle.capn_serve.specs.declared.fault.ServeFault.{ServeFault}
use Rattle.capn_serve.specs.declared.fault.ServeFault.TheVariants as faults
use Rattle.capn_serve.specs.Outgoing.{Outgoing, Adds, AddsBeginning, BreaksWithin}
use Rattle.capn_cmp.specs.LinesApart.{AreApart}
use Rattle.capn_cmp.specs.ShownText.{IsShown}

-- The state of a comparison: the limits of each message, the canonical bytes of the first message, and whether a
-- message differed from the first.
pub record CmpState : Type 0 where
  pub limits : Bounds
  pub first : List ℕ
  pub differs : Bool

-- The state of a comparison before the first message.
abbrev pub first_state : Bounds → CmpState
first_state limits = record { limits = limits; first = []; differs = false }

-- `bytes` are the canonical bytes of `message`, which is accepted within `limits`.
abbrev pub IsForm : List (List ℕ) → Bounds → List ℕ → Type 0
IsForm message limits bytes = (price : ℕ) × AnswersMessage message limits bytes price

-- The report on the message at `at`. The first lines that differ are `line` in the text of the first message, and
-- `other` in the text of the message at `at`.
abbrev pub report : Position → List ℕ → List ℕ → List ℕ
report at line other =
    codes "message " ++ (place_text at ++ (codes " differs from message 1\n< " ++ (line ++ (codes "\n> "
    ++ (other ++ 10 ∷ [])))))

second : report (record { index = 1; offset = 24 }) (codes "0\t  word 0000000000000001") (codes "0\tnull")
    ≡ codes "message 2 at 24 differs from message 1\n< 0\t  word 0000000000000001\n> 0\tnull\n"
unfolding digits
second = refl

-- `text` is the report on the message at `at`. `first` and `bytes` are the canonical bytes of the first message and of
-- the message at `at`.
abbrev pub IsReport : Position → List ℕ → List ℕ → List ℕ → Type 0
IsReport at first bytes text =
    (shown : List ℕ) × (other : List ℕ) × (line : List ℕ) × (other_line : List ℕ)
    × IsShown first shown × IsShown bytes other × AreApart shown other line other_line
    × (text ≡ report at line other_line)

-- The message at the position `at` is the first. Nothing is written, and `t.first` is `bytes`, its canonical bytes.
abbrev pub Keeps : CmpState → Position → List ℕ → List ℕ → CmpState → Type 0
Keeps s at bytes text t =
    (at.index ≡ 0) × (text ≡ []) × (t ≡ record { limits = s.limits; first = bytes; differs = s.differs })

-- The message at the position `at` is not the first, and its canonical bytes `bytes` equal those of the first message.
-- Nothing is written.
abbrev pub Agrees : CmpState → Position → List ℕ → List ℕ → CmpState → Type 0
Agrees s at bytes text t = (at.index ≢ 0) × (bytes ≡ s.first) × (text ≡ []) × (t ≡ s)

-- The message at the position `at` is not the first, and its canonical bytes `bytes` differ from those of the first
-- message. `text` is the report on the message.
abbrev pub Differs : CmpState → Position → List ℕ → List ℕ → CmpState → Type 0
Differs s at bytes text t =
    (at.index ≢ 0) × (bytes ≢ s.first) × IsReport at s.first bytes text
    × (t ≡ record { limits = s.limits; first = s.first; differs = true })

-- The message at the position `at`, with the canonical bytes `bytes`, is the first message, agrees with the first, or
-- differs from the first.
abbrev pub Compares : CmpState → Position → List ℕ → List ℕ → CmpState → Type 0
Compares s at bytes text t = Keeps s at bytes text t ⊎ (Agrees s at bytes text t ⊎ Differs s at bytes text t)

-- `message` leads from the state `s` to `t` and writes `text`, as `Compares` states for its canonical bytes.
abbrev pub serves : CmpState → Position → List ℕ → List (List ℕ) → List ℕ → CmpState → Type 0
serves s at frame message text t = (bytes : List ℕ) × IsForm message s.limits bytes × Compares s at bytes text t

-- `r` refuses `message`, by its walk or for a capability. The refusal ends the run.
abbrev pub refuses : CmpState → Position → List ℕ → List (List ℕ) → Refusal → Type 0
refuses s at frame message r = IsRefusedMessage message s.limits r × (r ≢ refusals.Memory)

-- Tests whether a message differed from the first, so that no further message is served.
abbrev pub done : CmpState → Position → Bool
done s at = s.differs

-- A comparison of the canonical bytes `bytes` may need memory: the message at the position `at` is the first, or
-- `bytes` differ from the canonical bytes of the first message.
abbrev pub MayNeedMemory : CmpState → Position → List ℕ → Type 0
MayNeedMemory s at bytes = (at.index ≡ 0) ⊎ (bytes ≢ s.first)

-- After `Ok`, the message with the canonical bytes `bytes` was compared, and its `text` was added. After `Memory`,
-- `MayNeedMemory` holds, and nothing or a prefix of `text` was added. After `Io`, a prefix of `old.kept ++ text` was
-- written.
abbrev pub TriesToCompare : CmpState → Position → List ℕ → Outgoing → Outgoing → Bool → Result (Unit {0}) ServeFault
    → CmpState → Type 0
TriesToCompare s at bytes old new failed (Ok u) t =
    (text : List ℕ) × Compares s at bytes text t × Adds old new text × (failed ≡ false)
    × (length old.kept < 65536 → length new.kept < 65536)
TriesToCompare s at bytes old new failed (Err faults.Memory) t =
    (Adds old new [] ⊎ AddsBeginning (Compares s at bytes) old new) × MayNeedMemory s at bytes × (failed ≡ false)
TriesToCompare s at bytes old new failed (Err faults.Io) t =
    BreaksWithin (Compares s at bytes) old new × (failed ≡ true)
TriesToCompare s at bytes old new failed (Err (faults.Refused r)) t = ⊥
