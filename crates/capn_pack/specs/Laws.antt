-- The laws of packed texts.
use Rattle.std.specs.Prelude.{◌≡◌, ◌≢◌, ℕ, ◌*◌, ◌≤◌, List, [], length, Option, false}
use Rattle.capn_pack.specs.Packed.{Packs}
use Rattle.capn_pack.specs.UnpackRefusal.{IsUnpackRefused}
use Rattle.capn_pack.specs.PackedPieces.{Splits, Held, Feeds}
use Rattle.capn_pack.specs.Calls.{IsReached, IsRun}
use Rattle.capn_pack.specs.declared.fault.UnpackFault.{UnpackFault}
use Rattle.capn_pack.specs.declared.fault.UnpackFault.TheVariants.{Memory}

-- The text `b` packs at most one list of bytes.
abbrev pub OneReading : Type 0
OneReading = (b vs ws : List ℕ) → Packs b vs → Packs b ws → vs ≡ ws

-- For a given `max`, the text `b` is refused for at most one reason other than `Memory`.
abbrev pub OneRefusal : Type 0
OneRefusal = (b : List ℕ) (max : ℕ) (e f : UnpackFault) → IsUnpackRefused b max e → IsUnpackRefused b max f → e ≢ Memory
    → f ≢ Memory → e ≡ f

-- A text `b` that packs at most `max` words is refused only for `Memory`.
abbrev pub PackedAreNotRefused : Type 0
PackedAreNotRefused = (b ws : List ℕ) (max : ℕ) (e : UnpackFault) → Packs b ws → length ws ≤ 8 * max
    → IsUnpackRefused b max e
    → e ≡ Memory

-- Every text `b` splits into complete groups and a `rest` that begins with no complete group.
abbrev pub EachSplits : Type 0
EachSplits = (b old : List ℕ) → (rest new : List ℕ) × (len : ℕ) × Splits b rest old new len

-- There is at most one way to split the text `b` into complete groups and a `rest` that begins with no complete group.
abbrev pub OneSplit : Type 0
OneSplit = (b rest other old new also : List ℕ) (len more : ℕ) → Splits b rest old new len
    → Splits b other old also more
    → (rest ≡ other) × (new ≡ also) × (len ≡ more)

-- However the bytes `text` are cut into pieces, an unpacker appends the same words, comes to the same state, and
-- `finish` then returns the same (`IsRun`).
abbrev pub HoweverCut : Type 0
HoweverCut = (start : Held) (old text : List ℕ) (pieces others : List (List ℕ)) (last other : Held) (new also : List ℕ)
    (e f : Option UnpackFault)
    → IsReached start → IsRun start old text pieces last new e → IsRun start old text others other also f
    → (new ≡ also) × (last ≡ other) × (e ≡ f)

-- `IsReached` holds of the state of a new unpacker.
abbrev pub NewIsReached : Type 0
NewIsReached = IsReached (record { rest = []; offset = 0; failed = false })

-- `IsReached` holds of each state that a call of `feed` leads to.
abbrev pub FedIsReached : Type 0
FedIsReached = (before after : Held) (piece old new : List ℕ) → Feeds before piece old new after → IsReached after
