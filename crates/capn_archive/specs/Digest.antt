-- The digest of a message: the SHA-256 of its canonical bytes. (Our own.)
use Rattle.std.specs.Prelude.{◌≡◌, ◌≢◌, ℕ, List, Option, Some, None}
use Rattle.sha2.specs.Sha256.{sha256}
use Rattle.capn_walk.specs.Limits.{Bounds}
use Rattle.capn_canon.specs.Denotes.{AnswersMessage}
use Rattle.capn_canon.specs.Refusal.{IsRefusedMessage}
use Rattle.capn_canon.specs.declared.refusal.Refusal.{Refusal}
use Rattle.capn_canon.specs.declared.refusal.Refusal.TheVariants as refusals

-- `message` has canonical bytes within `limits`, and `digest` is the SHA-256 of these bytes.
abbrev pub IsDigest : List (List ℕ) → Bounds → List ℕ → Type 0
IsDigest message limits digest =
    (answer : List ℕ) × (price : ℕ) × AnswersMessage message limits answer price × (digest ≡ sha256 answer)

-- `message` has no digest, because `r` refuses the message within `limits`, by its walk or for a capability.
abbrev pub IsUndigested : List (List ℕ) → Bounds → Refusal → Type 0
IsUndigested message limits r = IsRefusedMessage message limits r × (r ≢ refusals.Memory)

-- `message` is accepted within `limits`. The last argument is the digest of `message`, or `None` if its value has a
-- capability.
abbrev pub IsDigestIfAny : List (List ℕ) → Bounds → Option (List ℕ) → Type 0
IsDigestIfAny message limits (Some digest) = IsDigest message limits digest
IsDigestIfAny message limits None = (index : ℕ) × IsRefusedMessage message limits (refusals.Capability index)
