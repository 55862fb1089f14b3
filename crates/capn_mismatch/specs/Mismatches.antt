-- The mismatch of a message with its canonical bytes: none, or the first reason why the message isn't canonical.
-- (Our own.)
use Rattle.std.specs.Prelude.{◌≡◌, ℕ, ◌<◌, List, [], ◌∷◌, length, Some, None, ⊤}
use Rattle.capn_words.specs.Message.{IsBare}
use Rattle.capn_value.specs.Tree.{Tree}
use Rattle.capn_value.specs.FirstCap.{first_cap}
use Rattle.capn_walk.specs.Limits.{Bounds}
use Rattle.capn_walk.specs.Accepted.{IsValueOf}
use Rattle.capn_layout.specs.Layout.{canon}
use Rattle.capn_canon.specs.Measure.{IsCanonicalOf}
use Rattle.capn_mismatch.specs.declared.answer.Mismatch.{Mismatch}
use Rattle.capn_mismatch.specs.declared.answer.Mismatch.TheVariants.{Canonical, Segments, Capability}
use Rattle.capn_mismatch.specs.declared.answer.Mismatch.TheVariants.{Word, After}
use Rattle.capn_mismatch.specs.Difference.{Differ, GoesOn}
use Rattle.capn_mismatch.specs.Capability.{IsFirstCapability}
use Rattle.capn_mismatch.specs.Owner.{IsOwner}

-- `message` is accepted within `limits` and has only the segment `words`. The message's value has no capability. The
-- canonical bytes are the bytes of the words `canonical`.
pub record Compares (message : List (List ℕ)) (limits : Bounds) (words canonical : List ℕ) : Type 0 where
  pub value : Tree
  pub is : IsValueOf message limits value
  pub free : first_cap value ≡ None
  pub one : message ≡ words ∷ []
  pub bare : IsBare (canon value) canonical

-- `Compares` holds of `message` with some `words` and `canonical`, and `Apart` holds of these two lists.
abbrev pub Compared : List (List ℕ) → Bounds → (List ℕ → List ℕ → Type 0) → Type 0
Compared message limits Apart =
    (words : List ℕ) × (canonical : List ℕ) × Compares message limits words canonical × Apart words canonical

module _ {A : Type 0} where
  -- `message` is accepted within `limits`, and what the mismatch says of `message` is true.
  abbrev pub IsMismatch : List (List ℕ) → Bounds → Mismatch A → Type 0
  IsMismatch message limits Canonical = (v : Tree) × IsValueOf message limits v × IsCanonicalOf message v
  IsMismatch message limits (Segments n) =
      (v : Tree) × IsValueOf message limits v × (n ≡ length message) × (1 < n)
  IsMismatch message limits (Capability k path) =
      (v : Tree) × IsValueOf message limits v × (length message ≡ 1) × (first_cap v ≡ Some k)
      × IsFirstCapability message limits k path.items
  IsMismatch message limits (Word w is c whose) =
      Compared message limits (λ words canonical. Differ words canonical w is c × IsOwner canonical limits w whose)
  IsMismatch message limits (After w is) =
      Compared message limits (λ words canonical. GoesOn words canonical w is)

  -- The mismatch says that the message is canonical.
  abbrev pub AnswersCanonical : Mismatch A → Type 0
  AnswersCanonical Canonical = ⊤
  AnswersCanonical d = ⊥

  -- The mismatch says that the message has more than one segment.
  abbrev pub AnswersSegments : Mismatch A → Type 0
  AnswersSegments (Segments n) = ⊤
  AnswersSegments d = ⊥

-- `message` is accepted within `limits`, has one segment, and isn't canonical.
pub record HasMismatch (message : List (List ℕ)) (limits : Bounds) : Type 0 where
  pub value : Tree
  pub is : IsValueOf message limits value
  pub one : length message ≡ 1
  pub not : IsCanonicalOf message value → ⊥

-- `message` is accepted within `limits`, has one segment and isn't canonical. The message's value has no capability.
abbrev pub HasCanonicalBytes : List (List ℕ) → Bounds → Type 0
HasCanonicalBytes message limits = (d : HasMismatch message limits) × (first_cap d.value ≡ None)
