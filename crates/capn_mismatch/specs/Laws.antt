-- The law of mismatches: a message has at most one mismatch with its canonical bytes. (Our own.)
use Rattle.std.specs.Prelude.{◌≡◌, ℕ, List, ⊤}
use Rattle.capn_words.specs.Message.{IsMessage}
use Rattle.capn_walk.specs.Limits.{Bounds, AreLimits}
use Rattle.capn_mismatch.specs.declared.answer.Mismatch.{Mismatch}
use Rattle.capn_mismatch.specs.declared.answer.Mismatch.TheVariants.{Canonical, Segments, Capability, Word, After}
use Rattle.capn_mismatch.specs.declared.whose.Whose.{Whose}
use Rattle.capn_mismatch.specs.declared.whose.Whose.TheVariants.{Pointer, Tag, LastWord}
use Rattle.capn_mismatch.specs.Mismatches.{IsMismatch}

module _ {A : Type 0} where
  -- Both owners are of the same kind, and their paths have the same numbers.
  abbrev pub IsSameOwner : Whose A → Whose A → Type 0
  IsSameOwner (Pointer path) (Pointer other) = path.items ≡ other.items
  IsSameOwner (Tag path) (Tag other) = path.items ≡ other.items
  IsSameOwner (LastWord path) (LastWord other) = path.items ≡ other.items
  IsSameOwner whose other = ⊥

  -- Both mismatches are of the same kind, with the same numbers, words, path and kind of owner.
  abbrev pub IsSameMismatch : Mismatch A → Mismatch A → Type 0
  IsSameMismatch Canonical Canonical = ⊤
  IsSameMismatch (Segments n) (Segments k) = n ≡ k
  IsSameMismatch (Capability n path) (Capability k other) = (n ≡ k) × (path.items ≡ other.items)
  IsSameMismatch (Word w is c whose) (Word k x b other) = (w ≡ k) × (is ≡ x) × (c ≡ b) × IsSameOwner whose other
  IsSameMismatch (After w is) (After k x) = (w ≡ k) × (is ≡ x)
  IsSameMismatch d e = ⊥

-- If two mismatches are both true of `message` within `limits`, they are the same (`IsSameMismatch`). The message is
-- within the bounds of messages (`IsMessage`), and the limits are in their ranges (`AreLimits`).
abbrev pub MismatchesAreOne : Type 0 → Type 0
MismatchesAreOne A = (message : List (List ℕ)) (limits : Bounds) (d e : Mismatch A) → IsMessage message
    → AreLimits limits.message_words limits.budget limits.depth → IsMismatch message limits d
    → IsMismatch message limits e → IsSameMismatch d e
