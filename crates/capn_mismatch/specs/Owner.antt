-- The owner of a word of canonical bytes. (Our own.)
use Rattle.std.specs.Prelude.{◌≡◌, ℕ, ◌+◌, ◌≤◌, List, [], ◌∷◌, Ok, ⊤}
use Rattle.capn_words.specs.declared.space.Place.{Place}
use Rattle.capn_words.specs.declared.pointer.Width.{Width}
use Rattle.capn_words.specs.declared.pointer.Width.TheVariants.{W1, W8, W16, W32}
use Rattle.capn_target.specs.declared.target.Target.{Target}
use Rattle.capn_target.specs.declared.target.Target.TheVariants as targets
use Rattle.capn_target.specs.declared.target.Shape.TheVariants as shapes
use Rattle.capn_target.specs.Target.{target, content_words}
use Rattle.capn_walk.specs.Limits.{Bounds}
use Rattle.capn_path.specs.Paths.{IsPathTo}
use Rattle.capn_mismatch.specs.declared.whose.Whose.{Whose}
use Rattle.capn_mismatch.specs.declared.whose.Whose.TheVariants.{Pointer, Tag, LastWord}

-- The place of word `w` of a message's only segment.
abbrev pub place : ℕ → Place
place w = record { segment = 0; word = w }

-- The target is a list of structs, and `word` is the tag of that list.
abbrev pub IsTag : ℕ → Target → Type 0
IsTag word (targets.Content s start (shapes.Rows n a b span) pads) = (s ≡ 0) × (start ≡ word)
IsTag word found = ⊥

-- Several elements of the width share a word. This holds for `W1`, `W8`, `W16` and `W32`.
abbrev pub IsSmall : Width → Type 0
IsSmall W1 = ⊤
IsSmall W8 = ⊤
IsSmall W16 = ⊤
IsSmall W32 = ⊤
IsSmall width = ⊥

-- The target is a list of small numbers (`IsSmall`), and `word` is the last word of that list.
abbrev pub IsLastWord : ℕ → Target → Type 0
IsLastWord word (targets.Content s start (shapes.Many width n) pads) =
    IsSmall width × (s ≡ 0) × (start ≤ word) × (start + content_words width n ≡ word + 1)
IsLastWord word found = ⊥

-- `path` leads from the root to a slot, and `Is` holds of the slot's target.
pub record LeadsTo (message : List (List ℕ)) (limits : Bounds) (path : List ℕ) (Is : Target → Type 0) : Type 0 where
  pub number : ℕ
  pub slot : Place
  pub leads : IsPathTo message limits number path slot
  pub found : Target
  pub names : target message slot ≡ Ok found
  pub is : Is found

module _ {A : Type 0} where
  -- The path leads to the slot that owns `word`. The word is that slot's pointer, or the tag or the last word of that
  -- slot's target.
  abbrev pub IsOwner : List ℕ → Bounds → ℕ → Whose A → Type 0
  IsOwner words limits word (Pointer path) =
      (number : ℕ) × IsPathTo (words ∷ []) limits number path.items (place word)
  IsOwner words limits word (Tag path) = LeadsTo (words ∷ []) limits path.items (IsTag word)
  IsOwner words limits word (LastWord path) = LeadsTo (words ∷ []) limits path.items (IsLastWord word)
