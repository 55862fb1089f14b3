-- The last comparison of a visit with an earlier one.
use Rattle.std.specs.Prelude.{◌≡◌, ℕ, Bool, true, false, List}
use Rattle.capn_cover.specs.declared.comparison.Comparison.{Comparison}
use Rattle.capn_cover.specs.declared.covered.Role.{Role}
use Rattle.capn_cover.specs.declared.covered.Role.TheVariants as roles
use Rattle.capn_cover.specs.Parts.{differs}

-- a word in the given role is covered by neither the message itself nor a landing pad: an object covers it, or it is
-- unreached
abbrev pub is_of_object : Role → Bool
is_of_object roles.Root = false
is_of_object roles.Pad = false
is_of_object _ = true

-- the comparison says whether the visit of the slot, which covers words in the given role, covers them by another part
-- than the earlier visit
pub record Knows (message : List (List ℕ)) (slot : ℕ) (role : Role) (known : Comparison) : Type 0 where
  pub is : known.differs ≡ differs message known.slot known.role slot role
