-- The last comparison of a visit says of each word of an object, whatever its role there, what it says of one.
use Rattle.std.proofs.Common.{◌≡◌, ℕ, List, true, false, not, Option, Some, None, refl, ap, sym, ◌∙◌}
use Rattle.capn_words.specs.declared.space.Place.{Place}
use Rattle.capn_cover.specs.declared.comparison.Comparison.{Comparison}
use Rattle.capn_cover.specs.declared.covered.Role.{Role}
use Rattle.capn_cover.specs.declared.covered.Role.TheVariants as roles
use Rattle.capn_cover.specs.declared.part.Part.{Part}
use Rattle.capn_cover.specs.Numbers.{place_from}
use Rattle.capn_cover.specs.Parts.{differs, part, part_at, same_part}
use Rattle.capn_cover.specs.inner.Knows.{Knows, is_of_object}
use Rattle.capn_cover.proofs.SameParts.{same-part}

module _ (m : List (List ℕ)) where
  -- a visit covers words by no other part than itself
  pub itself : (slot : ℕ) (role : Role) → differs m slot role slot role ≡ false
  unfolding differs
  itself slot role = ap not (same-part (part m slot role))

  as-data : (role : Role) → is_of_object role ≡ true → (p : Option Place) → part_at m p role ≡ part_at m p roles.Data
  as-data roles.Root h p = absurd cc
  as-data roles.Pad h p = absurd cc
  as-data roles.Tag h (Some at) = refl
  as-data roles.Data h (Some at) = refl
  as-data roles.Slot h (Some at) = refl
  as-data roles.Numbers h (Some at) = refl
  as-data roles.Slack h (Some at) = refl
  as-data roles.Unreached h (Some at) = refl
  as-data roles.Tag h None = refl
  as-data roles.Data h None = refl
  as-data roles.Slot h None = refl
  as-data roles.Numbers h None = refl
  as-data roles.Slack h None = refl
  as-data roles.Unreached h None = refl

  -- a visit covers the words of its object by one part, whatever their roles
  one-part : (slot : ℕ) (r q : Role) → is_of_object r ≡ true → is_of_object q ≡ true → part m slot r ≡ part m slot q
  one-part slot r q h k = as-data r h (place_from 0 m slot) ∙ sym (as-data q k (place_from 0 m slot))

  -- what is known of one word of an object is known of each
  pub knows-as : (slot : ℕ) (role as_role : Role) (known : Comparison) → is_of_object role ≡ true
      → is_of_object as_role ≡ true → Knows m slot role known → Knows m slot as_role known
  unfolding differs
  knows-as slot role as_role known h k x = record {
    is = x.is ∙ ap (λ (p : Part). not (same_part (part m known.slot known.role) p)) (one-part slot role as_role h k);
  }

  -- the visit of the slot differs from an earlier one in each word of that one's object, if it does in one
  pub differs-as : (other : ℕ) (r q : Role) (slot : ℕ) (role : Role) → is_of_object r ≡ true → is_of_object q ≡ true
      → differs m other r slot role ≡ differs m other q slot role
  unfolding differs
  differs-as other r q slot role h k =
      ap (λ (p : Part). not (same_part p (part m slot role))) (one-part other r q h k)
