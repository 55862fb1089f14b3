-- The results of the tests whether bare bytes are canonical.
use Rattle.std.specs.Prelude.{◌≡◌, ◌↔◌, ℕ, List, [], ◌∷◌, None, Bool}
use Rattle.std.specs.Bool.{IsTrue}
use Rattle.capn_words.specs.Message.{bytes}
use Rattle.capn_value.specs.Tree.{Tree}
use Rattle.capn_value.specs.FirstCap.{first_cap}
use Rattle.capn_walk.specs.Accepted.{IsValueOf, paid, number_of_visits}
use Rattle.capn_walk.specs.Limits.{Bounds}
use Rattle.capn_canon.specs.declared.surveyed_bare.SurveyedBare.{SurveyedBare}
use Rattle.capn_canon.specs.declared.form.Form.TheVariants as forms
use Rattle.capn_canon.specs.Denotes.{Denotes}
use Rattle.capn_layout.specs.Layout.{canon}

-- Read bare, `bs` denote a value without capabilities. `yes` is true if and only if `bs` are the canonical bytes of
-- that value.
pub record SaysCanonical (bs : List ℕ) (limits : Bounds) (yes : Bool) : Type 0 where
  pub value : Tree
  pub is : Denotes forms.Bare bs limits value
  pub free : first_cap value ≡ None
  pub answer : IsTrue yes ↔ (canon value ≡ bs)

-- The message of the one segment `words` is accepted. `c` has its price, its number of visits and its first capability.
-- `c.is_canonical` is true if and only if there is no capability and the bytes of `words` are canonical.
pub record IsBareSurvey (words : List ℕ) (limits : Bounds) (c : SurveyedBare) : Type 0 where
  pub value : Tree
  pub is : IsValueOf (words ∷ []) limits value
  pub pays : c.paid ≡ paid (words ∷ []) limits
  pub counts : c.visits ≡ number_of_visits (words ∷ []) limits
  pub capability : c.capability ≡ first_cap value
  pub answer : IsTrue c.is_canonical ↔ ((first_cap value ≡ None) × (canon value ≡ bytes words))
