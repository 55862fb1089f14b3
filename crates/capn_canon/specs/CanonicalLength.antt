-- The length of the canonical bytes of a message. (Our own.)
use Rattle.std.specs.Prelude.{◌≡◌, ℕ, List, None, length}
use Rattle.capn_value.specs.Tree.{Tree}
use Rattle.capn_value.specs.FirstCap.{first_cap}
use Rattle.capn_walk.specs.Accepted.{IsValueOf, paid, number_of_visits}
use Rattle.capn_walk.specs.Limits.{Bounds}
use Rattle.capn_layout.specs.Layout.{canon}
use Rattle.capn_canon.specs.declared.length.CanonicalLength.{CanonicalLength}

-- `message` is accepted with the value `v`, which has no capability. `c` has the length of the canonical bytes of `v`,
-- the number of words that the walk pays, and the number of visits.
pub record IsCanonicalLength (message : List (List ℕ)) (limits : Bounds) (v : Tree) (c : CanonicalLength) : Type 0 where
  pub is : IsValueOf message limits v
  pub free : first_cap v ≡ None
  pub long : c.length ≡ length (canon v)
  pub pays : c.paid ≡ paid message limits
  pub counts : c.visits ≡ number_of_visits message limits

-- ---- read to here for the theorem

-- `message` has canonical bytes: it is accepted, and its value has no capability.
abbrev pub HasBytes : List (List ℕ) → Bounds → Type 0
HasBytes message limits = (v : Tree) × IsValueOf message limits v × (first_cap v ≡ None)
