-- The comparison of two messages by their values. (Our own: `a` is tested before `b`.)
use Rattle.std.specs.Prelude.{◌≡◌, ◌≢◌, ◌↔◌, ℕ, List, None, Bool, IsTrue, Result, IfOk, IfErr}
use Rattle.capn_value.specs.Tree.{Tree}
use Rattle.capn_value.specs.FirstCap.{first_cap}
use Rattle.capn_value.specs.Same.{Same}
use Rattle.capn_walk.specs.Accepted.{IsValueOf}
use Rattle.capn_walk.specs.Limits.{Bounds}
use Rattle.capn_canon.specs.CanonicalLength.{HasBytes}
use Rattle.capn_canon.specs.Refusal.{IsRefusedMessage, IsPaidWithin}
use Rattle.capn_canon.specs.declared.refusal.Refusal.{Refusal}
use Rattle.capn_canon.specs.declared.refusal.Refusal.TheVariants as refusals
use Rattle.capn_canon.specs.declared.same_refusal.SameRefusal.{SameRefusal}
use Rattle.capn_canon.specs.declared.same_refusal.Side.{Side}
use Rattle.capn_canon.specs.declared.same_refusal.Side.TheVariants.{First, Second}

-- `a` and `b` are accepted with the values `one` and `two`, which have no capability. `same` is true if and only if
-- these values are the same (`Same`).
pub record SaysSame (a b : List (List ℕ)) (limits : Bounds) (same : Bool) : Type 0 where
  pub one : Tree
  pub two : Tree
  pub first : IsValueOf a limits one
  pub second : IsValueOf b limits two
  pub first_free : first_cap one ≡ None
  pub second_free : first_cap two ≡ None
  pub answer : IsTrue same ↔ Same one two

-- `e` says why `message` has no canonical bytes, and `e` is not `Memory`.
abbrev pub IsUnfit : List (List ℕ) → Bounds → Refusal → Type 0
IsUnfit message limits e = IsRefusedMessage message limits e × (e ≢ refusals.Memory)

-- On the side `First`, `e` says why `a` has no canonical bytes. On the side `Second`, `a` has canonical bytes, and `e`
-- says why `b` has none.
abbrev pub IsRefusedOn : List (List ℕ) → List (List ℕ) → Bounds → Side → Refusal → Type 0
IsRefusedOn a b limits First e = IsUnfit a limits e
IsRefusedOn a b limits Second e = HasBytes a limits × IsUnfit b limits e

-- `e.side` is the first of `a` and `b` that has no canonical bytes, and `e.refusal` says why.
abbrev pub IsNotCompared : List (List ℕ) → List (List ℕ) → Bounds → SameRefusal → Type 0
IsNotCompared a b limits e = IsRefusedOn a b limits e.side e.refusal

-- If `r` is `Ok`, it says whether `a` and `b` have the same value. If `r` is an `Err`, it says why `a` and `b` are not
-- compared, and a stopped walk pays at most the budget.
pub record IsSameTold (a b : List (List ℕ)) (limits : Bounds) (r : Result Bool SameRefusal) : Type 0 where
  pub found : IfOk r (λ same. SaysSame a b limits same)
  pub refused : IfErr r (λ e. IsNotCompared a b limits e)
  pub bounded : IfErr r (λ e. IsPaidWithin limits.budget e.refusal)
