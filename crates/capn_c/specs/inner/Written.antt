-- The result of the task that writes canonical bytes into the caller's buffer.
use Rattle.std.specs.Prelude.{◌≡◌, ℕ, ◌+◌, ◌*◌, ◌≤◌, List, length, take, Result, IfOk, IfErr, OnErr, MatchResult}
use Rattle.capn_words.specs.Message.{IsMessage}
use Rattle.capn_value.specs.Tree.{Tree}
use Rattle.capn_walk.specs.Accepted.{IsBounded, IsValueOf}
use Rattle.capn_walk.specs.Limits.{Bounds}
use Rattle.capn_canon.specs.Canonicity.{IsFormExactlyOf, IsItsOwnForm, PaysItsCost, ReadsBack}
use Rattle.capn_canon.specs.MessageRefusal.{IsIntoPaidWithin}
use Rattle.capn_canon.specs.Theorem.{RefusedInto, WrittenInto}
use Rattle.capn_canon.specs.declared.length.CanonicalLength.{CanonicalLength}
use Rattle.capn_canon.specs.declared.message_refusal.IntoRefusal.{IntoRefusal}

-- Clauses of `canonical_into`, which hold of the result `r` for `message`. The buffer was `old`, and is `new`.
pub record IsWrittenInto (message : List (List ℕ)) (limits : Bounds) (old new : List ℕ)
    (r : Result CanonicalLength IntoRefusal) : Type 0 where
  pub is_message : IsMessage message
  pub written : IfOk r (λ c. WrittenInto message limits old new c)
  pub refused : IfErr r (λ e. RefusedInto message limits (length old) e)
  pub unchanged : OnErr r (new ≡ old)
  pub bounded : MatchResult r (λ c. IsBounded limits.budget c.paid c.visits) (λ e. IsIntoPaidWithin limits.budget e)
  pub short : IfOk r (λ c. c.length ≤ 8 * (c.paid + 1))
  pub reads_back : IfOk r (λ c. (v : Tree) → IsValueOf message limits v → ReadsBack (take c.length new) limits v)
  pub pays : IfOk r (λ c. (v : Tree) → IsValueOf message limits v → PaysItsCost (take c.length new) limits v)
  pub own : IfOk r (λ c. (v : Tree) → IsValueOf message limits v → IsItsOwnForm (take c.length new) v)
  pub exactly : IfOk r (λ c. (v : Tree) → IsValueOf message limits v → IsFormExactlyOf (take c.length new) v)
