-- The depth of a message: the least depth limit with which the message is accepted. (Page: security considerations, for
-- the depth limit; the definition is our own.)
use Rattle.std.specs.Prelude.{ℕ, ◌<◌, List}
use Rattle.capn_walk.specs.Limits.{Bounds}
use Rattle.capn_walk.specs.Accepted.{IsAccepted}

-- `limits`, but with the depth limit `n`
abbrev pub at_depth : Bounds → ℕ → Bounds
at_depth limits n = record {
  message_words = limits.message_words;
  budget = limits.budget;
  depth = n;
  tariff = limits.tariff;
}

-- `message` is accepted with the depth limit `depth`, and with no lower depth limit. The other limits are those of
-- `limits`.
pub record IsDepth (message : List (List ℕ)) (limits : Bounds) (depth : ℕ) : Type 0 where
  pub accepted : IsAccepted message (at_depth limits depth)
  pub least : (n : ℕ) → n < depth → IsAccepted message (at_depth limits n) → ⊥
