-- The limits of a walk. (Page: security considerations; the numbers are our own.)
use Rattle.std.specs.Prelude.{ℕ, ◌≤◌}
use Rattle.capn_words.specs.Message.{most_message_words}
use Rattle.capn_value.specs.Cost.{most_cost, most_height}
use Rattle.capn_value.specs.declared.tariff.Tariff.{Tariff}

-- the greatest number of words of one framed message, the greatest number of words that a walk pays, the greatest depth
-- of objects, and the tariff that prices visits
pub record Bounds : Type 0 where
  pub message_words : ℕ
  pub budget : ℕ
  pub depth : ℕ
  pub tariff : Tariff

-- ---- read to here for the theorem

-- `words`, `budget` and `depth` are in the ranges of the limits
pub record AreLimits (words budget depth : ℕ) : Type 0 where
  pub some_words : 1 ≤ words
  pub few_words : words ≤ most_message_words
  pub small_budget : budget ≤ most_cost
  pub some_depth : 1 ≤ depth
  pub small_depth : depth ≤ most_height
