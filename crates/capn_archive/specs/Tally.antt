-- The tally of the messages that a run has served or skipped. (Our own.)
use Rattle.std.specs.Prelude.{ℕ, nat_lt, if◌then◌else◌, Option, Some, None}
use Rattle.capn_serve.specs.Skipped.{one_more}
use Rattle.capn_serve.specs.declared.position.Position.{Position}
use Rattle.capn_archive.specs.declared.tally.Greatest.{Greatest}
use Rattle.capn_archive.specs.declared.tally.Tally.{Tally}

-- The greater of the greatest amount so far and the `amount` of the message `index`. If both are equal, the amount so
-- far stays.
abbrev pub greater : Option Greatest → ℕ → ℕ → Greatest
greater None amount index = record { amount = amount; index = index }
greater (Some g) amount index = if nat_lt g.amount amount then record { amount = amount; index = index } else g

-- The tally after counting the message `index`, which has `words` words, costs `price` and needs `depth`.
abbrev pub counted : Tally → ℕ → ℕ → ℕ → ℕ → Tally
counted tally index words price depth = record {
  skipped = tally.skipped;
  words = Some (greater tally.words words index);
  price = Some (greater tally.price price index);
  depth = Some (greater tally.depth depth index);
}

-- The tally after the message at the position `at` was skipped.
abbrev pub skipped : Tally → Position → Tally
skipped tally at = record {
  skipped = Some (one_more tally.skipped at);
  words = tally.words;
  price = tally.price;
  depth = tally.depth;
}

-- The tally before the first message.
abbrev pub no_tally : Tally
no_tally = record { skipped = None; words = None; price = None; depth = None }
