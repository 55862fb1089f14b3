-- The messages that a run has skipped, and the line that counts them. (Our own.)
use Rattle.std.specs.Prelude.{ℕ, ◌≡◌, ◌+◌, ◌-◌, ◌^◌, min, Option, Some, None, List, ◌++◌, codes, refl}
use Rattle.std.specs.Fmt.{decimal, digits}
use Rattle.capn_serve.specs.FaultText.{place_text}
use Rattle.capn_serve.specs.declared.position.Position.{Position}
use Rattle.capn_serve.specs.declared.skipped.Skipped.{Skipped}
use Rattle.capn_serve.specs.declared.skipped.SkippedSoFar.{SkippedSoFar}

-- The record of skipped messages after one more message, at the position `at`, was skipped. `first` stays the position
-- of the first skipped message, and `count` stops at 2^64 - 1.
abbrev pub one_more : Option SkippedSoFar → Position → SkippedSoFar
one_more None at = record { count = 1; first = at }
one_more (Some s) at = record { count = min (s.count + 1) (2 ^ 64 - 1); first = s.first }

-- The `Skipped` of a run over `messages` messages. `s` has the number of skipped messages and the position of the
-- first.
abbrev pub skipped_of : SkippedSoFar → ℕ → Skipped
skipped_of s messages = record { refused = s.count; messages = messages; first = s.first }

-- The text with the number of skipped messages, the number of all messages, and the position of the first skipped one.
abbrev pub text_of_skipped : Skipped → List ℕ
text_of_skipped skipped =
    decimal skipped.refused ++ (codes " of " ++ (decimal skipped.messages
    ++ (codes " messages refused, the first is " ++ place_text skipped.first)))

-- Two examples: the text for 3 skipped messages of 12, and a second skipped message, after which `first` is unchanged.

three_of_twelve : text_of_skipped (record { refused = 3; messages = 12; first = record { index = 2; offset = 40 } })
    ≡ codes "3 of 12 messages refused, the first is 3 at 40"
unfolding digits
three_of_twelve = refl

first_stays : one_more (Some (record { count = 1; first = record { index = 2; offset = 40 } }))
    (record { index = 5; offset = 96 }) ≡ record { count = 2; first = record { index = 2; offset = 40 } }
first_stays = refl
