-- The lines that `list` and `limits` write. (Our own.)
use Rattle.std.specs.Prelude.{◌≡◌, ℕ, ◌+◌, ◌*◌, ◌^◌, min, max, List, [], ◌∷◌, ◌++◌, codes, Bool, true, false, Option}
use Rattle.std.specs.Prelude.{Some, None, refl}
use Rattle.std.specs.Fmt.{decimal, digits}
use Rattle.hex.specs.Hex.{encode_lower, encode_with}
use Rattle.capn_value.specs.declared.tariff.Tariff.{Tariff}
use Rattle.capn_value.specs.declared.tariff.Tariff.TheVariants as tariffs
use Rattle.capn_canon.specs.declared.refusal.Refusal.{Refusal}
use Rattle.capn_canon.specs.declared.refusal.Refusal.TheVariants as refusals
use Rattle.capn_canon.specs.Display.{refusal_text}
use Rattle.capn_archive.specs.declared.message_head.MessageHead.{MessageHead}
use Rattle.capn_canon.specs.declared.surveyed_bare.MeasuredBare.{MeasuredBare}
use Rattle.capn_archive.specs.declared.tally.Greatest.{Greatest}
use Rattle.capn_archive.specs.declared.limits_report.Needs.{Needs}

-- The beginning of a line: the number of the message, counted from 1, its offset, and its numbers of bytes, segments
-- and words.
abbrev pub head_text : MessageHead → List ℕ
head_text head =
    decimal (head.at.index + 1) ++ (codes " at " ++ (decimal head.at.offset ++ (codes " bytes "
    ++ (decimal head.bytes ++ (codes " segments " ++ (decimal head.segments ++ (codes " words "
    ++ decimal head.words)))))))

-- The text for the index of a capability: its digits, or `no` for `None`.
abbrev pub capability_text : Option ℕ → List ℕ
capability_text (Some index) = decimal index
capability_text None = codes "no"

-- The text `yes` for `true`, and `no` for `false`.
abbrev pub answer_text : Bool → List ℕ
answer_text true = codes "yes"
answer_text false = codes "no"

-- The text for the figures of an accepted message: price, visits, depth, capability, and whether the message is
-- canonical.
abbrev pub measured_text : MeasuredBare → List ℕ
measured_text measured =
    codes "paid " ++ (decimal measured.survey.paid ++ (codes " visits " ++ (decimal measured.survey.visits
    ++ (codes " depth " ++ (decimal measured.depth ++ (codes " capability "
    ++ (capability_text measured.survey.capability ++ (codes " canonical "
    ++ answer_text measured.survey.is_canonical))))))))

-- The line of `list` for an accepted message.
abbrev pub list_line : MessageHead → MeasuredBare → List ℕ
list_line head measured = head_text head ++ (codes " " ++ (measured_text measured ++ codes "\n"))

-- The text of a digest in 64 hexadecimal digits, or `-` for `None`.
abbrev pub digest_text : Option (List ℕ) → List ℕ
digest_text (Some digest) = encode_lower digest
digest_text None = codes "-"

-- The line of `list --digest` for an accepted message.
abbrev pub digests_line : MessageHead → MeasuredBare → Option (List ℕ) → List ℕ
digests_line head measured digest =
    head_text head ++ (codes " " ++ (measured_text measured ++ (codes " sha256 " ++ (digest_text digest
    ++ codes "\n"))))

-- The line of `list` for a skipped message, which `refusal` refuses.
abbrev pub refused_line : MessageHead → Refusal → List ℕ
refused_line head refusal = head_text head ++ (codes " refused " ++ (refusal_text refusal ++ codes "\n"))

-- The text for a greatest amount, with the number of its message, counted from 1. For `None` both numbers are 0.
abbrev pub greatest_text : Option Greatest → List ℕ
greatest_text None = codes "0 message 0"
greatest_text (Some g) = decimal g.amount ++ (codes " message " ++ decimal (g.index + 1))

-- The amount in a `Greatest`, or 0 for `None`.
abbrev pub amount_of : Option Greatest → ℕ
amount_of None = 0
amount_of (Some g) = g.amount

-- The text of the option `--tariff`, which is empty for the tariff `Strict`.
abbrev pub tariff_text : Tariff → List ℕ
tariff_text tariffs.Strict = codes ""
tariff_text tariffs.Plain = codes " --tariff plain"

-- The first four lines of `limits`: the number of messages, and the greatest size, the greatest price and the greatest
-- depth, each with the number of its message.
abbrev pub needs_text : Needs → List ℕ
needs_text needs =
    codes "messages " ++ (decimal needs.messages
    ++ (codes "\nmessage-words " ++ (greatest_text needs.tally.words
    ++ (codes "\nbudget " ++ (greatest_text needs.tally.price
    ++ (codes "\ndepth " ++ greatest_text needs.tally.depth))))))

-- The last line of `limits`: options for four times the greatest size and price, and for twice the greatest depth. Each
-- number stays within the range of its option.
abbrev pub advice_text : Needs → List ℕ
advice_text needs =
    codes "use --message-words " ++ (decimal (min (max (4 * amount_of needs.tally.words) 1) (2 ^ 28))
    ++ (codes " --budget " ++ (decimal (min (4 * amount_of needs.tally.price) (2 ^ 28))
    ++ (codes " --depth " ++ (decimal (min (max (2 * amount_of needs.tally.depth) 1) 256)
    ++ tariff_text needs.tariff)))))

-- The five lines of `limits`.
abbrev pub limits_text : Needs → List ℕ
limits_text needs = needs_text needs ++ (codes "\n" ++ (advice_text needs ++ codes "\n"))

-- ---- examples of each kind of line

-- The head of the second message of a stream. The message has two words.
abbrev second : MessageHead
second = record { at = record { index = 1; offset = 16 }; bytes = 24; segments = 1; words = 2 }

-- The figures of the message of `second`.
abbrev its_measured : MeasuredBare
its_measured = record {
  survey = record { paid = 2; visits = 1; capability = None; is_canonical = true };
  depth = 1;
}

a_listed_message : list_line second its_measured
    ≡ codes "2 at 16 bytes 24 segments 1 words 2 paid 2 visits 1 depth 1 capability no canonical yes\n"
unfolding digits
a_listed_message = refl

no_digest : digests_line second its_measured None
    ≡ codes "2 at 16 bytes 24 segments 1 words 2 paid 2 visits 1 depth 1 capability no canonical yes sha256 -\n"
unfolding digits
no_digest = refl

two_bytes_of_a_digest : digest_text (Some (7 ∷ 171 ∷ [])) ≡ codes "07ab"
unfolding encode_with
two_bytes_of_a_digest = refl

a_refused_message : refused_line second (refusals.Capability 3)
    ≡ codes "2 at 16 bytes 24 segments 1 words 2 refused capability 3\n"
unfolding digits
a_refused_message = refl

-- The figures of three messages: the second has the most words and is the deepest, and the first costs the most.
abbrev three_messages : Needs
three_messages = record {
  messages = 3;
  tally = record {
    skipped = None;
    words = Some (record { amount = 5; index = 1 });
    price = Some (record { amount = 4; index = 0 });
    depth = Some (record { amount = 2; index = 1 });
  };
  tariff = tariffs.Plain;
}

their_limits : needs_text three_messages
    ≡ codes "messages 3\nmessage-words 5 message 2\nbudget 4 message 1\ndepth 2 message 2"
unfolding digits
their_limits = refl

their_advice : advice_text three_messages ≡ codes "use --message-words 20 --budget 16 --depth 4 --tariff plain"
unfolding digits
their_advice = refl
