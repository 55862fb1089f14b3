-- Lemmas for `segment_length`, capn_c, capn_canon and other crates: the lengths of segments.
use Rattle.std.proofs.Common.{◌≡◌, ℕ, ◌<◌, ◌≤◌, List, [], length, ap, arith, Option, Some, None, nat_lt}
use Rattle.std.proofs.lemmas.Bool.Decides.{nat_tests}
use Rattle.std.proofs.Math.ListN.{get_or-eq_default}
use Rattle.std.proofs.lemmas.List.Sums.{get_or-le-sum_by}
use Rattle.capn_words.specs.Message.{most_words, segment_at, words_of, IsMessage}
use Rattle.capn_words.proofs.shared.Choices.{pick}

-- if `words_of` gives `None` for segment `s`, the segment has no words
pub length_of_none : (m : List (List ℕ)) (s : ℕ) → words_of m s ≡ None → length (segment_at m s) ≡ 0
length_of_none m s h =
    pick (λ (o : Option ℕ). o ≡ None
    → length (segment_at m s) ≡ 0) (nat_lt s (length m)) (Some (length (segment_at m s))) None (λ e. λ n. cc)
    (λ e. λ n. let past : length m ≤ s = grind (arith, nat_tests) in ap length (get_or-eq_default m [] past)) h

-- if `words_of` gives `n` for segment `s`, the segment has `n` words
pub length_of_some : (m : List (List ℕ)) (s n : ℕ) → words_of m s ≡ Some n → length (segment_at m s) ≡ n
length_of_some m s n h =
    pick (λ (o : Option ℕ). o ≡ Some n
    → length (segment_at m s) ≡ n) (nat_lt s (length m)) (Some (length (segment_at m s))) None (λ e. λ k. cc)
    (λ e. λ k. cc) h

-- a segment `s` of the message `m` has at most `most_words` words
pub segment-room : (m : List (List ℕ)) (s : ℕ) → IsMessage m → s < length m → length (segment_at m s) ≤ most_words
segment-room m s h l = let one = get_or-le-sum_by length m s [] l in let all = h.room in omega arith
