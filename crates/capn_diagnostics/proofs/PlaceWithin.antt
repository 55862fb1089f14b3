-- Lemmas for `long_place_byte`: a place in range is before the end of its message.
use Rattle.std.proofs.Common.{◌≡◌, ℕ, ◌+◌, ◌<◌, ◌≤◌, nat_lt, Bool, true, false, List, [], length, take, arith, ap, refl}
use Rattle.std.specs.List.{sum_by}
use Rattle.std.proofs.lemmas.Bool.Decides.{nat_tests}
use Rattle.std.proofs.lemmas.List.Sums.{sum_by_more_le}
use Rattle.std.proofs.Math.ListN.{get_or-eq_default}
use Rattle.capn_words.specs.Message.{segment_at}

module _ (m : List (List ℕ)) (s w : ℕ) (h : w < length (segment_at m s)) where
  exists-by : (b : Bool) → nat_lt s (length m) ≡ b → s < length m
  exists-by true e = grind (arith, nat_tests)
  exists-by false e =
      let past : length m ≤ s = grind (arith, nat_tests) in
      let none : length (segment_at m s) ≡ 0 = ap length (get_or-eq_default m [] past) in
      absurd (omega arith)

  pub has_segment : s < length m
  has_segment = exists-by (nat_lt s (length m)) refl

  -- The number of words before the place is less than the number of words of the message.
  pub before_end : sum_by length (take s m) + w < sum_by length m
  before_end = let all = sum_by_more_le length m s [] has_segment in omega arith
