-- Sums over the first words, and over all words of a message. (Our own.)
use Rattle.std.specs.Prelude.{ℕ, zero, suc, ◌+◌, Bool, List, length, if◌then◌else◌}
use Rattle.capn_words.specs.Message.{segment_at}
use Rattle.capn_words.specs.declared.space.Place.{Place}

-- 1 if the test is true, and otherwise 0
abbrev pub one_if : Bool → ℕ
one_if test = if test then 1 else 0

-- f 0 + f 1 + .. + f (n - 1)
abbrev pub sum_to : (ℕ → ℕ) → (n : ℕ) → ℕ
sum_to f zero = 0
sum_to f (suc n) = sum_to f n + f n

-- the sum of `f` over the first `n` words of segment `s`
abbrev pub sum_words : (Place → ℕ) → (s n : ℕ) → ℕ
sum_words f s n = sum_to (λ w. f (record { segment = s; word = w })) n

-- how many words of the message pass the test
abbrev pub count_at : (message : List (List ℕ)) → (Place → Bool) → ℕ
count_at message test =
    sum_to (λ s. sum_words (λ at. one_if (test at)) s (length (segment_at message s))) (length message)
