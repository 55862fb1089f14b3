-- The five widths of the numbers in a list. (Page: lists.)
use Rattle.std.specs.Prelude.{ℕ, ◌*◌, ◌/◌, ◌==◌, ◌≡◌, Bool, refl}

-- one bit, or one, two, four or eight bytes
pub data NumberWidth : Type 0 where
  bit : NumberWidth
  byte : NumberWidth
  pair : NumberWidth
  quad : NumberWidth
  oct : NumberWidth

-- the number of bits of a number of the given width
abbrev pub bits_in : NumberWidth → ℕ
bits_in bit = 1
bits_in byte = 8
bits_in pair = 16
bits_in quad = 32
bits_in oct = 64

-- the number of elements of the given width that fit in a word
abbrev pub per_word : NumberWidth → ℕ
per_word w = 64 / bits_in w

-- ---- read to here for the theorem

-- true if the number is 1, which stands for a bit that is set
abbrev pub is_set : ℕ → Bool
is_set n = n == 1

pairs_in_a_word : per_word pair ≡ 4
pairs_in_a_word = refl
