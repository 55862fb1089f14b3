-- The first bits of a list of words.
use Rattle.std.specs.Prelude.{ℕ, zero, suc, ◌/◌, ◌%◌, ◌^◌, List, [], ◌∷◌, ◌++◌, take, drop, slice_index}
use Rattle.capn_words.specs.declared.pointer.Width.{Width}
use Rattle.capn_value.specs.NumberWidth.{bit, byte, pair, quad, oct, bits_in}
use Rattle.capn_words.specs.declared.pointer.Width.TheVariants.{W0, W1, W8, W16, W32, W64, Link, Rows}

-- The number of bits in one list element of the given width. For `Link` and `Rows` the result is 0. (Page: lists.)
abbrev pub element_bits : Width → ℕ
element_bits W0 = 0
element_bits W1 = bits_in bit
element_bits W8 = bits_in byte
element_bits W16 = bits_in pair
element_bits W32 = bits_in quad
element_bits W64 = bits_in oct
element_bits Link = 0
element_bits Rows = 0

-- The lowest `n` bits of the first word of `ws`, as a list of one word. The list is empty if `n` is 0. (Our own.)
abbrev pub last_bits : ℕ → List ℕ → List ℕ
last_bits zero ws = []
last_bits (suc n) ws = slice_index ws 0 % 2 ^ suc n ∷ []

-- The first `n` bits of `ws`, as words. The other bits of the last word are 0. (Our own.)
abbrev pub first_bits : ℕ → List ℕ → List ℕ
first_bits n ws = take (n / 64) ws ++ last_bits (n % 64) (drop (n / 64) ws)
