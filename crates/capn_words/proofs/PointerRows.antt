-- Worked examples of pointer words, as 8 bytes each: `pointer_of` and `word_of` agree with the layouts of the page.
use Rattle.std.proofs.Common.{◌≡◌, ℕ, List, [], ◌∷◌, true, false, pos, negsuc, refl}
use Rattle.capn_words.specs.Message.{word_number}
use Rattle.capn_words.specs.Pointers.{word_of, pointer_of}
use Rattle.capn_words.specs.declared.pointer.Pointer.{Pointer}
use Rattle.capn_words.specs.declared.pointer.Pointer.TheVariants.{Nil, Node, Many, Far, Cap, Reserved}
use Rattle.capn_words.specs.declared.pointer.Width.TheVariants.{W0, W1, W8, W16, W32, W64, Link, Rows}

-- the 8 bytes `bs` stand for the pointer `p`, and the word of `p` has the bytes `bs`
abbrev Says : List ℕ → Pointer → Type 0
Says bs p = (pointer_of (word_number bs) ≡ p) × (word_of p ≡ word_number bs)

-- the null pointer is the word 0
null_pointer : Says (0 ∷ 0 ∷ 0 ∷ 0 ∷ 0 ∷ 0 ∷ 0 ∷ 0 ∷ []) (Nil)
unfolding pointer_of word_number
null_pointer = (refl, refl)

-- offset -1 makes the pointer of a struct without words differ from null
empty_struct : Says (252 ∷ 255 ∷ 255 ∷ 255 ∷ 0 ∷ 0 ∷ 0 ∷ 0 ∷ []) (Node (negsuc 0) 0 0)
unfolding pointer_of word_number
empty_struct = (refl, refl)

struct_of_one_word : Says (0 ∷ 0 ∷ 0 ∷ 0 ∷ 1 ∷ 0 ∷ 0 ∷ 0 ∷ []) (Node (pos 0) 1 0)
unfolding pointer_of word_number
struct_of_one_word = (refl, refl)

struct_of_two_slots : Says (0 ∷ 0 ∷ 0 ∷ 0 ∷ 0 ∷ 0 ∷ 2 ∷ 0 ∷ []) (Node (pos 0) 0 2)
unfolding pointer_of word_number
struct_of_two_slots = (refl, refl)

-- a struct pointer with the least offset and the greatest sections
farthest_struct_back : Says (0 ∷ 0 ∷ 0 ∷ 128 ∷ 255 ∷ 255 ∷ 255 ∷ 255 ∷ []) (Node (negsuc 536870911) 65535 65535)
unfolding pointer_of word_number
farthest_struct_back = (refl, refl)

-- a struct pointer with the greatest offset
farthest_struct_on : Says (252 ∷ 255 ∷ 255 ∷ 127 ∷ 0 ∷ 0 ∷ 0 ∷ 0 ∷ []) (Node (pos 536870911) 0 0)
unfolding pointer_of word_number
farthest_struct_on = (refl, refl)

-- a list pointer with the greatest count
longest_list_of_voids : Says (1 ∷ 0 ∷ 0 ∷ 0 ∷ 248 ∷ 255 ∷ 255 ∷ 255 ∷ []) (Many (pos 0) W0 536870911)
unfolding pointer_of word_number
longest_list_of_voids = (refl, refl)

ten_bits : Says (1 ∷ 0 ∷ 0 ∷ 0 ∷ 81 ∷ 0 ∷ 0 ∷ 0 ∷ []) (Many (pos 0) W1 10)
unfolding pointer_of word_number
ten_bits = (refl, refl)

three_bytes : Says (1 ∷ 0 ∷ 0 ∷ 0 ∷ 26 ∷ 0 ∷ 0 ∷ 0 ∷ []) (Many (pos 0) W8 3)
unfolding pointer_of word_number
three_bytes = (refl, refl)

five_pairs : Says (1 ∷ 0 ∷ 0 ∷ 0 ∷ 43 ∷ 0 ∷ 0 ∷ 0 ∷ []) (Many (pos 0) W16 5)
unfolding pointer_of word_number
five_pairs = (refl, refl)

two_quads : Says (1 ∷ 0 ∷ 0 ∷ 0 ∷ 20 ∷ 0 ∷ 0 ∷ 0 ∷ []) (Many (pos 0) W32 2)
unfolding pointer_of word_number
two_quads = (refl, refl)

one_oct_behind_one_word : Says (5 ∷ 0 ∷ 0 ∷ 0 ∷ 13 ∷ 0 ∷ 0 ∷ 0 ∷ []) (Many (pos 1) W64 1)
unfolding pointer_of word_number
one_oct_behind_one_word = (refl, refl)

two_pointers : Says (1 ∷ 0 ∷ 0 ∷ 0 ∷ 22 ∷ 0 ∷ 0 ∷ 0 ∷ []) (Many (pos 0) Link 2)
unfolding pointer_of word_number
two_pointers = (refl, refl)

rows_of_two_words : Says (1 ∷ 0 ∷ 0 ∷ 0 ∷ 23 ∷ 0 ∷ 0 ∷ 0 ∷ []) (Many (pos 0) Rows 2)
unfolding pointer_of word_number
rows_of_two_words = (refl, refl)

-- a pointer to a list whose content is before the pointer
list_back : Says (249 ∷ 255 ∷ 255 ∷ 255 ∷ 5 ∷ 0 ∷ 0 ∷ 0 ∷ []) (Many (negsuc 1) W64 0)
unfolding pointer_of word_number
list_back = (refl, refl)

far_pointer : Says (2 ∷ 0 ∷ 0 ∷ 0 ∷ 1 ∷ 0 ∷ 0 ∷ 0 ∷ []) (Far false 0 1)
unfolding pointer_of word_number
far_pointer = (refl, refl)

double_far_pointer : Says (6 ∷ 0 ∷ 0 ∷ 0 ∷ 1 ∷ 0 ∷ 0 ∷ 0 ∷ []) (Far true 0 1)
unfolding pointer_of word_number
double_far_pointer = (refl, refl)

farthest_double_far_pointer : Says (254 ∷ 255 ∷ 255 ∷ 255 ∷ 255 ∷ 255 ∷ 255 ∷ 255 ∷ []) (Far true 536870911 4294967295)
unfolding pointer_of word_number
farthest_double_far_pointer = (refl, refl)

capability : Says (3 ∷ 0 ∷ 0 ∷ 0 ∷ 2 ∷ 0 ∷ 0 ∷ 0 ∷ []) (Cap 2)
unfolding pointer_of word_number
capability = (refl, refl)

greatest_capability : Says (3 ∷ 0 ∷ 0 ∷ 0 ∷ 255 ∷ 255 ∷ 255 ∷ 255 ∷ []) (Cap 4294967295)
unfolding pointer_of word_number
greatest_capability = (refl, refl)

reserved : Says (7 ∷ 0 ∷ 0 ∷ 0 ∷ 0 ∷ 0 ∷ 0 ∷ 0 ∷ []) (Reserved 7)
unfolding pointer_of word_number
reserved = (refl, refl)

greatest_reserved : Says (255 ∷ 255 ∷ 255 ∷ 255 ∷ 255 ∷ 255 ∷ 255 ∷ 255 ∷ []) (Reserved 18446744073709551615)
unfolding pointer_of word_number
greatest_reserved = (refl, refl)
