-- Worked results of the getters, and the differences that readers miss if they do not ask for the kind.
use Rattle.std.proofs.Common.{◌≡◌, ℕ, zero, suc, ◌+◌, ◌%◌, ◌^◌, List, [], ◌∷◌, slice_index, refl, sym}
use Rattle.capn_value.specs.Tree.{Tree, nil, node, voids, numbers, rows, cap, no_trees, tree, no_bodies, body}
use Rattle.capn_value.specs.NumberWidth.{NumberWidth, bit, byte, pair, quad, oct, bits_in}
use Rattle.capn_value.specs.Same.{Same}
use Rattle.capn_value.proofs.shared.Told.{same_got, same_to_reader}
use Rattle.capn_value.specs.Getters.{Kind, null, struct, list_of_numbers, Step, to_pointer, to_element, to_row_pointer}
use Rattle.capn_value.specs.Getters.{word, row_at, Answer, get}

-- A struct of the words 5 and 0 with two slots: a list of three bytes, and a list of two rows. The second row has a
-- capability.
abbrev worked : Tree
worked = node (5 ∷ 0 ∷ []) (tree (numbers byte (7 ∷ 8 ∷ 9 ∷ []))
    (tree (rows (body (1 ∷ []) (tree nil no_trees) (body (2 ∷ []) (tree (cap 6) no_trees) no_bodies))) no_trees))

its_kind : (get worked []).kind ≡ struct
its_kind = refl

pub its_first_word : (get worked []).word 0 ≡ 5
its_first_word = refl

a_word_past_its_end : (get worked []).word 1000 ≡ 0
a_word_past_its_end = refl

as_many_bytes : (get worked (to_pointer 0 ∷ [])).elements ≡ 3
as_many_bytes = refl

the_last_byte : (get worked (to_pointer 0 ∷ [])).number byte 2 ≡ 9
the_last_byte = refl

as_many_rows : (get worked (to_pointer 1 ∷ [])).elements ≡ 2
as_many_rows = refl

a_word_of_a_row : (get worked (to_pointer 1 ∷ to_element 1 ∷ [])).word 0 ≡ 2
a_word_of_a_row = refl

a_capability_in_a_row : (get worked (to_pointer 1 ∷ to_element 1 ∷ to_pointer 0 ∷ [])).index ≡ 6
a_capability_in_a_row = refl

past_the_end_of_null : (get worked (to_pointer 9 ∷ to_pointer 9 ∷ [])).kind ≡ null
past_the_end_of_null = refl

-- along paths that begin with pointer 0, getters return the same for a struct of one zero word and for an empty struct
longer : (p : List Step) → get (node (0 ∷ []) no_trees) (to_pointer 0 ∷ p) ≡ get (node [] no_trees) (to_pointer 0 ∷ p)
longer p = refl

-- number `i` of a list of numbers in its own width, and 0 for other kinds
abbrev own_number : Kind → (NumberWidth → ℕ → ℕ) → ℕ → ℕ
own_number (list_of_numbers w) number_in i = number_in w i
own_number _ number_in i = 0

-- data word 0 of element `i`, for a reader with a later schema, which also reads a list of numbers as a list of structs
abbrev first_words : (List Step → Answer) → ℕ → ℕ
first_words told i = (told (to_element i ∷ [])).word 0 + own_number (told []).kind (told []).number i

of_numbers : first_words (get (numbers byte (7 ∷ 8 ∷ []))) 1 ≡ 8
of_numbers = refl

of_structs : first_words (get (rows (body (7 ∷ 1 ∷ []) no_trees (body (8 ∷ 0 ∷ []) no_trees no_bodies)))) 1 ≡ 8
of_structs = refl

-- `first_words` is equal for values `v` and `w` that are the same
first_words_alike : (v w : Tree) → Same v w → (i : ℕ) → first_words (get v) i ≡ first_words (get w) i
first_words_alike v w h i = same_to_reader (λ g. first_words g i) v w h

-- ---- lists of numbers or pointers that became lists of structs

-- two rows of one zero word each, and the same rows without words, which is how their canonical form stores them
abbrev zero_rows : Tree
zero_rows = rows (body (0 ∷ []) no_trees (body (0 ∷ []) no_trees no_bodies))

abbrev empty_rows : Tree
empty_rows = rows (body [] no_trees (body [] no_trees no_bodies))

-- a reader that expects numbers of two bytes finds 0 in each row of both
numbers_of_zero_rows : ((get zero_rows []).number pair 0 ≡ 0) × ((get zero_rows []).number pair 1 ≡ 0)
numbers_of_zero_rows = (refl, refl)

numbers_of_empty_rows : ((get empty_rows []).number pair 0 ≡ 0) × ((get empty_rows []).number pair 1 ≡ 0)
numbers_of_empty_rows = (refl, refl)

zero_word : (i : ℕ) → slice_index (0 ∷ []) i ≡ slice_index [] i
zero_word zero = refl
zero_word (suc i) = refl

zero_rows_are_empty_rows : Same zero_rows empty_rows
zero_rows_are_empty_rows = (zero_word, tt, (zero_word, tt, tt))

zero_rows_told_alike : (p : List Step) → get zero_rows p ≡ get empty_rows p
zero_rows_told_alike p = same_got p zero_rows empty_rows zero_rows_are_empty_rows

-- a row of the word 0xFEDCBA9876543211 and one pointer, and a row of the word 5 and a null pointer
abbrev full_rows : Tree
full_rows = rows (body (18364758544493064721 ∷ []) (tree worked no_trees) (body (5 ∷ []) (tree nil no_trees) no_bodies))

-- each width takes the first bits of the row's data
first_bit : (get full_rows []).number bit 0 ≡ 1
first_bit = refl

first_byte : (get full_rows []).number byte 0 ≡ 17
first_byte = refl

first_pair : (get full_rows []).number pair 0 ≡ 12817
first_pair = refl

first_quad : (get full_rows []).number quad 0 ≡ 1985229329
first_quad = refl

first_oct : (get full_rows []).number oct 0 ≡ 18364758544493064721
first_oct = refl

past_the_last_row : (get full_rows []).number oct 2 ≡ 0
past_the_last_row = refl

-- a reader that expects pointers takes the first pointer of each row
first_pointer : (get full_rows (to_row_pointer 0 ∷ [])).word 0 ≡ 5
first_pointer = refl

first_pointer_is_null : (get full_rows (to_row_pointer 1 ∷ [])).kind ≡ null
first_pointer_is_null = refl

no_pointer : (get zero_rows (to_row_pointer 0 ∷ [])).kind ≡ null
no_pointer = refl

-- ---- values that differ only in their kind

-- the results `a` of the getters, with the kind replaced by null
abbrev but_kind : Answer → Answer
but_kind a = record a { kind = null }

-- along every path, getters return the same for null and for an empty struct, except for the kind
pub null_or_empty : (p : List Step) → but_kind (get nil p) ≡ but_kind (get (node [] no_trees) p)
null_or_empty [] = refl
null_or_empty (to_pointer j ∷ p) = refl
null_or_empty (to_element i ∷ p) = refl
null_or_empty (to_row_pointer i ∷ p) = refl

null_is_not_empty : Same nil (node [] no_trees) → ⊥
null_is_not_empty h = h

no_bits : (w : NumberWidth) → 0 ≡ 0 % 2 ^ bits_in w
no_bits bit = refl
no_bits byte = refl
no_bits pair = refl
no_bits quad = refl
no_bits oct = refl

-- along every path, getters return the same for empty lists of bytes and of structs, except for the kind
bytes_or_structs : (p : List Step) → but_kind (get (numbers byte []) p) ≡ but_kind (get (rows no_bodies) p)
bytes_or_structs [] = λ k. record { kind = null; word = λ i. 0; elements = 0; number = λ w i. no_bits w k; index = 0 }
bytes_or_structs (to_pointer j ∷ p) = refl
bytes_or_structs (to_element i ∷ p) = refl
bytes_or_structs (to_row_pointer i ∷ p) = refl

bytes_are_no_structs : Same (numbers byte []) (rows no_bodies) → ⊥
bytes_are_no_structs h = h

-- along every path, getters return the same for a list of two structs without words and for a list of two voids, except
-- for the kind
structs_or_voids : (p : List Step)
    → but_kind (get (rows (body [] no_trees (body [] no_trees no_bodies))) p) ≡ but_kind (get (voids 2) p)
structs_or_voids [] = λ k. record {
  kind = null;
  word = λ i. 0;
  elements = 2;
  number = λ w i. no_word w i k;
  index = 0;
}
  where
    no_word : (w : NumberWidth) (i : ℕ)
        → word (row_at (body [] no_trees (body [] no_trees no_bodies)) i) 0 % 2 ^ bits_in w ≡ 0
    no_word w zero = sym (no_bits w)
    no_word w (suc zero) = sym (no_bits w)
    no_word w (suc (suc i)) = sym (no_bits w)
structs_or_voids (to_pointer j ∷ p) = refl
structs_or_voids (to_element zero ∷ p) = sym (null_or_empty p)
structs_or_voids (to_element (suc zero) ∷ p) = sym (null_or_empty p)
structs_or_voids (to_element (suc (suc i)) ∷ p) = refl
structs_or_voids (to_row_pointer zero ∷ p) = refl
structs_or_voids (to_row_pointer (suc zero) ∷ p) = refl
structs_or_voids (to_row_pointer (suc (suc i)) ∷ p) = refl

structs_are_no_voids : Same (rows (body [] no_trees (body [] no_trees no_bodies))) (voids 2) → ⊥
structs_are_no_voids h = h
