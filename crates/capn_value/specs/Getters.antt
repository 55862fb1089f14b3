-- The getters that a reader calls on a value, whatever its schema, and their results along a path. A schema may have
-- made structs of the elements of a list: a reader that expects numbers or pointers then finds the first bits of each
-- struct's data, or its first pointer. If a struct is too short for them, it finds zero or null. A reader that tests
-- how many words or pointers a struct was stored with, and rejects one that is too short, calls more than these
-- getters. (Page: structs, lists, capabilities, default values. Zero and null of short structs are our own.)
use Rattle.std.specs.Prelude.{ℕ, zero, suc, ◌%◌, ◌^◌, List, [], ◌∷◌, slice_index}
use Rattle.capn_value.specs.NumberWidth.{NumberWidth, bits_in}
use Rattle.capn_value.specs.Tree.{Tree, nil, node, voids, numbers, links, rows, cap, Bodies, no_bodies, body, tree_at}
use Rattle.capn_value.specs.Fits.{elements}

-- the kinds of values that a pointer denotes: null, a struct, a list (of voids, numbers, pointers or structs), and a
-- capability
pub data Kind : Type 0 where
  null : Kind
  struct : Kind
  list_of_voids : Kind
  list_of_numbers : NumberWidth → Kind
  list_of_pointers : Kind
  list_of_structs : Kind
  capability : Kind

-- the kind of a value
abbrev pub kind : Tree → Kind
kind nil = null
kind (node ws ss) = struct
kind (voids n) = list_of_voids
kind (numbers w xs) = list_of_numbers w
kind (links ts) = list_of_pointers
kind (rows bs) = list_of_structs
kind (cap k) = capability

-- data word `i` of a struct, 0 past its end and for other values
abbrev pub word : Tree → ℕ → ℕ
word (node ws ss) i = slice_index ws i
word _ i = 0

-- pointer `j` of a struct, null past its end and for other values
abbrev pub pointer : Tree → ℕ → Tree
pointer (node ws ss) j = tree_at ss j
pointer _ j = nil

-- struct `i` of a list of structs, null past its end
abbrev pub row_at : Bodies → ℕ → Tree
row_at no_bodies i = nil
row_at (body ws ss bs) zero = node ws ss
row_at (body ws ss bs) (suc i) = row_at bs i

-- Element `i` of a list for a reader that expects numbers of width `w`. Of a list of numbers it is number `i`, whatever
-- `w` is: their own width is part of the kind. Of a list of structs it is the first bits of the data of struct `i`, and
-- 0 if that struct has no data. It is 0 past the end of the list and for other values.
abbrev pub number : NumberWidth → Tree → ℕ → ℕ
number w (numbers v xs) i = slice_index xs i
number w (rows bs) i = word (row_at bs i) 0 % 2 ^ bits_in w
number w _ i = 0

-- Element `i` of a list of pointers or of structs, null past its end and for other values. No getter returns a struct's
-- numbers of words and of pointers.
abbrev pub element : Tree → ℕ → Tree
element (links ts) i = tree_at ts i
element (rows bs) i = row_at bs i
element _ i = nil

-- the index of a capability, 0 for other values
abbrev pub index : Tree → ℕ
index (cap k) = k
index _ = 0

-- A step of a reader: to a pointer of a struct, to an element of a list of pointers or structs, or to the first pointer
-- of an element of a list of structs. A reader that expects pointers takes the last one if it finds structs.
pub data Step : Type 0 where
  to_pointer : ℕ → Step
  to_element : ℕ → Step
  to_row_pointer : ℕ → Step

-- the value that the step leads to from the value `t`
abbrev pub next : Tree → Step → Tree
next t (to_pointer j) = pointer t j
next t (to_element i) = element t i
next t (to_row_pointer i) = pointer (element t i) 0

-- the value that the path leads to from the value `t`, step by step
abbrev pub at : Tree → List Step → Tree
at t [] = t
at t (s ∷ p) = at (next t s) p

-- all results of the getters on one value
pub record Answer : Type 0 where
  pub kind : Kind
  pub word : ℕ → ℕ
  pub elements : ℕ
  pub number : NumberWidth → ℕ → ℕ
  pub index : ℕ

abbrev pub told : Tree → Answer
told t = record { kind = kind t; word = word t; elements = elements t; number = λ w. number w t; index = index t }

-- the results of the getters on the value at the end of the path `p`
abbrev pub get : Tree → List Step → Answer
get t p = told (at t p)
