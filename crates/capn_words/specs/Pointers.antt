-- The pointer that a word stands for, and the word of a pointer. If the fields fit, `split` and `join` are inverse to
-- each other. (Page: structs, lists, inter-segment pointers, capabilities.)
use Rattle.std.specs.Prelude.{ℕ, suc, ◌-◌, ◌/◌, ◌%◌, ◌^◌, nat_lt, ◌==◌, ℤ, pos, negsuc, [], ◌∷◌, slice_index_or}
use Rattle.std.specs.Prelude.{if◌then◌else◌, ◌≡◌, ◌+◌, ◌*◌, ◌<◌, ⊤}
use Rattle.capn_words.specs.declared.pointer.Pointer.{Pointer}
use Rattle.capn_words.specs.declared.pointer.Pointer.TheVariants.{Nil, Node, Many, Far, Cap, Reserved}
use Rattle.capn_words.specs.declared.pointer.Width.{Width}
use Rattle.capn_words.specs.declared.pointer.Width.TheVariants.{W0, W1, W8, W16, W32, W64, Link, Rows}
use Rattle.std.specs.Int.{from_bool}

-- ---- reading a pointer from a word: each field is the remainder of a quotient. (Page: structs, lists, inter-segment
-- pointers, capabilities.)

-- the number in `n` bits of the word `w`, from bit `from` on
abbrev pub field : ℕ → ℕ → ℕ → ℕ
field from n w = w / 2 ^ from % 2 ^ n

-- the signed offset with the 30 bits `n`: `n` if it is below 2^29, otherwise `n` - 2^30
abbrev pub signed : ℕ → ℤ
signed n = if nat_lt n (2 ^ 29) then pos n else negsuc (2 ^ 30 - suc n)

-- the width with the 3 bits `c`
abbrev pub width_of : ℕ → Width
width_of c = slice_index_or (W0 ∷ W1 ∷ W8 ∷ W16 ∷ W32 ∷ W64 ∷ Link ∷ Rows ∷ []) c Rows

-- the pointer of a word `w` whose bits 0 to 1 are 2 or 3
abbrev pub other_pointer : ℕ → Pointer
other_pointer w =
    if w % 4 == 2 then Far (field 2 1 w == 1) (field 3 29 w) (field 32 32 w)
    else if field 2 30 w == 0 then Cap (field 32 32 w)
    else Reserved w

-- the pointer of the word `w`: null for 0, otherwise of the kind in bits 0 to 1
unfoldable pub pointer_of : ℕ → Pointer
pointer_of w =
    if w == 0 then Nil
    else if w % 4 == 0 then Node (signed (field 2 30 w)) (field 32 16 w) (field 48 16 w)
    else if w % 4 == 1 then Many (signed (field 2 30 w)) (width_of (field 32 3 w)) (field 35 29 w)
    else other_pointer w

-- ---- writing a pointer as a word: the word is a sum. A field that begins at bit `b` is multiplied by 2^b. (Page:
-- structs, lists, inter-segment pointers, capabilities.)

-- the 3 bits that stand for a width
abbrev pub width_code : Width → ℕ
width_code W0 = 0
width_code W1 = 1
width_code W8 = 2
width_code W16 = 3
width_code W32 = 4
width_code W64 = 5
width_code Link = 6
width_code Rows = 7

-- the 30 bits of an offset: a negative offset is stored with 2^30 added
abbrev pub offset_field : ℤ → ℕ
offset_field (pos n) = n
offset_field (negsuc n) = 2 ^ 30 - suc n

-- the word of a pointer: the kind in bits 0 to 1, and the fields in the bits above
abbrev pub word_of : Pointer → ℕ
word_of Nil = 0
word_of (Node o w s) = 4 * offset_field o + 2 ^ 32 * w + 2 ^ 48 * s
word_of (Many o k c) = 1 + 4 * offset_field o + 2 ^ 32 * width_code k + 2 ^ 35 * c
word_of (Far d w s) = 2 + 4 * from_bool d + 8 * w + 2 ^ 32 * s
word_of (Cap i) = 3 + 2 ^ 32 * i
word_of (Reserved n) = n

-- ---- read to here for the theorem

-- the offset fits into 30 bits with its sign: it is from -2^29 to 2^29 - 1
abbrev pub FitsOffset : ℤ → Type 0
FitsOffset (pos n) = n < 2 ^ 29
FitsOffset (negsuc n) = n < 2 ^ 29

-- Each field of the pointer fits its bits. A struct pointer is not all zeros, since the word 0 is null. A reserved word
-- has 64 bits, has bits 0 to 1 equal to 3, and is no capability.
abbrev pub FitsFields : Pointer → Type 0
FitsFields Nil = ⊤
FitsFields (Node o w s) = FitsOffset o × (w < 2 ^ 16) × (s < 2 ^ 16) × (0 < offset_field o + w + s)
FitsFields (Many o k c) = FitsOffset o × (c < 2 ^ 29)
FitsFields (Far d w s) = (w < 2 ^ 29) × (s < 2 ^ 32)
FitsFields (Cap i) = i < 2 ^ 32
FitsFields (Reserved n) = (n < 2 ^ 64) × (n % 4 ≡ 3) × (0 < n / 4 % 2 ^ 30)

-- `p` is the pointer of the word `w`: its fields fit, and `w` is their sum
abbrev pub Fields : ℕ → Pointer → Type 0
Fields w p = FitsFields p × (w ≡ word_of p)
