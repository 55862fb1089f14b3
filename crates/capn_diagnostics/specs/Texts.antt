-- The texts of words, slots and paths.
use Rattle.std.specs.Prelude.{◌≡◌, ℕ, ◌==◌, ◌^◌, ◌+◌, ◌*◌, pos, negsuc, true, false, List, [], ◌∷◌, ◌++◌}
use Rattle.std.specs.Prelude.{if◌then◌else◌, codes, refl}
use Rattle.std.specs.Fmt.{decimal, signed_decimal, digits}
use Rattle.hex.specs.Hex.{encode_lower}
use Rattle.capn_words.specs.Message.{word_bytes}
use Rattle.capn_words.specs.Pointers.{field, pointer_of}
use Rattle.capn_words.specs.declared.space.Place.{Place}
use Rattle.capn_words.specs.declared.pointer.Pointer.{Pointer}
use Rattle.capn_words.specs.declared.pointer.Pointer.TheVariants.{Nil, Node, Many, Far, Cap, Reserved}
use Rattle.capn_words.specs.declared.pointer.Width.{Width}
use Rattle.capn_words.specs.declared.pointer.Width.TheVariants.{W0, W1, W8, W16, W32, W64, Link, Rows}

-- ---- the text of a word as a pointer

-- The text of the kind of the elements of a list, in the plural.
abbrev pub elements_text : Width → List ℕ
elements_text W0 = codes "voids"
elements_text W1 = codes "bits"
elements_text W8 = codes "bytes"
elements_text W16 = codes "u16"
elements_text W32 = codes "u32"
elements_text W64 = codes "u64"
elements_text Link = codes "pointers"
elements_text Rows = codes "structs"

-- The text of a number of words and a number of slots.
abbrev pub sizes_text : ℕ → ℕ → List ℕ
sizes_text words slots = decimal words ++ (codes " words and " ++ (decimal slots ++ codes " slots"))

-- The text of a place: the numbers `segment` and `word`.
abbrev pub place_text : ℕ → ℕ → List ℕ
place_text segment word = codes "segment " ++ (decimal segment ++ (codes " word " ++ decimal word))

-- The text of a pointer: its kind, and the fields of that kind.
abbrev pub pointer_text : Pointer → List ℕ
pointer_text Nil = codes "null"
pointer_text (Node offset words slots) =
    codes "struct of " ++ (decimal words ++ (codes " words and " ++ (decimal slots ++ (codes " slots, offset "
    ++ signed_decimal offset))))
pointer_text (Many offset Rows n) =
    codes "list of structs in " ++ (decimal n ++ (codes " words, offset " ++ signed_decimal offset))
pointer_text (Many offset width n) =
    codes "list of " ++ (decimal n ++ (codes " " ++ (elements_text width ++ (codes ", offset "
    ++ signed_decimal offset))))
pointer_text (Far false word segment) = codes "far to " ++ place_text segment word
pointer_text (Far true word segment) = codes "double far to " ++ place_text segment word
pointer_text (Cap index) = codes "capability " ++ decimal index
pointer_text (Reserved word) = codes "reserved"

-- The text of `word` as the tag of a list of structs, if it has the kind of a struct. Otherwise its text as a pointer.
abbrev pub tag_text : ℕ → List ℕ
tag_text word =
    if field 0 2 word == 0
    then codes "tag of " ++ (decimal (field 2 30 word) ++ (codes " structs of "
    ++ sizes_text (field 32 16 word) (field 48 16 word)))
    else pointer_text (pointer_of word)

-- ---- words and slots

-- The bytes of a word in their order in the message, as two hexadecimal digits each.
abbrev pub word_text : ℕ → List ℕ
word_text word = encode_lower (word_bytes word)

-- The text of a word: its offset in bytes, its place, its bytes, and the text `says`.
abbrev pub word_at_text : ℕ → Place → ℕ → List ℕ → List ℕ
word_at_text byte at word says =
    codes "byte " ++ (decimal byte ++ (codes ", " ++ (place_text at.segment at.word ++ (codes ": "
    ++ (word_text word ++ (codes ": " ++ says))))))

-- The text of the slot at `at`: its offset in bytes, its place, the bytes of `word`, and the pointer that they encode.
abbrev pub slot_text : ℕ → Place → ℕ → List ℕ
slot_text byte at word = word_at_text byte at word (pointer_text (pointer_of word))

-- ---- paths

-- The numbers, each after a dot.
abbrev pub dotted : List ℕ → List ℕ
dotted [] = []
dotted (n ∷ path) = codes "." ++ (decimal n ++ dotted path)

-- The text of a path: its numbers with dots between them, or `root` for the empty path.
abbrev pub path_text : List ℕ → List ℕ
path_text [] = codes "root"
path_text (first ∷ path) = decimal first ++ dotted path

-- ---- one text of each kind

a_struct : pointer_text (Node (negsuc 0) 2 1) ≡ codes "struct of 2 words and 1 slots, offset -1"
unfolding digits
a_struct = refl

a_list : pointer_text (Many (pos 3) W16 10) ≡ codes "list of 10 u16, offset 3"
unfolding digits
a_list = refl

a_list_of_structs : pointer_text (Many (pos 0) Rows 4) ≡ codes "list of structs in 4 words, offset 0"
unfolding digits
a_list_of_structs = refl

a_far_pointer : pointer_text (Far true 7 2) ≡ codes "double far to segment 2 word 7"
unfolding digits
a_far_pointer = refl

a_capability : pointer_text (Cap 5) ≡ codes "capability 5"
unfolding digits
a_capability = refl

a_tag : tag_text (4 * 2 + 2 ^ 32 * 3 + 2 ^ 48) ≡ codes "tag of 2 structs of 3 words and 1 slots"
unfolding digits
a_tag = refl

an_empty_tag : tag_text 0 ≡ codes "tag of 0 structs of 0 words and 0 slots"
unfolding digits
an_empty_tag = refl

the_root : path_text [] ≡ codes "root"
the_root = refl

a_path : path_text (0 ∷ 3 ∷ 12 ∷ []) ≡ codes "0.3.12"
unfolding digits
a_path = refl
