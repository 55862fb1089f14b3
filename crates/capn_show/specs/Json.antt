-- The JSON of a tree: one line without blanks. (Our own.)
use Rattle.std.specs.Prelude.{◌≡◌, ℕ, List, [], ◌∷◌, ◌++◌, codes, map, refl}
use Rattle.std.specs.Fmt.{decimal}
use Rattle.hex.specs.Hex.{encode_lower}
use Rattle.capn_value.specs.NumberWidth.{NumberWidth, bit, byte, pair, oct, is_set}
use Rattle.capn_value.specs.Tree.{Tree, nil, node, voids, numbers, links, rows, cap, Trees}
use Rattle.capn_value.specs.Tree.{no_trees, tree, Bodies, no_bodies, body}
use Rattle.capn_value.specs.Text.{hex16, digits_of, numbers_name}

-- The `text` between quotes.
abbrev pub quoted : List ℕ → List ℕ
quoted text = 34 ∷ (text ++ 34 ∷ [])

-- The texts one after the other, with a comma before each text.
abbrev pub after_commas : List (List ℕ) → List ℕ
after_commas [] = []
after_commas (x ∷ xs) = 44 ∷ (x ++ after_commas xs)

-- The texts one after the other, with commas between them.
abbrev pub with_commas : List (List ℕ) → List ℕ
with_commas [] = []
with_commas (x ∷ xs) = x ++ after_commas xs

-- An array whose items have the texts `xs`.
abbrev pub array : List (List ℕ) → List ℕ
array xs = 91 ∷ (with_commas xs ++ 93 ∷ [])

-- An object with one member, which has the given `name` and `value`.
abbrev pub member : List ℕ → List ℕ → List ℕ
member name value = 123 ∷ (quoted name ++ (58 ∷ (value ++ 125 ∷ [])))

-- The 16 hexadecimal digits of the data word `w`, as a string.
abbrev pub word_text : ℕ → List ℕ
word_text w = quoted (hex16 w)

-- The decimal digits of the number `n`, as a string.
abbrev pub number_text : ℕ → List ℕ
number_text n = quoted (decimal n)

-- The JSON of a struct with the data words `ws`, whose slots have the texts `slots`.
abbrev pub struct_text : List ℕ → List (List ℕ) → List ℕ
struct_text ws slots =
    codes "{\"words\":" ++ (array (map word_text ws) ++ (codes ",\"slots\":" ++ (array slots ++ codes "}")))

-- The JSON of the numbers `xs`: bits are a string of digits, and other numbers are an array. In the array, 64-bit
-- numbers are strings.
abbrev pub numbers_text : NumberWidth → List ℕ → List ℕ
numbers_text bit xs = quoted (digits_of (map is_set xs))
numbers_text oct xs = array (map number_text xs)
numbers_text _ xs = array (map decimal xs)

-- The JSON of the list of bytes `xs`, with its bytes as a string of hexadecimal digits.
abbrev pub digits_json : List ℕ → List ℕ
digits_json xs = member (codes "bytes") (quoted (encode_lower xs))

-- The JSON of a value. `bytes_json` gives the JSON of a list of bytes.
module _ (bytes_json : List ℕ → List ℕ) where
  abbrev mutual
    pub json_by : Tree → List ℕ
    json_by nil = codes "null"
    json_by (node ws ss) = struct_text ws (each_json_by ss)
    json_by (voids n) = member (codes "void") (decimal n)
    json_by (numbers byte xs) = bytes_json xs
    json_by (numbers a xs) = member (numbers_name a) (numbers_text a xs)
    json_by (links ts) = member (codes "pointers") (array (each_json_by ts))
    json_by (rows bs) = member (codes "rows") (array (each_row_by bs))
    json_by (cap k) = member (codes "capability") (decimal k)

    -- The JSON of each tree of the list.
    pub each_json_by : Trees → List (List ℕ)
    each_json_by no_trees = []
    each_json_by (tree t ts) = json_by t ∷ each_json_by ts

    -- The JSON of each row of the list, written as a struct.
    pub each_row_by : Bodies → List (List ℕ)
    each_row_by no_bodies = []
    each_row_by (body ws ss bs) = struct_text ws (each_json_by ss) ∷ each_row_by bs

-- The JSON of a value, with each list of bytes as a string of digits.
abbrev pub json_of : Tree → List ℕ
json_of = json_by digits_json

-- The JSON of the value `t` and a newline. `bytes_json` gives the JSON of a list of bytes.
abbrev pub json_line_by : (List ℕ → List ℕ) → Tree → List ℕ
json_line_by bytes_json t = json_by bytes_json t ++ 10 ∷ []

-- The JSON of a value and a newline, with each list of bytes as a string of digits.
abbrev pub json_line : Tree → List ℕ
json_line = json_line_by digits_json

no_slots : json_of (node [] no_trees) ≡ codes "{\"words\":[],\"slots\":[]}"
no_slots = refl

one_after_the_other : with_commas (codes "1" ∷ codes "2" ∷ codes "3" ∷ []) ≡ codes "1,2,3"
one_after_the_other = refl

between_quotes : quoted (codes "12") ≡ codes "\"12\""
between_quotes = refl

two_slots : json_of (node [] (tree nil (tree (numbers bit (1 ∷ 0 ∷ [])) no_trees)))
    ≡ codes "{\"words\":[],\"slots\":[null,{\"bits\":\"10\"}]}"
two_slots = refl

empty_lists : json_of (links (tree (numbers pair []) (tree (numbers oct []) no_trees)))
    ≡ codes "{\"pointers\":[{\"u16\":[]},{\"u64\":[]}]}"
empty_lists = refl

a_row : json_of (rows (body [] (tree nil no_trees) no_bodies))
    ≡ codes "{\"rows\":[{\"words\":[],\"slots\":[null]}]}"
a_row = refl

no_rows : json_line (rows no_bodies) ≡ codes "{\"rows\":[]}\n"
no_rows = refl
