-- The text of a tree. Every line is indented by two spaces for each level and ends with a newline. (Our own.)
use Rattle.std.specs.Prelude.{ℕ, zero, suc, ◌+◌, ◌*◌, List, [], ◌∷◌, ◌++◌, length, codes, replicate, Bool, true, false}
use Rattle.std.specs.Prelude.{map}
use Rattle.std.specs.Fmt.{decimal}
use Rattle.std.specs.Int.{to_be_bytes, w64}
use Rattle.hex.specs.Hex.{encode_lower}
use Rattle.capn_value.specs.NumberWidth.{NumberWidth, bit, byte, pair, quad, oct, is_set}
use Rattle.capn_value.specs.Tree.{Tree, nil, node, voids, numbers, links, rows, cap, Trees}
use Rattle.capn_value.specs.Tree.{no_trees, tree, Bodies, no_bodies, body, count, count_rows}

-- the line with `text`: two spaces for each `level`, `text`, and a newline
unfoldable pub line : ℕ → List ℕ → List ℕ
line level text = replicate (2 * level) 32 ++ (text ++ 10 ∷ [])

-- a name, a space and a number
abbrev pub named : List ℕ → ℕ → List ℕ
named name n = name ++ 32 ∷ decimal n

-- the 16 lower-case hexadecimal digits of a word
abbrev pub hex16 : ℕ → List ℕ
hex16 n = encode_lower (to_be_bytes w64 n)

-- the character `1` for a bit that is set, otherwise `0`
abbrev pub digit : Bool → ℕ
digit true = 49
digit false = 48

-- a digit for each bit, in the order of the bits
abbrev pub digits_of : List Bool → List ℕ
digits_of [] = []
digits_of (b ∷ bs) = digit b ∷ digits_of bs

-- one line with `text`, or no line if the number of elements is 0
abbrev pub one_line : ℕ → ℕ → List ℕ → List ℕ
one_line level zero text = []
one_line level (suc n) text = line level text

-- a line for each data word, indented for `level`
abbrev pub word_lines : ℕ → List ℕ → List ℕ
word_lines level [] = []
word_lines level (w ∷ ws) = line level (codes "word " ++ hex16 w) ++ word_lines level ws

-- a line for each number, indented for `level`
abbrev pub number_lines : ℕ → List ℕ → List ℕ
number_lines level [] = []
number_lines level (n ∷ ns) = line level (decimal n) ++ number_lines level ns

-- the name at the beginning of the first line of a list of numbers
abbrev pub numbers_name : NumberWidth → List ℕ
numbers_name bit = codes "bits"
numbers_name byte = codes "bytes"
numbers_name pair = codes "u16"
numbers_name quad = codes "u32"
numbers_name oct = codes "u64"

-- the lines below the first line of a list of numbers: one line of digits for bits and for bytes, otherwise a line for
-- each number
abbrev pub numbers_lines : NumberWidth → ℕ → List ℕ → List ℕ
numbers_lines bit level xs = one_line level (length xs) (digits_of (map is_set xs))
numbers_lines byte level xs = one_line level (length xs) (encode_lower xs)
numbers_lines _ level xs = number_lines level xs

-- the first line of a struct of `w` words and `s` slots, indented for `level`
abbrev pub body_line : ℕ → ℕ → ℕ → List ℕ
body_line level w s = line level (codes "struct " ++ (decimal w ++ 32 ∷ decimal s))

-- the text of a value: a first line, and then the lines of its words, numbers, rows, slots and elements, indented more
abbrev mutual
  pub shown : ℕ → Tree → List ℕ
  shown level nil = line level (codes "null")
  shown level (node ws ss) =
      body_line level (length ws) (count ss) ++ (word_lines (level + 1) ws ++ shown_each (level + 1) ss)
  shown level (voids n) = line level (named (codes "void") n)
  shown level (numbers w xs) =
      line level (named (numbers_name w) (length xs)) ++ numbers_lines w (level + 1) xs
  shown level (links ts) = line level (named (codes "pointers") (count ts)) ++ shown_each (level + 1) ts
  shown level (rows bs) = line level (named (codes "rows") (count_rows bs)) ++ shown_rows (level + 1) bs
  shown level (cap k) = line level (named (codes "capability") k)

  pub shown_each : ℕ → Trees → List ℕ
  shown_each level no_trees = []
  shown_each level (tree t ts) = shown level t ++ shown_each level ts

  pub shown_rows : ℕ → Bodies → List ℕ
  shown_rows level no_bodies = []
  shown_rows level (body ws ss bs) =
      body_line level (length ws) (count ss)
      ++ (word_lines (level + 1) ws ++ (shown_each (level + 1) ss ++ shown_rows level bs))

-- the text of the value `t`, with the root at level 0
abbrev pub show_text : Tree → List ℕ
show_text t = shown 0 t
