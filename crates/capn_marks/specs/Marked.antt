-- The text of a message with marks. A mark before each line has the offset of the slot, row, word or elements that the
-- line shows, a path, or both. A word or an element has the path of the value or row that it belongs to. (Our own.)
use Rattle.std.specs.Prelude.{◌≡◌, ℕ, zero, suc, ◌+◌, ◌*◌, ◌/◌, Bool, true, false, List, [], ◌∷◌, ◌++◌}
use Rattle.std.specs.Prelude.{length, take, map, codes, if◌then◌else◌, refl}
use Rattle.std.specs.Fmt.{decimal, digits}
use Rattle.hex.specs.Hex.{encode_lower, encode_with}
use Rattle.capn_words.specs.Message.{total}
use Rattle.capn_words.specs.Pointers.{pointer_of}
use Rattle.capn_words.specs.declared.space.Place.{Place}
use Rattle.capn_value.specs.NumberWidth.{NumberWidth, bit, byte, pair, is_set, bits_in}
use Rattle.capn_value.specs.Tree.{Tree, nil, node, voids, numbers, links, rows, cap, Trees}
use Rattle.capn_value.specs.Tree.{no_trees, tree, Bodies, no_bodies, body, count, count_rows}
use Rattle.capn_value.specs.Text.{line, named, hex16, digits_of, body_line, numbers_name}
use Rattle.capn_target.specs.declared.target.Target.{Target}
use Rattle.capn_target.specs.Target.{target}
use Rattle.capn_walk.specs.Accepted.{root}
use Rattle.capn_walk.specs.View.{step_place, row_of}
use Rattle.capn_show.specs.Descent.{begin, named_by}
use Rattle.capn_quoted.specs.Texts.{is_text}
use Rattle.capn_show.specs.Quoting.{quoted_line}
use Rattle.capn_marks.specs.declared.marks.Marks.{Marks}

-- ---- paths and places

-- The text of a path with the number `i` appended, given the text of the path without `i`. A dot stands before `i`
-- unless `i` is the first number.
abbrev pub below : List ℕ → ℕ → List ℕ
below [] i = decimal i
below (c ∷ path) i = (c ∷ path) ++ 46 ∷ decimal i

-- The name of `path` in a mark: `root` if `path` is empty, and otherwise `path` itself.
abbrev pub path_name : List ℕ → List ℕ
path_name [] = codes "root"
path_name (c ∷ path) = c ∷ path

-- The offset in bytes of the first word of a message, which follows the table of the message.
abbrev pub first_byte : Marks → ℕ
first_byte marks = marks.offset + 8 * marks.table

-- The offset in bytes of the word of `m` at `at`, if the first word of `m` lies at the offset `start`. Each word of `m`
-- before `at` adds 8.
abbrev pub byte_of : ℕ → List (List ℕ) → Place → ℕ
byte_of start m at = start + 8 * (total (take at.segment m) + at.word)

-- ---- marks

-- The digits of the offset `lies`, and then a tab. No text if `offsets` is false.
abbrev pub offset_mark : Bool → ℕ → List ℕ
offset_mark offsets lies = if offsets then decimal lies ++ 9 ∷ [] else []

-- The name of `path`, and then a tab. No text if `ways` is false.
abbrev pub path_mark : Bool → List ℕ → List ℕ
path_mark ways path = if ways then path_name path ++ 9 ∷ [] else []

-- The marks of a line that has the offset `lies` and the path `path`.
abbrev pub mark : Marks → ℕ → List ℕ → List ℕ
mark marks lies path = offset_mark marks.offsets lies ++ path_mark marks.ways path

-- ---- lines with marks

-- The line of the data word `w`, indented by `level`.
abbrev pub word_line : ℕ → ℕ → List ℕ
word_line level w = line level (codes "word " ++ hex16 w)

-- The line of the number `n` of a list, indented by `level`.
abbrev pub number_line : ℕ → ℕ → List ℕ
number_line level n = line level (decimal n)

module _ (marks : Marks) where
  -- One line with marks for each number of a list. The first number lies at the offset `first`, and each number fills
  -- `size` bytes.
  abbrev pub marked_lines : ℕ → (ℕ → List ℕ) → List ℕ → ℕ → List ℕ → List ℕ
  marked_lines size line_of path first [] = []
  marked_lines size line_of path first (x ∷ xs) =
      mark marks first path ++ (line_of x ++ marked_lines size line_of path (first + size) xs)

  -- The line with marks that shows `digits`, the digits of the elements of a list. No line if the list is empty. The
  -- first element lies at the offset `first`.
  abbrev pub marked_digits : ℕ → List ℕ → ℕ → ℕ → List ℕ → List ℕ
  marked_digits level path first zero digits = []
  marked_digits level path first (suc n) digits = mark marks first path ++ line level digits

  -- The lines of the list of bytes `xs` in digits, where the first line has no mark.
  abbrev pub digit_lines : ℕ → List ℕ → ℕ → List ℕ → List ℕ
  digit_lines level path first xs =
      line level (named (codes "bytes") (length xs))
      ++ marked_digits (level + 1) path first (length xs) (encode_lower xs)

  -- The lines of the list of bytes `xs`, where the first line has no mark. If `xs` is a text, the text stands between
  -- quotes. Otherwise the lines show digits.
  abbrev pub text_or_digits : ℕ → List ℕ → ℕ → List ℕ → List ℕ
  text_or_digits level path first xs =
      if is_text xs then quoted_line level xs else digit_lines level path first xs

  -- The lines of the list of numbers `xs`, where the first line has no mark.
  abbrev pub marked_numbers : NumberWidth → ℕ → List ℕ → ℕ → List ℕ → List ℕ
  marked_numbers bit level path first xs =
      line level (named (codes "bits") (length xs))
      ++ marked_digits (level + 1) path first (length xs) (digits_of (map is_set xs))
  marked_numbers byte level path first xs =
      if marks.quoted then text_or_digits level path first xs else digit_lines level path first xs
  marked_numbers a level path first xs =
      line level (named (numbers_name a) (length xs))
      ++ marked_lines (bits_in a / 8) (number_line (level + 1)) path first xs

-- ---- the text

module _ (m : List (List ℕ)) (marks : Marks) where
  -- The offset in bytes of the word of `m` at `at`.
  abbrev pub byte_at : Place → ℕ
  byte_at at = byte_of (first_byte marks) m at

  abbrev mutual
    -- The lines of a value whose slot has the target `found`, where the first line has no mark.
    pub unmarked : ℕ → List ℕ → Target → Tree → List ℕ
    unmarked level path found nil = line level (codes "null")
    unmarked level path found (node ws ss) =
        body_line level (length ws) (count ss)
        ++ (marked_lines marks 8 (word_line (level + 1)) path (byte_at (begin found)) ws
        ++ marked_slots (level + 1) path (step_place found) 0 ss)
    unmarked level path found (voids n) = line level (named (codes "void") n)
    unmarked level path found (numbers a xs) = marked_numbers marks a level path (byte_at (begin found)) xs
    unmarked level path found (links ts) =
        line level (named (codes "pointers") (count ts)) ++ marked_slots (level + 1) path (step_place found) 0 ts
    unmarked level path found (rows bs) =
        line level (named (codes "rows") (count_rows bs)) ++ marked_rows (level + 1) path (row_of found) 0 bs
    unmarked level path found (cap k) = line level (named (codes "capability") k)

    -- The lines of the values in consecutive slots, of which the first is item `i` of an object. The slot of item `i`
    -- lies at `place i`, and the mark of item `i` has the offset of that place.
    pub marked_slots : ℕ → List ℕ → (ℕ → Place) → ℕ → Trees → List ℕ
    marked_slots level path place i no_trees = []
    marked_slots level path place i (tree t ts) =
        (mark marks (byte_at (place i)) (below path i)
        ++ unmarked level (below path i) (named_by (target m (place i))) t)
        ++ marked_slots level path place (suc i) ts

    -- The lines of consecutive rows, of which the first is item `i` of a list. The mark of item `i` has the offset at
    -- which `row i` begins.
    pub marked_rows : ℕ → List ℕ → (ℕ → Target) → ℕ → Bodies → List ℕ
    marked_rows level path row i no_bodies = []
    marked_rows level path row i (body ws ss bs) =
        (mark marks (byte_at (begin (row i))) (below path i)
        ++ (body_line level (length ws) (count ss)
        ++ (marked_lines marks 8 (word_line (level + 1)) (below path i) (byte_at (begin (row i))) ws
        ++ marked_slots (level + 1) (below path i) (step_place (row i)) 0 ss)))
        ++ marked_rows level path row (suc i) bs

  -- The lines with marks of the value `t` in the slot at `at`, which has the path `path`.
  abbrev pub marked_slot : ℕ → List ℕ → Place → Tree → List ℕ
  marked_slot level path at t =
      mark marks (byte_at at) path ++ unmarked level path (named_by (target m at)) t

  -- The lines with marks of the value `t` at the root.
  abbrev pub marked_text : Tree → List ℕ
  marked_text t = marked_slot 0 [] root t

-- ---- examples: marks, and a struct of one word and one slot that is null, in a message whose words begin at byte 8

both_marks : mark (record { offsets = true; ways = true; quoted = false; offset = 0; table = 0 }) 40
    (below (codes "0") 3)
    ≡ codes "40\t0.3\t"
unfolding digits
both_marks = refl

the_root : path_mark true [] ≡ codes "root\t"
the_root = refl

no_marks : mark (record { offsets = false; ways = false; quoted = false; offset = 0; table = 0 }) 40 (codes "0") ≡ []
no_marks = refl

second_segment : byte_of 16 ((1 ∷ 2 ∷ 3 ∷ []) ∷ (4 ∷ 5 ∷ []) ∷ []) (record { segment = 1; word = 1 }) ≡ 48
second_segment = refl

elements : marked_numbers (record { offsets = true; ways = false; quoted = false; offset = 0; table = 0 }) pair 0
    [] 16 (7 ∷ 9 ∷ [])
    ≡ codes "u16 2\n16\t  7\n18\t  9\n"
unfolding line digits
elements = refl

a_struct : marked_text ((281479271677952 ∷ 5 ∷ 0 ∷ []) ∷ []) (record {
  offsets = true;
  ways = true;
  quoted = false;
  offset = 0;
  table = 1;
}) (node (5 ∷ []) (tree nil no_trees))
    ≡ codes "8\troot\tstruct 1 1\n16\troot\t  word 0000000000000005\n24\t0\t  null\n"
unfolding line digits target pointer_of encode_with
a_struct = refl
