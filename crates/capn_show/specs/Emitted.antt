-- The text that an emitter writes for the values of a message, by the emitter's rule. (Our own.)
use Rattle.std.specs.Prelude.{ℕ, zero, suc, ◌+◌, ◌*◌, Bool, false, List, [], ◌∷◌, ◌++◌, length, map, codes}
use Rattle.std.specs.Prelude.{replicate, if◌then◌else◌}
use Rattle.std.specs.Fmt.{decimal}
use Rattle.hex.specs.Hex.{encode_lower}
use Rattle.capn_words.specs.declared.space.Place.{Place}
use Rattle.capn_words.specs.declared.pointer.Width.{Width}
use Rattle.capn_words.specs.declared.pointer.Width.TheVariants as widths
use Rattle.capn_value.specs.NumberWidth.{NumberWidth, bit, byte, pair, quad, oct, is_set}
use Rattle.capn_value.specs.Tree.{Tree, nil, node, voids, numbers, links, rows, cap, Trees}
use Rattle.capn_value.specs.Tree.{no_trees, tree, Bodies, no_bodies, body, count, count_rows}
use Rattle.capn_value.specs.Text.{line, named, hex16, digits_of, body_line}
use Rattle.capn_quoted.specs.Texts.{is_text}
use Rattle.capn_target.specs.declared.target.Target.{Target}
use Rattle.capn_target.specs.Target.{target}
use Rattle.capn_walk.specs.View.{step_place, row_of}
use Rattle.capn_show.specs.Descent.{begin, named_by}
use Rattle.capn_show.specs.Quoting.{quoted_line}
use Rattle.capn_show.specs.declared.piece.Piece.{Piece}
use Rattle.capn_show.specs.declared.piece.Piece.TheVariants as pieces

-- A rule of an emitter. `text` writes a list of bytes of which `is_text` is true, `mark` writes the text before an
-- item, and `piece` writes a piece. `lies` gives the offset in bytes of a place, and `below` extends a path by the
-- number of an item.
pub record Rule : Type 0 where
  pub is_text : List ℕ → Bool
  pub text : ℕ → List ℕ → List ℕ
  pub lies : List (List ℕ) → Place → ℕ
  pub below : List ℕ → ℕ → List ℕ
  pub mark : ℕ → ℕ → List ℕ → List ℕ
  pub piece : ℕ → Piece → List ℕ

-- ---- lines

-- The text of a piece in lines, at `level`. The text of `EndWords`, of `EndItems` and of `NoDigits` is empty.
abbrev pub line_piece : ℕ → Piece → List ℕ
line_piece level pieces.Nil = line level (codes "null")
line_piece level (pieces.Cap k) = line level (named (codes "capability") k)
line_piece level (pieces.Body a b) = body_line level a b
line_piece level (pieces.Word w) = line level (codes "word " ++ hex16 w)
line_piece level (pieces.Links n) = line level (named (codes "pointers") n)
line_piece level (pieces.Rows n) = line level (named (codes "rows") n)
line_piece level (pieces.Voids n) = line level (named (codes "void") n)
line_piece level (pieces.Bits n) = line level (named (codes "bits") n)
line_piece level (pieces.Bytes n) = line level (named (codes "bytes") n)
line_piece level (pieces.Pairs n) = line level (named (codes "u16") n)
line_piece level (pieces.Quads n) = line level (named (codes "u32") n)
line_piece level (pieces.Octs n) = line level (named (codes "u64") n)
line_piece level (pieces.Number width n) = line level (decimal n)
line_piece level pieces.Digits = replicate (2 * level) 32
line_piece level pieces.EndDigits = 10 ∷ []
line_piece level _ = []

-- True if `quoted` is true and the list of bytes `xs` is a text.
abbrev pub is_quoted : Bool → List ℕ → Bool
is_quoted quoted xs = if quoted then is_text xs else false

-- The rule of lines. A list of bytes that is a text is written between quotes if `quoted` is true. `lies`, `below` and
-- `mark` become fields of the rule.
abbrev pub line_rule : Bool → (List (List ℕ) → Place → ℕ) → (List ℕ → ℕ → List ℕ) → (ℕ → List ℕ → List ℕ) → Rule
line_rule quoted lies below mark = record {
  is_text = is_quoted quoted;
  text = quoted_line;
  lies = lies;
  below = below;
  mark = λ i. mark;
  piece = line_piece;
}

-- The rule of lines without marks. A list of bytes that is a text is written between quotes if `quoted` is true.
abbrev pub plain_rule : Bool → Rule
plain_rule quoted = line_rule quoted (λ m at. 0) (λ path i. path) (λ byte path. [])

-- ---- lists without pointers

module _ (rule : Rule) where
  -- The mark and the text `piece_of x` of each item `x`, from item `i` on, and then the text `end`. Item `i` lies at
  -- the byte `first`, and each item takes `size` bytes.
  abbrev pub emitted_items : ℕ → (ℕ → List ℕ) → List ℕ → List ℕ → ℕ → ℕ → List ℕ → List ℕ
  emitted_items size piece_of end path i first [] = end
  emitted_items size piece_of end path i first (x ∷ xs) =
      rule.mark i first path ++ (piece_of x ++ emitted_items size piece_of end path (suc i) (first + size) xs)

  -- The text of the given data words, at `level`. The first word lies at the byte `first`.
  abbrev pub emitted_words : ℕ → List ℕ → ℕ → List ℕ → List ℕ
  emitted_words level path first =
      emitted_items 8 (λ w. rule.piece level (pieces.Word w)) (rule.piece level pieces.EndWords) path 0 first

  -- The text of the given numbers of `width`, at `level`. The first number lies at the byte `first`, and each number
  -- takes `size` bytes.
  abbrev pub emitted_each : Width → ℕ → ℕ → List ℕ → ℕ → List ℕ → List ℕ
  emitted_each width size level path first =
      emitted_items size (λ n. rule.piece level (pieces.Number width n)) (rule.piece level pieces.EndItems) path 0 first

  -- The line of `digits` of a list whose first element lies at the byte `first`, or only the piece `NoDigits` if the
  -- list has no elements.
  abbrev pub emitted_digits : ℕ → List ℕ → ℕ → ℕ → List ℕ → List ℕ
  emitted_digits level path first zero digits = rule.piece level pieces.NoDigits
  emitted_digits level path first (suc n) digits =
      rule.mark 0 first path
      ++ (rule.piece level pieces.Digits ++ (digits ++ rule.piece level pieces.EndDigits))

  -- The text of the list of bytes `xs` in digits, at `level`. The first byte of `xs` lies at the offset `first`.
  abbrev pub digit_lines : ℕ → List ℕ → ℕ → List ℕ → List ℕ
  digit_lines level path first xs =
      rule.piece level (pieces.Bytes (length xs))
      ++ emitted_digits (level + 1) path first (length xs) (encode_lower xs)

  -- The text of the list of bytes `xs`: `rule.text` if `rule.is_text` is true of `xs`, and digits otherwise.
  abbrev pub text_or_digits : ℕ → List ℕ → ℕ → List ℕ → List ℕ
  text_or_digits level path first xs =
      if rule.is_text xs then rule.text level xs else digit_lines level path first xs

  -- The text of the list of numbers `xs`, at `level`, without the mark of the list. The first number lies at the byte
  -- `first`.
  abbrev pub emitted_numbers : NumberWidth → ℕ → List ℕ → ℕ → List ℕ → List ℕ
  emitted_numbers bit level path first xs =
      rule.piece level (pieces.Bits (length xs))
      ++ emitted_digits (level + 1) path first (length xs) (digits_of (map is_set xs))
  emitted_numbers byte level path first xs = text_or_digits level path first xs
  emitted_numbers pair level path first xs =
      rule.piece level (pieces.Pairs (length xs)) ++ emitted_each widths.W16 2 (level + 1) path first xs
  emitted_numbers quad level path first xs =
      rule.piece level (pieces.Quads (length xs)) ++ emitted_each widths.W32 4 (level + 1) path first xs
  emitted_numbers oct level path first xs =
      rule.piece level (pieces.Octs (length xs)) ++ emitted_each widths.W64 8 (level + 1) path first xs

-- ---- the text

module _ (m : List (List ℕ)) (rule : Rule) where
  abbrev mutual
    -- The text of a value, at `level`, without its mark. `found` is the target of the value, and `path` leads to the
    -- value.
    pub emitted : ℕ → List ℕ → Target → Tree → List ℕ
    emitted level path found nil = rule.piece level pieces.Nil
    emitted level path found (node ws ss) =
        rule.piece level (pieces.Body (length ws) (count ss))
        ++ (emitted_words rule (level + 1) path (rule.lies m (begin found)) ws
        ++ emitted_slots (level + 1) path (step_place found) 0 ss)
    emitted level path found (voids n) = rule.piece level (pieces.Voids n)
    emitted level path found (numbers a xs) = emitted_numbers rule a level path (rule.lies m (begin found)) xs
    emitted level path found (links ts) =
        rule.piece level (pieces.Links (count ts)) ++ emitted_slots (level + 1) path (step_place found) 0 ts
    emitted level path found (rows bs) =
        rule.piece level (pieces.Rows (count_rows bs)) ++ emitted_rows (level + 1) path (row_of found) 0 bs
    emitted level path found (cap k) = rule.piece level (pieces.Cap k)

    -- The marks and texts of the values in slots, from item `i` on, and then the piece `EndItems`. `place` gives the
    -- place of each slot.
    pub emitted_slots : ℕ → List ℕ → (ℕ → Place) → ℕ → Trees → List ℕ
    emitted_slots level path place i no_trees = rule.piece level pieces.EndItems
    emitted_slots level path place i (tree t ts) =
        (rule.mark i (rule.lies m (place i)) (rule.below path i)
        ++ emitted level (rule.below path i) (named_by (target m (place i))) t)
        ++ emitted_slots level path place (suc i) ts

    -- The marks and texts of rows, from item `i` on, and then the piece `EndItems`. `row` gives the target of each row.
    pub emitted_rows : ℕ → List ℕ → (ℕ → Target) → ℕ → Bodies → List ℕ
    emitted_rows level path row i no_bodies = rule.piece level pieces.EndItems
    emitted_rows level path row i (body ws ss bs) =
        (rule.mark i (rule.lies m (begin (row i))) (rule.below path i)
        ++ (rule.piece level (pieces.Body (length ws) (count ss))
        ++ (emitted_words rule (level + 1) (rule.below path i) (rule.lies m (begin (row i))) ws
        ++ emitted_slots (level + 1) (rule.below path i) (step_place (row i)) 0 ss)))
        ++ emitted_rows level path row (suc i) bs

  -- The text of the struct with the target `found`, the data words `ws` and the slots `ss`, without its mark.
  abbrev pub emitted_body : ℕ → List ℕ → Target → List ℕ → Trees → List ℕ
  emitted_body level path found ws ss = emitted level path found (node ws ss)

  -- The mark and the text of the value `t` in the slot at `at`. The slot is item `i` of its object.
  abbrev pub emitted_slot : ℕ → ℕ → List ℕ → Place → Tree → List ℕ
  emitted_slot level i path at t =
      rule.mark i (rule.lies m at) path ++ emitted level path (named_by (target m at)) t
