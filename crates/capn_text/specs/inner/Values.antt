-- The reading of a tree from its text: the first line of a value, and then the values in it. (Our own.)
use Rattle.std.specs.Prelude.{ℕ, zero, suc, ◌+◌, List, [], ◌∷◌, Option, Some, None, nat_le, cond, codes, length, map}
use Rattle.std.specs.Prelude.{◌==◌, ◌≤◌, ◌<◌, ◌^◌, ⊤}
use Rattle.std.specs.Int.{from_bool}
use Rattle.capn_value.specs.NumberWidth.{bit, byte, pair, quad, oct}
use Rattle.capn_value.specs.Tree.{Tree, nil, node, voids, numbers, links, rows, cap, Trees}
use Rattle.capn_value.specs.TreeOf.{trees, rows_from}
use Rattle.capn_text.specs.inner.Tokens.{◌>>=◌, strip, indent_at, decimal_at, byte_at, bit_at, many, word_line_at}
use Rattle.capn_text.specs.inner.Tokens.{number_line_at}
use Rattle.capn_text.specs.inner.Tokens.{row_line_at}
use Rattle.capn_text.specs.declared.heads.Leaf.{Leaf}
use Rattle.capn_text.specs.declared.heads.Leaf.TheVariants as leaves
use Rattle.capn_text.specs.declared.heads.Name.{Name}
use Rattle.capn_text.specs.declared.heads.Name.TheVariants as names
use Rattle.capn_text.specs.declared.heads.Head.{Head}
use Rattle.capn_text.specs.declared.heads.Head.TheVariants as heads

-- `name` and `rest` if the first argument is `Some rest`, and `other` otherwise.
abbrev pub or_else : Option (List ℕ) → Name → Option (Name × List ℕ) → Option (Name × List ℕ)
or_else (Some rest) name other = Some (name, rest)
or_else None name other = other

-- The name that is at the front of `line` with a space after it, or `None`.
unfoldable pub name_at : List ℕ → Option (Name × List ℕ)
name_at line =
    or_else (strip (codes "pointers ") line) names.Links
    (or_else (strip (codes "rows ") line) names.Rows
    (or_else (strip (codes "void ") line) (names.Leaf leaves.Voids)
    (or_else (strip (codes "bits ") line) (names.Leaf leaves.Bits)
    (or_else (strip (codes "bytes ") line) (names.Leaf leaves.Bytes)
    (or_else (strip (codes "u16 ") line) (names.Leaf leaves.Pairs)
    (or_else (strip (codes "u32 ") line) (names.Leaf leaves.Quads)
    (or_else (strip (codes "u64 ") line) (names.Leaf leaves.Octs)
    (or_else (strip (codes "capability ") line) names.Cap None))))))))

-- The first line of a struct, whose sizes are at the front of `text`, or `None`.
unfoldable pub sizes_at : List ℕ → Option (Head × List ℕ)
sizes_at text =
    decimal_at text >>= λ w. strip (32 ∷ []) w.1 >>= λ gap. decimal_at gap >>= λ s. strip (10 ∷ []) s.1
    >>= λ rest. Some (heads.Struct w.0 s.0, rest)

-- The greatest number that can stand after the name. It has 32 bits for `Cap` and `Voids`, and 64 bits for any other
-- name.
abbrev pub greatest_number : Name → ℕ
greatest_number names.Links = 18446744073709551615
greatest_number names.Rows = 18446744073709551615
greatest_number names.Cap = 4294967295
greatest_number (names.Leaf leaves.Voids) = 4294967295
greatest_number (names.Leaf leaves.Bits) = 18446744073709551615
greatest_number (names.Leaf leaves.Bytes) = 18446744073709551615
greatest_number (names.Leaf leaves.Pairs) = 18446744073709551615
greatest_number (names.Leaf leaves.Quads) = 18446744073709551615
greatest_number (names.Leaf leaves.Octs) = 18446744073709551615

-- The numbers of a first line are in range: below 2^64 for `Struct`, and at most `greatest_number name` for `Named`.
abbrev pub Holds : Head → Type 0
Holds heads.Null = ⊤
Holds (heads.Struct w s) = (w < 2 ^ 64) × (s < 2 ^ 64)
Holds (heads.Named name n) = n ≤ greatest_number name

-- The first line with the name and the number at the front of `line`, or `None`. The number has to be at most the
-- `greatest_number` of the name.
unfoldable pub named_at : List ℕ → Option (Head × List ℕ)
named_at line =
    name_at line >>= λ name. decimal_at name.1 >>= λ n. strip (10 ∷ []) n.1
    >>= λ rest. cond (nat_le n.0 (greatest_number name.0)) (Some (heads.Named name.0 n.0, rest)) None

-- The first line of a struct, read from `text`, if the first argument is `Some text`. Otherwise a first line with a
-- name, read from `line`.
abbrev pub struct_or : Option (List ℕ) → List ℕ → Option (Head × List ℕ)
struct_or (Some text) line = sizes_at text
struct_or None line = named_at line

-- `Null` and `rest` if the first argument is `Some rest`. Otherwise any other first line, read from `line`.
abbrev pub null_or : Option (List ℕ) → List ℕ → Option (Head × List ℕ)
null_or (Some rest) line = Some (heads.Null, rest)
null_or None line = struct_or (strip (codes "struct ") line) line

-- The first line of a value, read at `level` from the front of `text`, or `None`.
unfoldable pub head_at : ℕ → List ℕ → Option (Head × List ℕ)
head_at level text = indent_at level text >>= λ line. null_or (strip (codes "null\n") line) line

-- The list of `n` elements of the given kind, read from `text`, or `None`. Its first line, at `level`, stands before
-- `text`.
unfoldable pub leaf_at : ℕ → Leaf → ℕ → List ℕ → Option (Tree × List ℕ)
leaf_at level leaves.Voids n text = Some (voids n, text)
leaf_at level leaves.Bits n text =
    row_line_at bit_at (level + 1) n text >>= λ x. Some (numbers bit (map from_bool x.0), x.1)
leaf_at level leaves.Bytes n text = row_line_at byte_at (level + 1) n text >>= λ x. Some (numbers byte x.0, x.1)
leaf_at level leaves.Pairs n text = many (number_line_at 65535 (level + 1)) n text >>= λ x. Some (numbers pair x.0, x.1)
leaf_at level leaves.Quads n text =
    many (number_line_at 4294967295 (level + 1)) n text >>= λ x. Some (numbers quad x.0, x.1)
leaf_at level leaves.Octs n text =
    many (number_line_at 18446744073709551615 (level + 1)) n text >>= λ x. Some (numbers oct x.0, x.1)

-- Readers of values that contain other values. `below level` reads a contained value at `level`.
module _ (below : ℕ → List ℕ → Option (Tree × List ℕ)) where
  -- The `w` data words and the `s` slots of a struct, read from `text`, or `None`. The first line of the struct was at
  -- `level`.
  unfoldable pub body_at : ℕ → ℕ → ℕ → List ℕ → Option ((List ℕ × Trees) × List ℕ)
  body_at level w s text =
      many (word_line_at (level + 1)) w text >>= λ ws. many (below (level + 1)) s ws.1
      >>= λ ss. Some ((ws.0, trees ss.0), ss.1)

  -- The data words and the slots of a row, if the second argument is the first line of a struct, or else `None`. `text`
  -- begins after that line.
  abbrev pub row_of : ℕ → Head → List ℕ → Option ((List ℕ × Trees) × List ℕ)
  row_of level heads.Null text = None
  row_of level (heads.Struct w s) text = body_at level w s text
  row_of level (heads.Named name n) text = None

  -- The row at the front of `text`, whose first line is at `level`, or `None`.
  unfoldable pub row_at : ℕ → List ℕ → Option ((List ℕ × Trees) × List ℕ)
  row_at level text = head_at level text >>= λ h. row_of level h.0 h.1

  -- The value whose first line is the second argument, at `level`, or `None`. Its other lines are read from `text`.
  abbrev pub content_at : ℕ → Head → List ℕ → Option (Tree × List ℕ)
  content_at level heads.Null text = Some (nil, text)
  content_at level (heads.Named names.Cap n) text = Some (cap n, text)
  content_at level (heads.Struct w s) text = body_at level w s text >>= λ b. Some (node b.0.0 b.0.1, b.1)
  content_at level (heads.Named names.Links n) text =
      many (below (level + 1)) n text >>= λ ts. Some (links (trees ts.0), ts.1)
  content_at level (heads.Named names.Rows n) text =
      many (row_at (level + 1)) n text >>= λ bs. Some (rows (rows_from bs.0), bs.1)
  content_at level (heads.Named (names.Leaf leaf) n) text = leaf_at level leaf n text

-- Null or a capability, if the first argument is its first line. `None` for the first line of any other value.
abbrev pub low_at : Head → List ℕ → Option (Tree × List ℕ)
low_at heads.Null text = Some (nil, text)
low_at (heads.Struct w s) text = None
low_at (heads.Named names.Links n) text = None
low_at (heads.Named names.Rows n) text = None
low_at (heads.Named names.Cap n) text = Some (cap n, text)
low_at (heads.Named (names.Leaf leaf) n) text = None

-- The value at the front of `text`, whose first line is at `level`, or `None`. It is no higher than the first argument.
unfoldable pub tree_at : ℕ → ℕ → List ℕ → Option (Tree × List ℕ)
tree_at zero level text = head_at level text >>= λ h. low_at h.0 h.1
tree_at (suc room) level text = head_at level text >>= λ h. content_at (tree_at room) level h.0 h.1

-- The value whose text is all of `text`, or `None`. It has at most 256 levels.
unfoldable pub whole : List ℕ → Option Tree
whole text = tree_at 256 0 text >>= λ x. cond (length x.1 == 0) (Some x.0) None
