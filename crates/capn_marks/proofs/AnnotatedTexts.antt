-- The text that `rule_of marks` emits is the text with `marks`. (For `mark_there` and `without_marks`.)
use Rattle.std.proofs.Common.{◌≡◌, ℕ, zero, suc, ◌+◌, List, [], ◌∷◌, ◌++◌, Bool, true, false, length, codes, map}
use Rattle.std.proofs.Common.{refl, sym, ap, ap₂, if◌then◌else◌}
use Rattle.std.specs.Prelude.{⊤}
use Rattle.hex.specs.Hex.{encode_lower}
use Rattle.capn_words.specs.declared.space.Place.{Place}
use Rattle.capn_value.specs.NumberWidth.{NumberWidth, bit, byte, pair, quad, oct, is_set}
use Rattle.capn_value.specs.Tree.{Tree, nil, node, voids, numbers, links, rows, cap, Trees}
use Rattle.capn_value.specs.Tree.{no_trees, tree, Bodies, no_bodies, body, count, count_rows}
use Rattle.capn_value.specs.Text.{line, named, digits_of, body_line}
use Rattle.capn_target.specs.declared.target.Target.{Target}
use Rattle.capn_target.specs.Target.{target}
use Rattle.capn_walk.specs.View.{step_place, row_of}
use Rattle.capn_show.specs.Descent.{begin, named_by}
use Rattle.capn_show.specs.Emitted as by
use Rattle.capn_quoted.specs.Texts.{is_text}
use Rattle.capn_show.specs.Quoting.{quoted_line}
use Rattle.capn_show.proofs.shared.BareTexts.{line-is}
use Rattle.capn_marks.specs.declared.marks.Marks.{Marks}
use Rattle.capn_marks.specs.Annotation.{rule_of, stepped}
use Rattle.capn_marks.specs.Marked.{mark, offset_mark, path_mark, below, byte_at, marked_lines}
use Rattle.capn_marks.specs.Marked.{marked_digits, marked_numbers, digit_lines, text_or_digits, word_line, number_line}
use Rattle.capn_marks.specs.Marked.{unmarked, marked_slots, marked_rows}

-- The paths `v` and `w` are equal, or `ways` is false, so that no mark shows them.
abbrev pub Agree : Bool → List ℕ → List ℕ → Type 0
Agree true v w = v ≡ w
Agree false v w = ⊤

agree-below : (ways : Bool) (v w : List ℕ) (i : ℕ) → Agree ways v w → Agree ways (stepped ways v i) (below w i)
agree-below true v w i a = ap (λ (x : List ℕ). below x i) a
agree-below false v w i a = tt

agree-mark : (ways : Bool) (v w : List ℕ) → Agree ways v w → path_mark ways v ≡ path_mark ways w
agree-mark true v w a = ap (path_mark true) a
agree-mark false v w a = refl

pub agree : (ways : Bool) (v : List ℕ) → Agree ways v v
agree true v = refl
agree false v = tt

module _ (marks : Marks) where
  same-mark : (v w : List ℕ) (a : Agree marks.ways v w) (n : ℕ) → mark marks n v ≡ mark marks n w
  same-mark v w a n = ap (λ (l : List ℕ). offset_mark marks.offsets n ++ l) (agree-mark marks.ways v w a)

  -- ---- lines

  same-lines : (v w : List ℕ) (a : Agree marks.ways v w) (size : ℕ) (line_of : ℕ → List ℕ) (i first : ℕ)
      (xs : List ℕ)
      → by.emitted_items (rule_of marks) size line_of [] v i first xs ≡ marked_lines marks size line_of w first xs
  same-lines v w a size line_of i first [] = refl
  same-lines v w a size line_of i first (x ∷ xs) =
      ap₂ (λ (y z : List ℕ). y ++ (line_of x ++ z)) (same-mark v w a first)
      (same-lines v w a size line_of (suc i) (first + size) xs)

  same-digits : (v w : List ℕ) (a : Agree marks.ways v w) (level first n : ℕ) (digits : List ℕ)
      → by.emitted_digits (rule_of marks) level v first n digits ≡ marked_digits marks level w first n digits
  same-digits v w a level first zero digits = refl
  same-digits v w a level first (suc n) digits =
      ap₂ (λ (x y : List ℕ). x ++ y) (same-mark v w a first) (sym (line-is level digits))

  same-bytes : (v w : List ℕ) (a : Agree marks.ways v w) (level first : ℕ) (xs : List ℕ)
      → by.digit_lines (rule_of marks) level v first xs ≡ digit_lines marks level w first xs
  same-bytes v w a level first xs =
      ap (λ (l : List ℕ). line level (named (codes "bytes") (length xs)) ++ l)
      (same-digits v w a (level + 1) first (length xs) (encode_lower xs))

  same-chosen : (quoted : Bool) (v w : List ℕ) (a : Agree marks.ways v w) (level first : ℕ) (xs : List ℕ)
      → (if by.is_quoted quoted xs then quoted_line level xs else by.digit_lines (rule_of marks) level v first xs)
      ≡ (if quoted then text_or_digits marks level w first xs else digit_lines marks level w first xs)
  same-chosen true v w a level first xs =
      ap (λ (l : List ℕ). if is_text xs then quoted_line level xs else l) (same-bytes v w a level first xs)
  same-chosen false v w a level first xs = same-bytes v w a level first xs

  same-list : (k : NumberWidth) (v w : List ℕ) (a : Agree marks.ways v w) (level first : ℕ) (xs : List ℕ)
      → by.emitted_numbers (rule_of marks) k level v first xs ≡ marked_numbers marks k level w first xs
  same-list bit v w a level first xs =
      ap (λ (l : List ℕ). line level (named (codes "bits") (length xs)) ++ l)
      (same-digits v w a (level + 1) first (length xs) (digits_of (map is_set xs)))
  same-list byte v w a level first xs = same-chosen marks.quoted v w a level first xs
  same-list pair v w a level first xs =
      ap (λ (l : List ℕ). line level (named (codes "u16") (length xs)) ++ l)
      (same-lines v w a 2 (number_line (level + 1)) 0 first xs)
  same-list quad v w a level first xs =
      ap (λ (l : List ℕ). line level (named (codes "u32") (length xs)) ++ l)
      (same-lines v w a 4 (number_line (level + 1)) 0 first xs)
  same-list oct v w a level first xs =
      ap (λ (l : List ℕ). line level (named (codes "u64") (length xs)) ++ l)
      (same-lines v w a 8 (number_line (level + 1)) 0 first xs)

  -- ---- values

  module _ (m : List (List ℕ)) where
    mutual
      pub same : (v w : List ℕ) (a : Agree marks.ways v w) (level : ℕ) (found : Target) (t : Tree)
          → by.emitted m (rule_of marks) level v found t ≡ unmarked m marks level w found t
      same v w a level found nil = refl
      same v w a level found (node ws ss) =
          ap₂ (λ (x y : List ℕ). body_line level (length ws) (count ss) ++ (x ++ y))
          (same-lines v w a 8 (word_line (level + 1)) 0 (byte_at m marks (begin found)) ws)
          (same-each v w a (level + 1) (step_place found) 0 ss)
      same v w a level found (voids n) = refl
      same v w a level found (numbers k xs) = same-list k v w a level (byte_at m marks (begin found)) xs
      same v w a level found (links ts) =
          ap (λ (l : List ℕ). line level (named (codes "pointers") (count ts)) ++ l)
          (same-each v w a (level + 1) (step_place found) 0 ts)
      same v w a level found (rows bs) =
          ap (λ (l : List ℕ). line level (named (codes "rows") (count_rows bs)) ++ l)
          (same-rows v w a (level + 1) (row_of found) 0 bs)
      same v w a level found (cap k) = refl

      same-each : (v w : List ℕ) (a : Agree marks.ways v w) (level : ℕ) (place : ℕ → Place) (i : ℕ) (ts : Trees)
          → by.emitted_slots m (rule_of marks) level v place i ts ≡ marked_slots m marks level w place i ts
      same-each v w a level place i no_trees = refl
      same-each v w a level place i (tree t ts) =
          ap₂ (λ (x y : List ℕ). x ++ y)
          (ap₂ (λ (x y : List ℕ). x ++ y) (same-mark (stepped marks.ways v i) (below w i)
          (agree-below marks.ways v w i a) (byte_at m marks (place i)))
          (same (stepped marks.ways v i) (below w i) (agree-below marks.ways v w i a) level (named_by (target m
          (place i))) t)) (same-each v w a level place (suc i) ts)

      same-rows : (v w : List ℕ) (a : Agree marks.ways v w) (level : ℕ) (row : ℕ → Target) (i : ℕ) (bs : Bodies)
          → by.emitted_rows m (rule_of marks) level v row i bs ≡ marked_rows m marks level w row i bs
      same-rows v w a level row i no_bodies = refl
      same-rows v w a level row i (body ws ss bs) =
          ap₂ (λ (x y : List ℕ). x ++ y)
          (ap₂ (λ (x y : List ℕ). x ++ y) (same-mark (stepped marks.ways v i) (below w i)
          (agree-below marks.ways v w i a) (byte_at m marks (begin (row i))))
          (ap₂ (λ (x y : List ℕ). body_line level (length ws) (count ss) ++ (x ++ y))
          (same-lines (stepped marks.ways v i) (below w i) (agree-below marks.ways v w i a) 8 (word_line (level + 1)) 0
          (byte_at m marks (begin (row i))) ws)
          (same-each (stepped marks.ways v i) (below w i) (agree-below marks.ways v w i a) (level + 1) (step_place
          (row i)) 0 ss))) (same-rows v w a level row (suc i) bs)
