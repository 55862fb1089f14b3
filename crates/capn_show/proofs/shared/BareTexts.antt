-- The text that a rule of lines without marks gives for a value is the value's text in lines. (For `show_lines`,
-- `show_message` and capn_marks.)
use Rattle.std.proofs.Common.{◌≡◌, ℕ, zero, suc, ◌+◌, ◌*◌, List, [], ◌∷◌, ◌++◌, Bool, true, false, length, codes, map}
use Rattle.std.proofs.Common.{replicate, refl, sym, ap, ap₂, ◌∙◌, append_assoc, if◌then◌else◌}
use Rattle.std.specs.Fmt.{decimal}
use Rattle.hex.specs.Hex.{encode_lower}
use Rattle.capn_words.specs.declared.space.Place.{Place}
use Rattle.capn_value.specs.NumberWidth.{NumberWidth, bit, byte, pair, quad, oct, is_set}
use Rattle.capn_value.specs.Tree.{Tree, nil, node, voids, numbers, links, rows, cap, Trees}
use Rattle.capn_value.specs.Tree.{no_trees, tree, Bodies, no_bodies, body, count, count_rows}
use Rattle.capn_value.specs.Text.{line, named, one_line, hex16, digits_of, body_line, word_lines, number_lines}
use Rattle.capn_target.specs.declared.target.Target.{Target}
use Rattle.capn_target.specs.Target.{target}
use Rattle.capn_walk.specs.View.{step_place, row_of}
use Rattle.capn_show.specs.Descent.{begin, named_by}
use Rattle.capn_show.specs.Emitted.{Rule, line_rule, is_quoted, emitted, emitted_slots, emitted_rows}
use Rattle.capn_show.specs.Emitted.{emitted_items, emitted_digits, emitted_numbers}
use Rattle.capn_show.specs.Emitted.{digit_lines}
use Rattle.capn_quoted.specs.Texts.{is_text}
use Rattle.capn_show.specs.Quoting.{quoted_line, plain_bytes, shown_by, shown_each_by, shown_rows_by}
use Rattle.capn_show.specs.ReadyPlaces.{bytes_of}

pub line-is : (level : ℕ) (text : List ℕ) → line level text ≡ replicate (2 * level) 32 ++ (text ++ 10 ∷ [])
unfolding line
line-is level text = refl

module _ (quoted : Bool) (lies : List (List ℕ) → Place → ℕ) (below : List ℕ → ℕ → List ℕ)
    (mark : ℕ → List ℕ → List ℕ) (no-mark : (n : ℕ) (path : List ℕ) → mark n path ≡ []) where
  abbrev rule : Rule
  rule = line_rule quoted lies below mark

  -- ---- lines

  bare-words : (level : ℕ) (path : List ℕ) (i first : ℕ) (ws : List ℕ)
      → emitted_items rule 8 (λ w. line level (codes "word " ++ hex16 w)) [] path i first ws ≡ word_lines level ws
  bare-words level path i first [] = refl
  bare-words level path i first (w ∷ ws) =
      ap₂ (λ (x y : List ℕ). x ++ (line level (codes "word " ++ hex16 w) ++ y)) (no-mark first path)
      (bare-words level path (suc i) (first + 8) ws)

  bare-numbers : (size level : ℕ) (path : List ℕ) (i first : ℕ) (xs : List ℕ)
      → emitted_items rule size (λ n. line level (decimal n)) [] path i first xs ≡ number_lines level xs
  bare-numbers size level path i first [] = refl
  bare-numbers size level path i first (x ∷ xs) =
      ap₂ (λ (a b : List ℕ). a ++ (line level (decimal x) ++ b)) (no-mark first path)
      (bare-numbers size level path (suc i) (first + size) xs)

  bare-digits : (level : ℕ) (path : List ℕ) (first n : ℕ) (digits : List ℕ)
      → emitted_digits rule level path first n digits ≡ one_line level n digits
  bare-digits level path first zero digits = refl
  bare-digits level path first (suc n) digits =
      ap (λ (x : List ℕ). x ++ (replicate (2 * level) 32 ++ (digits ++ 10 ∷ []))) (no-mark first path)
      ∙ sym (line-is level digits)

  bare-bytes : (level : ℕ) (path : List ℕ) (first : ℕ) (xs : List ℕ)
      → digit_lines rule level path first xs ≡ plain_bytes level xs
  bare-bytes level path first xs =
      ap (λ (l : List ℕ). line level (named (codes "bytes") (length xs)) ++ l)
      (bare-digits (level + 1) path first (length xs) (encode_lower xs))

  bare-chosen : (asked : Bool) (level : ℕ) (path : List ℕ) (first : ℕ) (xs : List ℕ)
      → (if is_quoted asked xs then quoted_line level xs else digit_lines rule level path first xs)
      ≡ bytes_of asked level xs
  bare-chosen true level path first xs =
      ap (λ (l : List ℕ). if is_text xs then quoted_line level xs else l) (bare-bytes level path first xs)
  bare-chosen false level path first xs = bare-bytes level path first xs

  bare-list : (a : NumberWidth) (level : ℕ) (path : List ℕ) (first : ℕ) (xs : List ℕ)
      → emitted_numbers rule a level path first xs ≡ shown_by (bytes_of quoted) level (numbers a xs)
  bare-list bit level path first xs =
      ap (λ (l : List ℕ). line level (named (codes "bits") (length xs)) ++ l)
      (bare-digits (level + 1) path first (length xs) (digits_of (map is_set xs)))
  bare-list byte level path first xs = bare-chosen quoted level path first xs
  bare-list pair level path first xs =
      ap (λ (l : List ℕ). line level (named (codes "u16") (length xs)) ++ l)
      (bare-numbers 2 (level + 1) path 0 first xs)
  bare-list quad level path first xs =
      ap (λ (l : List ℕ). line level (named (codes "u32") (length xs)) ++ l)
      (bare-numbers 4 (level + 1) path 0 first xs)
  bare-list oct level path first xs =
      ap (λ (l : List ℕ). line level (named (codes "u64") (length xs)) ++ l)
      (bare-numbers 8 (level + 1) path 0 first xs)

  -- ---- values

  module _ (m : List (List ℕ)) where
    abbrev by : ℕ → List ℕ → List ℕ
    by = bytes_of quoted

    mutual
      pub bare : (level : ℕ) (path : List ℕ) (found : Target) (t : Tree)
          → emitted m rule level path found t ≡ shown_by by level t
      bare level path found nil = refl
      bare level path found (node ws ss) =
          ap₂ (λ (x y : List ℕ). body_line level (length ws) (count ss) ++ (x ++ y))
          (bare-words (level + 1) path 0 (lies m (begin found)) ws) (bare-each (level + 1) path (step_place found) 0 ss)
      bare level path found (voids n) = refl
      bare level path found (numbers a xs) = bare-list a level path (lies m (begin found)) xs
      bare level path found (links ts) =
          ap (λ (l : List ℕ). line level (named (codes "pointers") (count ts)) ++ l)
          (bare-each (level + 1) path (step_place found) 0 ts)
      bare level path found (rows bs) =
          ap (λ (l : List ℕ). line level (named (codes "rows") (count_rows bs)) ++ l)
          (bare-rows (level + 1) path (row_of found) 0 bs)
      bare level path found (cap k) = refl

      bare-each : (level : ℕ) (path : List ℕ) (place : ℕ → Place) (i : ℕ) (ts : Trees)
          → emitted_slots m rule level path place i ts ≡ shown_each_by by level ts
      bare-each level path place i no_trees = refl
      bare-each level path place i (tree t ts) =
          ap₂ (λ (x y : List ℕ). x ++ y)
          (ap₂ (λ (x y : List ℕ). x ++ y) (no-mark (lies m (place i)) (below path i))
          (bare level (below path i) (named_by (target m (place i))) t)) (bare-each level path place (suc i) ts)

      bare-rows : (level : ℕ) (path : List ℕ) (row : ℕ → Target) (i : ℕ) (bs : Bodies)
          → emitted_rows m rule level path row i bs ≡ shown_rows_by by level bs
      bare-rows level path row i no_bodies = refl
      bare-rows level path row i (body ws ss bs) =
          let first = body_line level (length ws) (count ss) in
          let words = word_lines (level + 1) ws in
          let slots = shown_each_by by (level + 1) ss in
          let rest = shown_rows_by by level bs in
          ap₂ (λ (x y : List ℕ). x ++ y)
          (ap₂ (λ (x y : List ℕ). x ++ y) (no-mark (lies m (begin (row i))) (below path i))
          (ap₂ (λ (x y : List ℕ). first ++ (x ++ y))
          (bare-words (level + 1) (below path i) 0 (lies m (begin (row i))) ws)
          (bare-each (level + 1) (below path i) (step_place (row i)) 0 ss))) (bare-rows level path row (suc i) bs)
          ∙ append_assoc first (words ++ slots) rest
          ∙ ap (λ (l : List ℕ). first ++ l) (append_assoc words slots rest)
