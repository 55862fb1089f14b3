-- Lemmas for the law `texts`: a tree is read from its own text, and from no other text.
use Rattle.std.proofs.Common.{◌≡◌, ℕ, zero, suc, ◌+◌, ◌^◌, ◌≤◌, ◌<◌, Bool, List, [], ◌∷◌, ◌++◌, length, Option}
use Rattle.std.proofs.Common.{Some}
use Rattle.std.proofs.Common.{map, refl, sym, ap, ap₂, ◌∙◌, append_assoc, arith}
use Rattle.std.specs.Prelude.{⊤}
use Rattle.std.specs.List.{AllByRecursion}
use Rattle.hex.specs.Hex.{encode_lower}
use Rattle.std.specs.Int.{from_bool}
use Rattle.capn_value.specs.NumberWidth.{bit, byte, pair, quad, oct, is_set}
use Rattle.capn_value.specs.Tree.{Tree, nil, node, voids, numbers, links, rows, cap, Trees}
use Rattle.capn_value.specs.Tree.{no_trees, tree, Bodies, no_bodies, body, count, count_rows}
use Rattle.capn_value.specs.TreeOf.{trees, rows_from}
use Rattle.capn_value.specs.Cost.{height, greatest, greatest_in_rows}
use Rattle.capn_value.specs.InRange.{AllBelow}
use Rattle.capn_value.specs.Text.{line, body_line, word_lines, number_lines, digits_of, one_line, shown, shown_each}
use Rattle.capn_value.specs.Text.{shown_rows}
use Rattle.capn_text.specs.inner.Tokens.{◌>>=◌, byte_at, bit_at, many, word_line_at, number_line_at, row_line_at}
use Rattle.capn_text.specs.inner.Values.{Holds, head_at, leaf_at, body_at, row_of, row_at, content_at, low_at, tree_at}
use Rattle.std.proofs.lemmas.List.{length-map}
use Rattle.capn_value.proofs.shared.Bits.{bits_back}
use Rattle.capn_text.specs.Showable.{IsShowable, EachShowable, RowsShowable}
use Rattle.capn_text.specs.declared.heads.Leaf.TheVariants as leaves
use Rattle.capn_text.specs.declared.heads.Name.TheVariants as names
use Rattle.capn_text.specs.declared.heads.Head.{Head}
use Rattle.capn_text.specs.declared.heads.Head.TheVariants as heads
use Rattle.capn_text.proofs.Steps.{some_is, many_again}
use Rattle.capn_text.proofs.TokenText.{one_byte, byte_again, encode_none, encode_more}
use Rattle.capn_text.proofs.Numbers.{word_text, word_line_again, number_text, number_line_again}
use Rattle.capn_text.proofs.Numbers.{one_digit, bit_again, row_again}
use Rattle.capn_text.proofs.HeadText.{head_text, head_again}

-- ---- trees and rows as lists

listed : Trees → List Tree
listed no_trees = []
listed (tree t ts) = t ∷ listed ts

trees-listed : (ts : Trees) → trees (listed ts) ≡ ts
unfolding listed
trees-listed no_trees = refl
trees-listed (tree t ts) = ap (tree t) (trees-listed ts)

length-listed : (ts : Trees) → length (listed ts) ≡ count ts
unfolding listed
length-listed no_trees = refl
length-listed (tree t ts) = ap suc (length-listed ts)

pub count-trees : (ts : List Tree) → count (trees ts) ≡ length ts
count-trees [] = refl
count-trees (t ∷ ts) = ap suc (count-trees ts)

listed_rows : Bodies → List (List ℕ × Trees)
listed_rows no_bodies = []
listed_rows (body ws ss bs) = (ws, ss) ∷ listed_rows bs

rows-listed : (bs : Bodies) → rows_from (listed_rows bs) ≡ bs
unfolding listed_rows
rows-listed no_bodies = refl
rows-listed (body ws ss bs) = ap (body ws ss) (rows-listed bs)

length-listed_rows : (bs : Bodies) → length (listed_rows bs) ≡ count_rows bs
unfolding listed_rows
length-listed_rows no_bodies = refl
length-listed_rows (body ws ss bs) = ap suc (length-listed_rows bs)

pub count-rows : (bs : List (List ℕ × Trees)) → count_rows (rows_from bs) ≡ length bs
count-rows [] = refl
count-rows (b ∷ bs) = ap suc (count-rows bs)

-- ---- the texts of the data words, slots and rows of a value

abbrev pub body_text : ℕ → List ℕ × Trees → List ℕ
body_text level b = word_lines (level + 1) b.0 ++ shown_each (level + 1) b.1

abbrev pub row_text : ℕ → List ℕ × Trees → List ℕ
row_text level b = body_line level (length b.0) (count b.1) ++ body_text level b

abbrev pub each_text : ℕ → List Tree → List ℕ
each_text level ts = shown_each level (trees ts)

abbrev pub rows_text : ℕ → List (List ℕ × Trees) → List ℕ
rows_text level bs = shown_rows level (rows_from bs)

pub rows_text-cons : (level : ℕ) (b : List ℕ × Trees) (bs : List (List ℕ × Trees))
    → rows_text level (b ∷ bs) ≡ row_text level b ++ rows_text level bs
rows_text-cons level b bs =
    let first = body_line level (length b.0) (count b.1) in
    let ws = word_lines (level + 1) b.0 in
    let ss = shown_each (level + 1) b.1 in
    ap (λ x. first ++ x) (sym (append_assoc ws ss (rows_text level bs)))
    ∙ sym (append_assoc first (ws ++ ss) (rows_text level bs))

-- ---- the text of a tree is read

abbrev Again : ℕ → Type 0
Again room = (level : ℕ) (t : Tree) (rest : List ℕ) → height t ≤ room → IsShowable t
    → tree_at room level (shown level t ++ rest) ≡ Some (t, rest)

abbrev Below : ℕ → Tree → Type 0
Below room t = (height t ≤ room) × IsShowable t

each_below : (room : ℕ) (ts : Trees) → greatest ts ≤ room → EachShowable ts → AllByRecursion (Below room) (listed ts)
unfolding listed
each_below room no_trees low s = tt
each_below room (tree t ts) low s = ((omega arith, s.0), each_below room ts (omega arith) s.1)

module _ (room : ℕ) (again : Again room) where
  each_again : (level : ℕ) (ts : Trees) (rest : List ℕ) → greatest ts ≤ room → EachShowable ts
      → many (tree_at room level) (count ts) (shown_each level ts ++ rest) ≡ Some (listed ts, rest)
  each_again level ts rest low s =
      let h = many_again (tree_at room level) (shown level) (each_text level) (Below room) refl (λ x xs. refl)
      (λ x r p. again level x r p.0 p.1) (listed ts) rest (each_below room ts low s) in
      ap₂ (λ n us. many (tree_at room level) n (shown_each level us ++ rest)) (sym (length-listed ts))
      (sym (trees-listed ts)) ∙ h

  body_again : (level : ℕ) (ws : List ℕ) (ss : Trees) (rest : List ℕ) → AllBelow (2 ^ 64) ws → greatest ss ≤ room
      → EachShowable ss
      → body_at (tree_at room) level (length ws) (count ss) (body_text level (ws, ss) ++ rest) ≡ Some ((ws, ss), rest)
  unfolding body_at
  body_again level ws ss rest fits low s =
      let slots = shown_each (level + 1) ss ++ rest in
      let words : many (word_line_at (level + 1)) (length ws) (word_lines (level + 1) ws ++ slots) ≡ Some (ws, slots) =
      many_again (word_line_at (level + 1)) (word_text (level + 1)) (word_lines (level + 1)) (λ w. w < 2 ^ 64) refl
      (λ x xs. refl) (word_line_again (level + 1)) ws slots fits in
      ap (λ t. many (word_line_at (level + 1)) (length ws) t >>= λ xs. many (tree_at room (level + 1)) (count ss) xs.1
      >>= λ us. Some ((xs.0, trees us.0), us.1))
      (append_assoc (word_lines (level + 1) ws) (shown_each (level + 1) ss) rest)
      ∙ ap (λ (r : Option (List ℕ × List ℕ)). r >>= λ xs. many (tree_at room (level + 1)) (count ss) xs.1
      >>= λ us. Some ((xs.0, trees us.0), us.1)) words
      ∙ ap (λ (r : Option (List Tree × List ℕ)). r >>= λ us. Some ((ws, trees us.0), us.1))
      (each_again (level + 1) ss rest low s)
      ∙ ap (λ us. Some ((ws, us), rest)) (trees-listed ss)

  abbrev IsRow : List ℕ × Trees → Type 0
  IsRow b = (length b.0 < 2 ^ 64) × (count b.1 < 2 ^ 64) × AllBelow (2 ^ 64) b.0 × EachShowable b.1 ×
      (greatest b.1 ≤ room)

  pub row_one : (level : ℕ) (b : List ℕ × Trees) (rest : List ℕ) → IsRow b
      → row_at (tree_at room) level (row_text level b ++ rest) ≡ Some (b, rest)
  unfolding row_at
  row_one level b rest p =
      let first = body_line level (length b.0) (count b.1) in
      ap (λ t. head_at level t >>= λ h. row_of (tree_at room) level h.0 h.1)
      (append_assoc first (body_text level b) rest)
      ∙ ap (λ (r : Option (Head × List ℕ)). r >>= λ h. row_of (tree_at room) level h.0 h.1)
      (head_again level (heads.Struct (length b.0) (count b.1)) (body_text level b ++ rest) (p.0, p.1))
      ∙ body_again level b.0 b.1 rest p.2 p.4 p.3

  rows_fit : (bs : Bodies) → greatest_in_rows bs ≤ room → RowsShowable bs → AllByRecursion IsRow (listed_rows bs)
  unfolding listed_rows
  rows_fit no_bodies low s = tt
  rows_fit (body ws ss bs) low s = ((s.0, s.1, s.2, s.3, omega arith), rows_fit bs (omega arith) s.4)

  rows_again : (level : ℕ) (bs : Bodies) (rest : List ℕ) → greatest_in_rows bs ≤ room → RowsShowable bs
      → many (row_at (tree_at room) level) (count_rows bs) (shown_rows level bs ++ rest) ≡ Some (listed_rows bs, rest)
  rows_again level bs rest low s =
      let h = many_again (row_at (tree_at room) level) (row_text level) (rows_text level) IsRow refl
      (rows_text-cons level) (row_one level) (listed_rows bs) rest (rows_fit bs low s) in
      ap₂ (λ n cs. many (row_at (tree_at room) level) n (shown_rows level cs ++ rest)) (sym (length-listed_rows bs))
      (sym (rows-listed bs)) ∙ h

every_bit : (xs : List Bool) → AllByRecursion (λ _. ⊤) xs
every_bit [] = tt
every_bit (x ∷ xs) = (tt, every_bit xs)

numbers_again : (greatest level : ℕ) → greatest < 2 ^ 64 → (xs : List ℕ) (rest : List ℕ)
    → AllBelow (suc greatest) xs
    → many (number_line_at greatest level) (length xs) (number_lines level xs ++ rest) ≡ Some (xs, rest)
numbers_again greatest level top xs rest fits =
    many_again (number_line_at greatest level) (number_text level) (number_lines level) (λ n. n < suc greatest) refl
    (λ x ys. refl) (number_line_again greatest level top) xs rest fits

lowest : (level : ℕ) (h : Head) (rest : List ℕ) → Holds h
    → tree_at 0 level (line level (head_text h) ++ rest) ≡ low_at h rest
unfolding tree_at
lowest level h rest fits =
    ap (λ (r : Option (Head × List ℕ)). r >>= λ k. low_at k.0 k.1) (head_again level h rest fits)

plain : (room level : ℕ) (h : Head) (rest : List ℕ) → Holds h
    → tree_at (suc room) level (line level (head_text h) ++ rest) ≡ content_at (tree_at room) level h rest
unfolding tree_at
plain room level h rest fits =
    ap (λ (r : Option (Head × List ℕ)). r >>= λ k. content_at (tree_at room) level k.0 k.1)
    (head_again level h rest fits)

step : (room level : ℕ) (h : Head) (content rest : List ℕ) → Holds h
    → tree_at (suc room) level ((line level (head_text h) ++ content) ++ rest)
    ≡ content_at (tree_at room) level h (content ++ rest)
step room level h content rest fits =
    ap (tree_at (suc room) level) (append_assoc (line level (head_text h)) content rest)
    ∙ plain room level h (content ++ rest) fits

pub tree_again : (room : ℕ) → Again room
unfolding leaf_at
tree_again zero level nil rest low s = lowest level heads.Null rest tt
tree_again zero level (node ws ss) rest low s = absurd (omega arith)
tree_again zero level (voids n) rest low s = absurd (omega arith)
tree_again zero level (numbers a xs) rest low s = absurd (omega arith)
tree_again zero level (links ts) rest low s = absurd (omega arith)
tree_again zero level (rows bs) rest low s = absurd (omega arith)
tree_again zero level (cap k) rest low s = lowest level (heads.Named names.Cap k) rest (omega arith)
tree_again (suc room) level nil rest low s = plain room level heads.Null rest tt
tree_again (suc room) level (node ws ss) rest low s =
    step room level (heads.Struct (length ws) (count ss)) (body_text level (ws, ss)) rest (s.0, s.1)
    ∙ ap (λ (r : Option ((List ℕ × Trees) × List ℕ)). r >>= λ b. Some (node b.0.0 b.0.1, b.1))
    (body_again room (tree_again room) level ws ss rest s.2 (omega arith) s.3)
tree_again (suc room) level (voids n) rest low s =
    plain room level (heads.Named (names.Leaf leaves.Voids) n) rest (omega arith)
tree_again (suc room) level (numbers bit xs) rest low s =
    let bs = map is_set xs in
    step room level (heads.Named (names.Leaf leaves.Bits) (length xs))
    (one_line (level + 1) (length xs) (digits_of bs)) rest (omega (arith, s.0))
    ∙ ap (λ n. row_line_at bit_at (level + 1) n (one_line (level + 1) n (digits_of bs) ++ rest)
    >>= λ x. Some (numbers bit (map from_bool x.0), x.1)) (sym (length-map xs is_set))
    ∙ ap (λ (r : Option (List Bool × List ℕ)). r >>= λ x. Some (numbers bit (map from_bool x.0), x.1))
    (row_again bit_at one_digit digits_of (λ _. ⊤) refl (λ x ys. refl) (level + 1) bit_again bs rest (every_bit bs))
    ∙ ap (λ ys. Some (numbers bit ys, rest)) (bits_back xs s.1)
tree_again (suc room) level (numbers byte xs) rest low s =
    step room level (heads.Named (names.Leaf leaves.Bytes) (length xs))
    (one_line (level + 1) (length xs) (encode_lower xs)) rest (omega (arith, s.0))
    ∙ ap (λ (r : Option (List ℕ × List ℕ)). r >>= λ x. Some (numbers byte x.0, x.1))
    (row_again byte_at one_byte encode_lower (λ b. b < 2 ^ 8) encode_none encode_more
    (level + 1) byte_again xs rest s.1)
tree_again (suc room) level (numbers pair xs) rest low s =
    step room level (heads.Named (names.Leaf leaves.Pairs) (length xs)) (number_lines (level + 1) xs) rest
    (omega (arith, s.0))
    ∙ ap (λ (r : Option (List ℕ × List ℕ)). r >>= λ x. Some (numbers pair x.0, x.1))
    (numbers_again 65535 (level + 1) (omega arith) xs rest s.1)
tree_again (suc room) level (numbers quad xs) rest low s =
    step room level (heads.Named (names.Leaf leaves.Quads) (length xs)) (number_lines (level + 1) xs) rest
    (omega (arith, s.0))
    ∙ ap (λ (r : Option (List ℕ × List ℕ)). r >>= λ x. Some (numbers quad x.0, x.1))
    (numbers_again 4294967295 (level + 1) (omega arith) xs rest s.1)
tree_again (suc room) level (numbers oct xs) rest low s =
    step room level (heads.Named (names.Leaf leaves.Octs) (length xs)) (number_lines (level + 1) xs) rest
    (omega (arith, s.0))
    ∙ ap (λ (r : Option (List ℕ × List ℕ)). r >>= λ x. Some (numbers oct x.0, x.1))
    (numbers_again 18446744073709551615 (level + 1) (omega arith) xs rest s.1)
tree_again (suc room) level (links ts) rest low s =
    step room level (heads.Named names.Links (count ts)) (shown_each (level + 1) ts) rest (omega (arith, s.0))
    ∙ ap (λ (r : Option (List Tree × List ℕ)). r >>= λ us. Some (links (trees us.0), us.1))
    (each_again room (tree_again room) (level + 1) ts rest (omega arith) s.1)
    ∙ ap (λ us. Some (links us, rest)) (trees-listed ts)
tree_again (suc room) level (rows bs) rest low s =
    step room level (heads.Named names.Rows (count_rows bs)) (shown_rows (level + 1) bs) rest (omega (arith, s.0))
    ∙ ap (λ (r : Option (List (List ℕ × Trees) × List ℕ)). r >>= λ cs. Some (rows (rows_from cs.0), cs.1))
    (rows_again room (tree_again room) (level + 1) bs rest (omega arith) s.1)
    ∙ ap (λ cs. Some (rows cs, rest)) (rows-listed bs)
tree_again (suc room) level (cap k) rest low s =
    plain room level (heads.Named names.Cap k) rest (omega arith)

-- The law `TextsAreApart` holds.
pub apart : (level : ℕ) (v w : Tree) (x y : List ℕ) → IsShowable v → IsShowable w
    → shown level v ++ x ≡ shown level w ++ y → (v ≡ w) × (x ≡ y)
apart level v w x y sv sw e =
    let room = suc (height v + height w) in
    let one = tree_again room level v x (omega arith) sv in
    let other = tree_again room level w y (omega arith) sw in
    let p = some_is (v, x) (w, y) (sym one ∙ ap (tree_at room level) e ∙ other) in
    (ap (λ (q : Tree × List ℕ). q.0) p, ap (λ (q : Tree × List ℕ). q.1) p)
