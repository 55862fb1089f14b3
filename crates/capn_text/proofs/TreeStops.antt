-- Lemmas for `contents.rt` and `leaves.rt`: the stops of the readers of trees.
use Rattle.std.proofs.Common.{◌≡◌, ◌+◌, ◌^◌, ◌<◌, ◌≤◌, ℕ, zero, suc, List, [], ◌++◌, Some}
use Rattle.std.proofs.Common.{map, refl, ap, subst, ◌∙◌, arith}
use Rattle.std.specs.Int.{from_bool}
use Rattle.capn_value.specs.NumberWidth.{bit, byte, pair, quad, oct}
use Rattle.capn_value.specs.Tree.{Tree, nil, node, voids, numbers, links, rows, cap, Trees}
use Rattle.capn_value.specs.Tree.{no_trees}
use Rattle.capn_value.specs.TreeOf.{trees, rows_from}
use Rattle.capn_value.specs.Text.{shown}
use Rattle.capn_text.specs.inner.Tokens.{◌>>=◌, byte_at, bit_at, word_line_at, number_line_at, row_line_at}
use Rattle.capn_text.specs.inner.Values.{head_at, leaf_at, body_at, row_of, row_at, content_at, low_at, tree_at}
use Rattle.capn_text.specs.declared.heads.Leaf.{Leaf}
use Rattle.capn_text.specs.declared.heads.Leaf.TheVariants as leaves
use Rattle.capn_text.specs.declared.heads.Name.TheVariants as names
use Rattle.capn_text.specs.declared.heads.Head.{Head}
use Rattle.capn_text.specs.declared.heads.Head.TheVariants as heads
use Rattle.capn_text.proofs.Steps.{bind_some, some_is}
use Rattle.capn_text.proofs.TreeOfText.{tree_again, row_text, row_one}
use Rattle.capn_text.proofs.LineStops.{word_local, word_full, number_local, number_full, bits_local, bits_full}
use Rattle.capn_text.proofs.LineStops.{bytes_local, bytes_full, head_local}
use Rattle.capn_text.proofs.StopLaws.{Reads, Local, Full, both, given, all, local_given, full_given, local_both}
use Rattle.capn_text.proofs.StopLaws.{full_both}
use Rattle.capn_text.proofs.StopLaws.{local_all, full_all}

-- The reader of a value at `level`, by its greatest height `r`.
abbrev pub tree_by : ℕ → Reads Tree
tree_by level r = tree_at r level

abbrev pub body_by : ℕ → ℕ → ℕ → Reads (List ℕ × Trees)
body_by level w s r = body_at (tree_at r) level w s

abbrev pub row_by : ℕ → Reads (List ℕ × Trees)
row_by level r = row_at (tree_at r) level

abbrev pub content_by : ℕ → Head → Reads Tree
content_by level h r = content_at (tree_at r) level h

abbrev pub words_by : ℕ → Reads ℕ
words_by level r = word_line_at level

abbrev pub numbers_by : ℕ → ℕ → Reads ℕ
numbers_by greatest level r = number_line_at greatest level

-- The reader of the `s` slots of a struct, which gives them with the data words `ws`.
abbrev pub slots_by : ℕ → ℕ → List ℕ → Reads (List ℕ × Trees)
slots_by level s ws = both (all (tree_by (level + 1)) s) (λ ss. given (ws, trees ss))

-- ---- the bytes that are read are complete lines

numbers_local : (greatest level n room : ℕ) (make : List ℕ → Tree) → greatest < 2 ^ 64
    → Local (both (all (numbers_by greatest level) n) (λ xs. given (make xs))) room
numbers_local greatest level n room make top =
    local_both (all (numbers_by greatest level) n) (λ xs. given (make xs)) room
    (local_all (numbers_by greatest level) room (number_local level greatest top room) n)
    (λ xs. local_given (make xs) room)

leaf_local : (level : ℕ) (leaf : Leaf) (n room : ℕ) → Local (λ r. leaf_at level leaf n) room
unfolding leaf_at
leaf_local level leaves.Voids n room = local_given (voids n) room
leaf_local level leaves.Bits n room =
    local_both (λ r. row_line_at bit_at (level + 1) n)
    (λ xs. given (numbers bit (map from_bool xs))) room (bits_local (level + 1) n room)
    (λ xs. local_given (numbers bit (map from_bool xs)) room)
leaf_local level leaves.Bytes n room =
    local_both (λ r. row_line_at byte_at (level + 1) n)
    (λ xs. given (numbers byte xs)) room (bytes_local (level + 1) n room) (λ xs. local_given (numbers byte xs) room)
leaf_local level leaves.Pairs n room = numbers_local 65535 (level + 1) n room (numbers pair) (omega arith)
leaf_local level leaves.Quads n room = numbers_local 4294967295 (level + 1) n room (numbers quad) (omega arith)
leaf_local level leaves.Octs n room = numbers_local 18446744073709551615 (level + 1) n room (numbers oct) (omega arith)

module _ (room : ℕ) (near : (level : ℕ) → Local (tree_by level) room) where
  slots_local : (level s : ℕ) (ws : List ℕ) → Local (slots_by level s ws) room
  slots_local level s ws =
      local_both (all (tree_by (level + 1)) s) (λ ss. given (ws, trees ss)) room
      (local_all (tree_by (level + 1)) room (near (level + 1)) s) (λ ss. local_given (ws, trees ss) room)

  pub body_local : (level w s : ℕ) → Local (body_by level w s) room
  unfolding body_at
  body_local level w s =
      local_both (all (words_by (level + 1)) w) (slots_by level s) room
      (local_all (words_by (level + 1)) room (word_local (level + 1) room) w) (slots_local level s)

  row_of_local : (level : ℕ) (h : Head) → Local (λ r. row_of (tree_at r) level h) room
  row_of_local level heads.Null t x after e = absurd cc
  row_of_local level (heads.Struct w s) t x after e = body_local level w s t x after e
  row_of_local level (heads.Named name n) t x after e = absurd cc

  pub row_local : (level : ℕ) → Local (row_by level) room
  unfolding row_at
  row_local level =
      local_both (λ r. head_at level) (λ h r. row_of (tree_at r) level h) room (head_local level room)
      (row_of_local level)

  pub content_local : (level : ℕ) (h : Head) → Local (content_by level h) room
  content_local level heads.Null = local_given nil room
  content_local level (heads.Named names.Cap n) = local_given (cap n) room
  content_local level (heads.Struct w s) =
      local_both (body_by level w s) (λ b. given (node b.0 b.1)) room (body_local level w s)
      (λ b. local_given (node b.0 b.1) room)
  content_local level (heads.Named names.Links n) =
      local_both (all (tree_by (level + 1)) n) (λ ts. given (links (trees ts))) room
      (local_all (tree_by (level + 1)) room (near (level + 1)) n) (λ ts. local_given (links (trees ts)) room)
  content_local level (heads.Named names.Rows n) =
      local_both (all (row_by (level + 1)) n) (λ bs. given (rows (rows_from bs))) room
      (local_all (row_by (level + 1)) room (row_local (level + 1)) n) (λ bs. local_given (rows (rows_from bs)) room)
  content_local level (heads.Named (names.Leaf leaf) n) = leaf_local level leaf n room

low_any : (h : Head) (t : List ℕ) (x : Tree) (after : List ℕ) → low_at h t ≡ Some (x, after)
    → (t ≡ after) × ((r level : ℕ) (z : List ℕ) → (low_at h z ≡ Some (x, z)) × (content_by level h r z ≡ Some (x, z)))
low_any heads.Null t x after e =
    let p = some_is (nil, t) (x, after) e in
    subst (λ (q : Tree × List ℕ). (t ≡ q.1) × ((r level : ℕ) (z : List ℕ) → (low_at heads.Null z ≡ Some (q.0, z))
    × (content_by level heads.Null r z ≡ Some (q.0, z)))) p (refl, λ r level z. (refl, refl))
low_any (heads.Struct w s) t x after e = absurd cc
low_any (heads.Named names.Links n) t x after e = absurd cc
low_any (heads.Named names.Rows n) t x after e = absurd cc
low_any (heads.Named names.Cap n) t x after e =
    let p = some_is (cap n, t) (x, after) e in
    subst (λ (q : Tree × List ℕ). (t ≡ q.1) × ((r level : ℕ) (z : List ℕ)
    → (low_at (heads.Named names.Cap n) z ≡ Some (q.0, z))
    × (content_by level (heads.Named names.Cap n) r z ≡ Some (q.0, z)))) p (refl, λ r level z. (refl, refl))
low_any (heads.Named (names.Leaf leaf) n) t x after e = absurd cc

by_height : (level : ℕ) (h : Head) (x : Tree) (c : List ℕ)
    → ((z : List ℕ) → head_at level (c ++ z) ≡ Some (h, z))
    → ((r : ℕ) (z : List ℕ) → (low_at h z ≡ Some (x, z)) × (content_by level h r z ≡ Some (x, z)))
    → (r : ℕ) (z : List ℕ) → tree_at r level (c ++ z) ≡ Some (x, z)
unfolding tree_at
by_height level h x c first second zero z = ap (λ o. o >>= λ k. low_at k.0 k.1) (first z) ∙ (second 0 z).0
by_height level h x c first second (suc r) z =
    ap (λ o. o >>= λ k. content_at (tree_at r) level k.0 k.1) (first z) ∙ (second r z).1

higher : (room level : ℕ) (x : Tree) (c : List ℕ)
    → ((r : ℕ) (z : List ℕ) → room ≤ r → tree_at (suc r) level (c ++ z) ≡ Some (x, z))
    → (r : ℕ) (z : List ℕ) → suc room ≤ r → tree_at r level (c ++ z) ≡ Some (x, z)
higher room level x c h zero z low = absurd (omega arith)
higher room level x c h (suc r) z low = h r z (omega arith)

pub tree_local : (room level : ℕ) → Local (tree_by level) room
unfolding tree_at
tree_local zero level t x after e =
    let h = bind_some (head_at level t) (λ k. low_at k.0 k.1) (x, after) e in
    let p = head_local level 0 t h.0.0 h.0.1 h.1 in
    let q = low_any h.0.0 h.0.1 x after h.2 in (
      p.0,
      p.1 ∙ ap (λ y. p.0 ++ y) q.0,
      p.2,
      λ r z low. by_height level h.0.0 x p.0 (λ y. p.3 0 y (omega arith)) (λ n y. q.1 n level y) r z,
    )
tree_local (suc room) level t x after e =
    let p = local_both (λ r. head_at level) (content_by level) room (head_local level room)
    (content_local room (λ l. tree_local room l) level) t x after e in
    (p.0, p.1, p.2, higher room level x p.0 p.3)

-- ---- something can be read, at any height

pub tree_full : (level : ℕ) → Full (tree_by level)
tree_full level =
    (shown level nil ++ [], nil, λ r. tree_again r level nil [] (omega arith) tt)

pub slots_full : (level s : ℕ) (ws : List ℕ) → Full (slots_by level s ws)
slots_full level s ws =
    full_both (all (tree_by (level + 1)) s) (λ ss. given (ws, trees ss))
    (local_all (tree_by (level + 1)) 0 (tree_local 0 (level + 1)) s)
    (full_all (tree_by (level + 1)) (λ r. tree_local r (level + 1)) (tree_full (level + 1)) s)
    (λ ss. full_given (ws, trees ss))

body_full : (level w s : ℕ) → Full (body_by level w s)
unfolding body_at
body_full level w s =
    full_both (all (words_by (level + 1)) w) (slots_by level s)
    (local_all (words_by (level + 1)) 0 (word_local (level + 1) 0) w)
    (full_all (words_by (level + 1)) (word_local (level + 1)) (word_full (level + 1)) w) (slots_full level s)

pub row_full : (level : ℕ) → Full (row_by level)
row_full level = (
  row_text level ([], no_trees) ++ [],
  ([], no_trees),
  λ r. row_one r (tree_again r) level ([], no_trees) [] (omega arith, omega arith, tt, tt, omega arith),
)

numbers_full : (greatest level n : ℕ) (make : List ℕ → Tree) → greatest < 2 ^ 64
    → Full (both (all (numbers_by greatest level) n) (λ xs. given (make xs)))
numbers_full greatest level n make top =
    full_both (all (numbers_by greatest level) n) (λ xs. given (make xs))
    (local_all (numbers_by greatest level) 0 (number_local level greatest top 0) n)
    (full_all (numbers_by greatest level) (number_local level greatest top) (number_full level greatest top) n)
    (λ xs. full_given (make xs))

leaf_full : (level : ℕ) (leaf : Leaf) (n : ℕ) → Full (λ r. leaf_at level leaf n)
unfolding leaf_at
leaf_full level leaves.Voids n = full_given (voids n)
leaf_full level leaves.Bits n =
    full_both (λ r. row_line_at bit_at (level + 1) n)
    (λ xs. given (numbers bit (map from_bool xs))) (bits_local (level + 1) n 0)
    (bits_full (level + 1) n) (λ xs. full_given (numbers bit (map from_bool xs)))
leaf_full level leaves.Bytes n =
    full_both (λ r. row_line_at byte_at (level + 1) n) (λ xs. given (numbers byte xs)) (bytes_local (level + 1) n 0)
    (bytes_full (level + 1) n) (λ xs. full_given (numbers byte xs))
leaf_full level leaves.Pairs n = numbers_full 65535 (level + 1) n (numbers pair) (omega arith)
leaf_full level leaves.Quads n = numbers_full 4294967295 (level + 1) n (numbers quad) (omega arith)
leaf_full level leaves.Octs n = numbers_full 18446744073709551615 (level + 1) n (numbers oct) (omega arith)

pub content_full : (level : ℕ) (h : Head) → Full (content_by level h)
content_full level heads.Null = full_given nil
content_full level (heads.Named names.Cap n) = full_given (cap n)
content_full level (heads.Struct w s) =
    full_both (body_by level w s) (λ b. given (node b.0 b.1)) (body_local 0 (tree_local 0) level w s)
    (body_full level w s) (λ b. full_given (node b.0 b.1))
content_full level (heads.Named names.Links n) =
    full_both (all (tree_by (level + 1)) n) (λ ts. given (links (trees ts)))
    (local_all (tree_by (level + 1)) 0 (tree_local 0 (level + 1)) n)
    (full_all (tree_by (level + 1)) (λ r. tree_local r (level + 1)) (tree_full (level + 1)) n)
    (λ ts. full_given (links (trees ts)))
content_full level (heads.Named names.Rows n) =
    full_both (all (row_by (level + 1)) n) (λ bs. given (rows (rows_from bs)))
    (local_all (row_by (level + 1)) 0 (row_local 0 (tree_local 0) (level + 1)) n)
    (full_all (row_by (level + 1)) (λ r. row_local r (tree_local r) (level + 1)) (row_full (level + 1)) n)
    (λ bs. full_given (rows (rows_from bs)))
content_full level (heads.Named (names.Leaf leaf) n) = leaf_full level leaf n
