-- Lemmas for `first_value`: a tree that `tree_at room` reads is no higher than `room`.
use Rattle.std.proofs.Common.{◌≡◌, ℕ, zero, suc, ◌+◌, ◌≤◌, arith, List, [], ◌∷◌, Option, Some, subst, map}
use Rattle.std.proofs.Math.Nat.{max-le}
use Rattle.std.specs.List.{AllByRecursion}
use Rattle.std.specs.Int.{from_bool}
use Rattle.capn_value.specs.NumberWidth.{bit, byte, pair, quad, oct}
use Rattle.capn_value.specs.Tree.{Tree, nil, node, voids, numbers, links, rows, cap, Trees}
use Rattle.capn_value.specs.TreeOf.{trees, rows_from}
use Rattle.capn_value.specs.Cost.{height, greatest, greatest_in_rows}
use Rattle.capn_text.specs.inner.Tokens.{◌>>=◌, byte_at, bit_at, many, word_line_at, number_line_at, row_line_at}
use Rattle.capn_text.specs.inner.Values.{head_at, leaf_at, body_at, row_of, row_at, content_at, low_at, tree_at}
use Rattle.capn_text.specs.declared.heads.Leaf.{Leaf}
use Rattle.capn_text.specs.declared.heads.Leaf.TheVariants as leaves
use Rattle.capn_text.specs.declared.heads.Name.TheVariants as names
use Rattle.capn_text.specs.declared.heads.Head.{Head}
use Rattle.capn_text.specs.declared.heads.Head.TheVariants as heads
use Rattle.capn_text.proofs.Steps.{bind_some, some_is}

-- If `P` holds of each item that `one` reads, `P` holds of all items that `many one n` reads.
many_all : {X : Type 0} (one : List ℕ → Option (X × List ℕ)) (P : X → Type 0)
    → ((t : List ℕ) (x : X) (rest : List ℕ) → one t ≡ Some (x, rest) → P x)
    → (n : ℕ) (t : List ℕ) (xs : List X) (rest : List ℕ) → many one n t ≡ Some (xs, rest) → AllByRecursion P xs
unfolding many
many_all {X} one P each zero t xs rest e =
    subst (λ (y : List X × List ℕ). AllByRecursion P y.0) (some_is ([], t) (xs, rest) e) tt
many_all {X} one P each (suc n) t xs rest e =
    let a = bind_some (one t) (λ x. many one n x.1 >>= λ ys. Some (x.0 ∷ ys.0, ys.1)) (xs, rest) e in
    let b = bind_some (many one n a.0.1) (λ ys. Some (a.0.0 ∷ ys.0, ys.1)) (xs, rest) a.2 in
    subst (λ (y : List X × List ℕ). AllByRecursion P y.0) (some_is (a.0.0 ∷ b.0.0, b.0.1) (xs, rest) b.2)
    (each t a.0.0 a.0.1 a.1, many_all one P each n a.0.1 b.0.0 b.0.1 b.1)

greatest_low : (room : ℕ) (us : List Tree) → AllByRecursion (λ u. height u ≤ room) us → greatest (trees us) ≤ room
greatest_low room [] all = omega arith
greatest_low room (u ∷ us) all = max-le all.0 (greatest_low room us all.1)

rows_low : (room : ℕ) (bs : List (List ℕ × Trees)) → AllByRecursion (λ b. greatest b.1 ≤ room) bs
    → greatest_in_rows (rows_from bs) ≤ room
rows_low room [] all = omega arith
rows_low room (b ∷ bs) all = max-le all.0 (rows_low room bs all.1)

abbrev Within : ℕ → Tree × List ℕ → Type 0
Within most x = height x.0 ≤ most

made_low : {X : Type 0} (most : ℕ) (make : X → Tree) (r : Option (X × List ℕ)) (x : Tree × List ℕ)
    → ((y : X) → height (make y) ≤ most) → (r >>= λ y. Some (make y.0, y.1)) ≡ Some x → Within most x
made_low most make r x low e =
    let y = bind_some r (λ y. Some (make y.0, y.1)) x e in
    subst (Within most) (some_is (make y.0.0, y.0.1) x y.2) (low y.0.0)

leaf_low : (room level : ℕ) (leaf : Leaf) (n : ℕ) (t : List ℕ) (x : Tree × List ℕ) → leaf_at level leaf n t ≡ Some x
    → Within (suc room) x
unfolding leaf_at
leaf_low room level leaves.Voids n t x e = subst (Within (suc room)) (some_is (voids n, t) x e) (omega arith)
leaf_low room level leaves.Bits n t x e =
    made_low (suc room) (λ xs. numbers bit (map from_bool xs)) (row_line_at bit_at (level + 1) n t) x
    (λ y. omega arith) e
leaf_low room level leaves.Bytes n t x e =
    made_low (suc room) (numbers byte) (row_line_at byte_at (level + 1) n t) x (λ y. omega arith) e
leaf_low room level leaves.Pairs n t x e =
    made_low (suc room) (numbers pair) (many (number_line_at 65535 (level + 1)) n t) x (λ y. omega arith) e
leaf_low room level leaves.Quads n t x e =
    made_low (suc room) (numbers quad) (many (number_line_at 4294967295 (level + 1)) n t) x (λ y. omega arith) e
leaf_low room level leaves.Octs n t x e =
    made_low (suc room) (numbers oct) (many (number_line_at 18446744073709551615 (level + 1)) n t) x
    (λ y. omega arith) e

module _ (room : ℕ) (low : (level : ℕ) (t : List ℕ) (v : Tree) (rest : List ℕ) → tree_at room level t ≡ Some (v, rest)
    → height v ≤ room) where
  each_low : (level n : ℕ) (t : List ℕ) (us : List Tree) (rest : List ℕ)
      → many (tree_at room level) n t ≡ Some (us, rest) → greatest (trees us) ≤ room
  each_low level n t us rest e =
      greatest_low room us (many_all (tree_at room level) (λ u. height u ≤ room) (low level) n t us rest e)

  abbrev Bodied : (List ℕ × Trees) × List ℕ → Type 0
  Bodied x = greatest x.0.1 ≤ room

  body_low : (level w s : ℕ) (t : List ℕ) (x : (List ℕ × Trees) × List ℕ)
      → body_at (tree_at room) level w s t ≡ Some x → Bodied x
  unfolding body_at
  body_low level w s t x e =
      let a = bind_some (many (word_line_at (level + 1)) w t) (λ xs. many (tree_at room (level + 1)) s xs.1
      >>= λ us. Some ((xs.0, trees us.0), us.1)) x e in
      let b = bind_some (many (tree_at room (level + 1)) s a.0.1) (λ us. Some ((a.0.0, trees us.0), us.1)) x a.2 in
      subst Bodied (some_is ((a.0.0, trees b.0.0), b.0.1) x b.2) (each_low (level + 1) s a.0.1 b.0.0 b.0.1 b.1)

  row_of_low : (h : Head) (level : ℕ) (t : List ℕ) (x : (List ℕ × Trees) × List ℕ)
      → row_of (tree_at room) level h t ≡ Some x → Bodied x
  row_of_low heads.Null level t x e = absurd cc
  row_of_low (heads.Struct w s) level t x e = body_low level w s t x e
  row_of_low (heads.Named name n) level t x e = absurd cc

  row_low : (level : ℕ) (t : List ℕ) (b : List ℕ × Trees) (rest : List ℕ)
      → row_at (tree_at room) level t ≡ Some (b, rest) → greatest b.1 ≤ room
  unfolding row_at
  row_low level t b rest e =
      let h = bind_some (head_at level t) (λ h. row_of (tree_at room) level h.0 h.1) (b, rest) e in
      row_of_low h.0.0 level h.0.1 (b, rest) h.2

  content_low : (h : Head) (level : ℕ) (t : List ℕ) (x : Tree × List ℕ)
      → content_at (tree_at room) level h t ≡ Some x → Within (suc room) x
  content_low heads.Null level t x e = subst (Within (suc room)) (some_is (nil, t) x e) (omega arith)
  content_low (heads.Named names.Cap n) level t x e =
      subst (Within (suc room)) (some_is (cap n, t) x e) (omega arith)
  content_low (heads.Struct w s) level t x e =
      let b = bind_some (body_at (tree_at room) level w s t) (λ b. Some (node b.0.0 b.0.1, b.1)) x e in
      let under = body_low level w s t b.0 b.1 in
      subst (Within (suc room)) (some_is (node b.0.0.0 b.0.0.1, b.0.1) x b.2) (omega arith)
  content_low (heads.Named names.Links n) level t x e =
      let b = bind_some (many (tree_at room (level + 1)) n t) (λ us. Some (links (trees us.0), us.1)) x e in
      let under = each_low (level + 1) n t b.0.0 b.0.1 b.1 in
      subst (Within (suc room)) (some_is (links (trees b.0.0), b.0.1) x b.2) (omega arith)
  content_low (heads.Named names.Rows n) level t x e =
      let b = bind_some (many (row_at (tree_at room) (level + 1)) n t) (λ cs. Some (rows (rows_from cs.0), cs.1)) x e in
      let under = rows_low room b.0.0 (many_all (row_at (tree_at room) (level + 1)) (λ c. greatest c.1 ≤ room)
      (row_low (level + 1)) n t b.0.0 b.0.1 b.1) in
      subst (Within (suc room)) (some_is (rows (rows_from b.0.0), b.0.1) x b.2) (omega arith)
  content_low (heads.Named (names.Leaf leaf) n) level t x e = leaf_low room level leaf n t x e

-- A tree that `low_at` gives has the height 0.
flat_low : (h : Head) (t : List ℕ) (x : Tree × List ℕ) → low_at h t ≡ Some x → Within 0 x
flat_low heads.Null t x e = subst (Within 0) (some_is (nil, t) x e) (omega arith)
flat_low (heads.Struct w s) t x e = absurd cc
flat_low (heads.Named names.Links n) t x e = absurd cc
flat_low (heads.Named names.Rows n) t x e = absurd cc
flat_low (heads.Named names.Cap n) t x e = subst (Within 0) (some_is (cap n, t) x e) (omega arith)
flat_low (heads.Named (names.Leaf leaf) n) t x e = absurd cc

pub tree_low : (room level : ℕ) (t : List ℕ) (v : Tree) (rest : List ℕ) → tree_at room level t ≡ Some (v, rest)
    → height v ≤ room
unfolding tree_at
tree_low zero level t v rest e =
    let h = bind_some (head_at level t) (λ h. low_at h.0 h.1) (v, rest) e in
    flat_low h.0.0 h.0.1 (v, rest) h.2
tree_low (suc room) level t v rest e =
    let h = bind_some (head_at level t) (λ h. content_at (tree_at room) level h.0 h.1) (v, rest) e in
    content_low room (tree_low room) h.0.0 level h.0.1 (v, rest) h.2
