-- The equations of `tree_of`, one for each kind of value.
use Rattle.std.proofs.Common.{◌≡◌, ℕ, List, [], ◌∷◌, map, refl, ap, ap₂, ◌∙◌, rules, Bool, length, suc}
use Rattle.std.proofs.lemmas.List.{length-map}
use Rattle.std.specs.Int.{from_bool}
use Rattle.capn_value.specs.NumberWidth.{bit, byte, pair, quad, oct}
use Rattle.capn_value.specs.Tree.{nil, node, voids, numbers, links, rows, cap, tree, body}
use Rattle.capn_value.specs.Tree.{count, count_rows}
use Rattle.capn_value.specs.TreeOf.{trees, rows_from, tree_of, body_of, trees_of, rows_of}
use Rattle.capn_value.specs.declared.value.Value.{Value, Nil, Node, Voids, Bits, Bytes, Pairs, Quads, Octs, Links, Rows}
use Rattle.capn_value.specs.declared.value.Value.{Cap, the_lemmas}
use Rattle.capn_value.specs.declared.value.Body.{Body}

-- this block has an equation for the tree of each kind of value
pub tree_of-Nil : (A : Type 0) → tree_of {A = A} Nil ≡ nil
unfolding tree_of
tree_of-Nil A = search (rules, the_lemmas)

pub tree_of-Voids : (A : Type 0) (n : ℕ) → tree_of {A = A} (Voids n) ≡ voids n
unfolding tree_of
tree_of-Voids A n = search (rules, the_lemmas)

pub tree_of-Bits : (A : Type 0) (xs : List Bool) → tree_of {A = A} (Bits xs) ≡ numbers bit (map from_bool xs)
unfolding tree_of
tree_of-Bits A xs = search (rules, the_lemmas)

pub tree_of-Bytes : (A : Type 0) (xs : List ℕ) → tree_of {A = A} (Bytes xs) ≡ numbers byte xs
unfolding tree_of
tree_of-Bytes A xs = search (rules, the_lemmas)

pub tree_of-Pairs : (A : Type 0) (xs : List ℕ) → tree_of {A = A} (Pairs xs) ≡ numbers pair xs
unfolding tree_of
tree_of-Pairs A xs = search (rules, the_lemmas)

pub tree_of-Quads : (A : Type 0) (xs : List ℕ) → tree_of {A = A} (Quads xs) ≡ numbers quad xs
unfolding tree_of
tree_of-Quads A xs = search (rules, the_lemmas)

pub tree_of-Octs : (A : Type 0) (xs : List ℕ) → tree_of {A = A} (Octs xs) ≡ numbers oct xs
unfolding tree_of
tree_of-Octs A xs = search (rules, the_lemmas)

pub tree_of-Cap : (A : Type 0) (k : ℕ) → tree_of {A = A} (Cap k) ≡ cap k
unfolding tree_of
tree_of-Cap A k = search (rules, the_lemmas)

module _ {A : Type 0} where
  trees-map : (vs : List (Value A)) → trees (map tree_of vs) ≡ trees_of vs
  trees-map [] = refl
  trees-map (v ∷ vs) = ap (tree (tree_of v)) (trees-map vs)

  rows-map : (bs : List (Body A)) → rows_from (map body_of bs) ≡ rows_of bs
  rows-map [] = refl
  rows-map (b ∷ bs) = ap₂ (body b.words) (trees-map b.slots) (rows-map bs)

  links-map : (vs : List (Value A)) → tree_of {A = A} (Links vs) ≡ links (trees (map tree_of vs))
  unfolding tree_of
  links-map vs = search (rules, the_lemmas)

  node-map : (b : Body A) → tree_of {A = A} (Node b) ≡ node b.words (trees (map tree_of b.slots))
  unfolding tree_of
  node-map b = search (rules, the_lemmas)

  bodies-map : (bs : List (Body A)) → tree_of {A = A} (Rows bs) ≡ rows (rows_from (map body_of bs))
  unfolding tree_of
  bodies-map bs = search (rules, the_lemmas)

  pub tree_of-Links : (vs : List (Value A)) → tree_of {A = A} (Links vs) ≡ links (trees_of vs)
  tree_of-Links vs = links-map vs ∙ ap links (trees-map vs)

  pub tree_of-Node : (b : Body A) → tree_of {A = A} (Node b) ≡ node b.words (trees_of b.slots)
  tree_of-Node b = node-map b ∙ ap (node b.words) (trees-map b.slots)

  pub tree_of-Rows : (bs : List (Body A)) → tree_of {A = A} (Rows bs) ≡ rows (rows_of bs)
  tree_of-Rows bs = bodies-map bs ∙ ap rows (rows-map bs)

  pub count-trees_of : (vs : List (Value A)) → count (trees_of vs) ≡ length vs
  count-trees_of [] = refl
  count-trees_of (v ∷ vs) = ap suc (count-trees_of vs)

  pub count_rows-rows_of : (bs : List (Body A)) → count_rows (rows_of bs) ≡ length bs
  count_rows-rows_of [] = refl
  count_rows-rows_of (b ∷ bs) = ap suc (count_rows-rows_of bs)

-- if bits are turned into numbers, there are as many numbers as bits
pub length-bits : (xs : List Bool) → length (map from_bool xs) ≡ length xs
length-bits xs = length-map xs from_bool

pub ruleset views = (
  length-bits,
  count-trees_of,
  count_rows-rows_of,
  tree_of-Nil,
  tree_of-Node,
  tree_of-Voids,
  tree_of-Bits,
  tree_of-Bytes,
  tree_of-Pairs,
  tree_of-Quads,
  tree_of-Octs,
  tree_of-Links,
  tree_of-Rows,
  tree_of-Cap,
)
