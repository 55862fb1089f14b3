-- Lemmas for the cycle `height`: the capped height of a value is computed from the capped heights of the values below
-- it.
use Rattle.std.proofs.Common.{◌≡◌, ℕ, ◌+◌, ◌<◌, ◌≤◌, List, length, get_or, drop, min, max, refl, ap, ◌∙◌, arith}
use Rattle.capn_value.specs.TreeOf.{tree_of, trees_of, rows_of}
use Rattle.capn_value.specs.Views.{tree_of-Node, tree_of-Links, tree_of-Rows}
use Rattle.capn_value.specs.Cost.{height, greatest, greatest_in_rows}
use Rattle.capn_value.specs.declared.value.Value.{Value, Node, Links, Rows}
use Rattle.capn_value.specs.declared.value.Body.{Body}
use Rattle.capn_value.proofs.Anywhere.{drop-next, drop-past}

one_more : (most below part cap r h : ℕ) → below ≡ min part cap → r ≡ min (1 + below) cap → h ≡ 1 + part → most ≡ h
    → r ≡ min most cap
one_more most below part cap r h e f p q = omega arith

module _ {A : Type 0} where
  module _ (v : Value A) (cap : ℕ) {below r : ℕ} (one : r ≡ min (1 + below) cap) where
    pub node_high : {b : Body A} {s : List (Value A)} → v ≡ Node b → s ≡ b.slots
        → below ≡ min (greatest (trees_of s)) cap → r ≡ min (height (tree_of v)) cap
    node_high {b} {s} e f h =
        one_more (height (tree_of v)) below (greatest (trees_of b.slots)) cap r _
        (h ∙ ap (λ vs. min (greatest (trees_of vs)) cap) f) one refl (ap height (ap tree_of e ∙ tree_of-Node b))

    pub links_high : {vs s : List (Value A)} → v ≡ Links vs → s ≡ vs → below ≡ min (greatest (trees_of s)) cap
        → r ≡ min (height (tree_of v)) cap
    links_high {vs} {s} e f h =
        one_more (height (tree_of v)) below (greatest (trees_of vs)) cap r _
        (h ∙ ap (λ us. min (greatest (trees_of us)) cap) f) one refl (ap height (ap tree_of e ∙ tree_of-Links vs))

    pub rows_high : {bs s : List (Body A)} → v ≡ Rows bs → s ≡ bs → below ≡ min (greatest_in_rows (rows_of s)) cap
        → r ≡ min (height (tree_of v)) cap
    rows_high {bs} {s} e f h =
        one_more (height (tree_of v)) below (greatest_in_rows (rows_of bs)) cap r _
        (h ∙ ap (λ cs. min (greatest_in_rows (rows_of cs)) cap) f) one refl (ap height (ap tree_of e ∙ tree_of-Rows bs))

-- after the loop has added one more `part`, the greater of `n` and `rest`, once capped, is still `all`
taken : (most n part k whole rest cap all : ℕ) → min (max most whole) cap ≡ all → whole ≡ max part rest
    → k ≡ min part cap → n ≡ max k most → min (max n rest) cap ≡ all
taken most n part k whole rest cap all so_far e f g = omega arith

pub still_capped : (most n part k cap : ℕ) → most ≤ cap → k ≡ min part cap → n ≡ max k most → n ≤ cap
still_capped most n part k cap h f g = omega arith

all_taken : (most rest cap all : ℕ) → most ≤ cap → rest ≡ 0 → min (max most rest) cap ≡ all → most ≡ all
all_taken most rest cap all h e so_far = omega arith

module _ {A : Type 0} (cap most all : ℕ) where
  module _ (items : List (Value A)) (i : ℕ) (so_far : min (max most (greatest (trees_of (drop i items)))) cap ≡ all)
    where
      pub each_high : (v : Value A) {k n : ℕ} → i < length items → v ≡ get_or items i v
          → k ≡ min (height (tree_of v)) cap
          → n ≡ max k most →
          min (max n (greatest (trees_of (drop (i + 1) items)))) cap ≡ all
      each_high v {k} {n} h at e f =
          taken most n (height (tree_of v)) k _ (greatest (trees_of (drop (i + 1) items))) cap all so_far
          (ap (λ vs. greatest (trees_of vs)) (drop-next items i v h at)) e f

      pub highest : most ≤ cap → i ≡ length items → most ≡ all
      highest h e = all_taken most _ cap all h (ap (λ vs. greatest (trees_of vs)) (drop-past items i e)) so_far

  module _ (rows : List (Body A)) (i : ℕ) (so_far : min (max most (greatest_in_rows (rows_of (drop i rows)))) cap ≡ all)
    where
      pub row_high : (b : Body A) {s : List (Value A)} {k n : ℕ} → i < length rows → b ≡ get_or rows i b → s ≡ b.slots →
          k ≡ min (greatest (trees_of s)) cap → n ≡ max k most
          → min (max n (greatest_in_rows (rows_of (drop (i + 1) rows)))) cap ≡ all
      row_high b {s} {k} {n} h at same e f =
          taken most n (greatest (trees_of b.slots)) k _ (greatest_in_rows (rows_of (drop (i + 1) rows))) cap all so_far
          (ap (λ bs. greatest_in_rows (rows_of bs)) (drop-next rows i b h at)) (e
          ∙ ap (λ vs. min (greatest (trees_of vs)) cap) same) f

      pub highest_row : most ≤ cap → i ≡ length rows → most ≡ all
      highest_row h e =
          all_taken most _ cap all h (ap (λ bs. greatest_in_rows (rows_of bs)) (drop-past rows i e)) so_far
