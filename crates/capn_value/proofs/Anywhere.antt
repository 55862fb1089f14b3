-- Lemmas for the cycle `flaws_of`: `anywhere test` of a value is computed from `test` of the value and `anywhere test`
-- of the values below it.
use Rattle.std.proofs.Common.{◌≡◌, ℕ, suc, ◌+◌, ◌<◌, List, [], ◌∷◌, Bool, true, false, ◌||◌, ◌⊎◌, inl, inr, length}
use Rattle.std.proofs.Common.{get_or, drop, refl, sym, ap, ap₂, ◌∙◌, add-one}
use Rattle.std.proofs.Math.Seq.{drop-cons, drop-length}
use Rattle.capn_value.specs.Tree.{Tree}
use Rattle.capn_value.specs.TreeOf.{tree_of, trees_of, rows_of}
use Rattle.capn_value.specs.Views.{tree_of-Nil, tree_of-Node, tree_of-Voids, tree_of-Bits, tree_of-Bytes, tree_of-Pairs}
use Rattle.capn_value.specs.Views.{tree_of-Quads, tree_of-Octs, tree_of-Links, tree_of-Rows, tree_of-Cap}
use Rattle.capn_value.specs.Fits.{anywhere, anywhere_in, anywhere_in_rows}
use Rattle.capn_value.specs.declared.value.Value.{Value, Nil, Node, Voids, Bits, Bytes, Pairs, Quads, Octs, Links, Rows}
use Rattle.capn_value.specs.declared.value.Value.{Cap}
use Rattle.capn_value.specs.declared.value.Body.{Body}

pub drop-next : {X : Type 0} (xs : List X) (i : ℕ) (x : X) → i < length xs → x ≡ get_or xs i x
    → drop i xs ≡ x ∷ drop (i + 1) xs
drop-next xs i x h e = rw add-one (drop-cons xs i x h ∙ ap (λ y. y ∷ drop (suc i) xs) (sym e))

pub drop-past : {X : Type 0} (xs : List X) (i : ℕ) → i ≡ length xs → drop i xs ≡ []
drop-past xs i e = ap (λ n. drop n xs) e ∙ drop-length xs

or_moved : (f r x : Bool) → ((f || r) || x) ≡ (f || (r || x))
or_moved true r x = refl
or_moved false r x = refl

pub or_no_more : (f : Bool) → f ≡ (f || false)
or_no_more true = refl
or_no_more false = refl

module _ {A : Type 0} (test : Tree → Bool) where
  module _ (v : Value A) where
    module _ {h o r : Bool} (joined : r ≡ (h || o)) (here : h ≡ test (tree_of v)) where
      pub node_joins : {b : Body A} {s : List (Value A)} → v ≡ Node b → s ≡ b.slots → o ≡ anywhere_in test (trees_of s)
          → r ≡ anywhere test (tree_of v)
      node_joins {b} {s} e f below =
          joined ∙ ap₂ ◌||◌ (here ∙ ap test (ap tree_of e ∙ tree_of-Node b)) (below
          ∙ ap (λ vs. anywhere_in test (trees_of vs)) f)
          ∙ sym (ap (anywhere test) (ap tree_of e ∙ tree_of-Node b))

      pub links_join : {vs s : List (Value A)} → v ≡ Links vs → s ≡ vs → o ≡ anywhere_in test (trees_of s)
          → r ≡ anywhere test (tree_of v)
      links_join {vs} {s} e f below =
          joined ∙ ap₂ ◌||◌ (here ∙ ap test (ap tree_of e ∙ tree_of-Links vs)) (below
          ∙ ap (λ us. anywhere_in test (trees_of us)) f)
          ∙ sym (ap (anywhere test) (ap tree_of e ∙ tree_of-Links vs))

      pub rows_join : {bs s : List (Body A)} → v ≡ Rows bs → s ≡ bs → o ≡ anywhere_in_rows test (rows_of s)
          → r ≡ anywhere test (tree_of v)
      rows_join {bs} {s} e f below =
          joined ∙ ap₂ ◌||◌ (here ∙ ap test (ap tree_of e ∙ tree_of-Rows bs)) (below
          ∙ ap (λ cs. anywhere_in_rows test (rows_of cs)) f)
          ∙ sym (ap (anywhere test) (ap tree_of e ∙ tree_of-Rows bs))

  -- this block is about a loop over `items` that computes `anywhere_in`: one more value, and the end of the loop
  module _ (items : List (Value A)) (i : ℕ) (f : Bool) {all : Bool}
      (so_far : (f || anywhere_in test (trees_of (drop i items))) ≡ all) where
    pub each_joins : (v : Value A) {r n : Bool} → i < length items → v ≡ get_or items i v → n ≡ (f || r)
        → r ≡ anywhere test (tree_of v) →
        (n || anywhere_in test (trees_of (drop (i + 1) items))) ≡ all
    each_joins v {r} {n} h at e here =
        ap (λ b. b || anywhere_in test (trees_of (drop (i + 1) items))) (e ∙ ap (λ b. f || b) here)
        ∙ or_moved f (anywhere test (tree_of v)) (anywhere_in test (trees_of (drop (i + 1) items)))
        ∙ sym (ap (λ vs. f || anywhere_in test (trees_of vs)) (drop-next items i v h at)) ∙ so_far

    pub each_joined : i ≡ length items → f ≡ all
    each_joined e = or_no_more f ∙ sym (ap (λ vs. f || anywhere_in test (trees_of vs)) (drop-past items i e)) ∙ so_far

  -- this block is about a loop over `rows` that computes `anywhere_in_rows`: one more row, and the end of the loop
  module _ (rows : List (Body A)) (i : ℕ) (f : Bool) {all : Bool}
      (so_far : (f || anywhere_in_rows test (rows_of (drop i rows))) ≡ all) where
    pub row_joins : (b : Body A) (s : List (Value A)) {r n : Bool} → i < length rows → b ≡ get_or rows i b → s ≡ b.slots
        → n ≡ (f || r) →
        r ≡ anywhere_in test (trees_of s) → (n || anywhere_in_rows test (rows_of (drop (i + 1) rows))) ≡ all
    row_joins b s {r} {n} h at same e here =
        ap (λ x. x || anywhere_in_rows test (rows_of (drop (i + 1) rows))) (e
        ∙ ap (λ x. f || x) (here ∙ ap (λ vs. anywhere_in test (trees_of vs)) same))
        ∙ or_moved f (anywhere_in test (trees_of b.slots)) (anywhere_in_rows test (rows_of (drop (i + 1) rows)))
        ∙ sym (ap (λ bs. f || anywhere_in_rows test (rows_of bs)) (drop-next rows i b h at)) ∙ so_far

    pub rows_joined : i ≡ length rows → f ≡ all
    rows_joined e = or_no_more f ∙ sym (ap (λ bs. f || anywhere_in_rows test (rows_of bs)) (drop-past rows i e))
        ∙ so_far
