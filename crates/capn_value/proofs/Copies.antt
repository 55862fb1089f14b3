-- Lemmas for the cycle `anew` and `copy_of_plain`: the tree of a copy over another allocator is the tree of the value,
-- trimmed or unchanged.
use Rattle.std.proofs.Common.{◌≡◌, ℕ, List, length, Bool, true, false, Option, ◌⊎◌, inl, inr, refl, sym, ap, ap₂, ◌∙◌}
use Rattle.std.specs.Prelude.{Result}
use Rattle.std.specs.Result.{IfOk}
use Rattle.std.proofs.lemmas.Result.{IfOk-weaker}
use Rattle.capn_value.specs.Tree.{Tree, Trees, Bodies, node, numbers, links, rows, front}
use Rattle.capn_value.specs.NumberWidth.{NumberWidth}
use Rattle.capn_value.specs.TreeOf.{tree_of, trees_of, rows_of}
use Rattle.capn_value.specs.Views.{tree_of-Nil, tree_of-Node, tree_of-Voids, tree_of-Links, tree_of-Rows, tree_of-Cap}
use Rattle.capn_value.specs.declared.value.Value.{Value, Nil, Node, Voids, Links, Rows, Cap}
use Rattle.capn_value.specs.declared.value.Body.{Body}
use Rattle.capn_value.proofs.Inverse.{value_of}
use Rattle.capn_value.specs.Trim.{trimmed}
use Rattle.capn_value.specs.inner.CutCopy.{anew, each_anew, kept_of_body, kept_of_rows, words_anew, slots_anew}
use Rattle.capn_value.specs.inner.CutCopy.{rows_anew}
use Rattle.capn_value.proofs.Cases.{IsNot, still_not, node_seen, links_seen, rows_seen}
use Rattle.capn_value.proofs.Fronts.{anew_front-length}

module _ (A : Type 0) {B : Type 0} (v : Value B) where
  pub nil_kept : v ≡ Nil → tree_of {A = A} Nil ≡ tree_of v
  nil_kept e = tree_of-Nil A ∙ sym (ap tree_of e ∙ tree_of-Nil B)

  pub voids_kept : {n : ℕ} → v ≡ Voids n → tree_of {A = A} (Voids n) ≡ tree_of v
  voids_kept {n} e = tree_of-Voids A n ∙ sym (ap tree_of e ∙ tree_of-Voids B n)

  pub cap_kept : {k : ℕ} → v ≡ Cap k → tree_of {A = A} (Cap k) ≡ tree_of v
  cap_kept {k} e = tree_of-Cap A k ∙ sym (ap tree_of e ∙ tree_of-Cap B k)

pub numbers_kept : {B : Type 0} (v : Value B) {t : Tree} {a : NumberWidth} {xs ys : List ℕ} → t ≡ numbers a ys → ys ≡ xs
    → tree_of v ≡ numbers a xs → t ≡ tree_of v
numbers_kept v {a = a} e f g = e ∙ ap (numbers a) f ∙ sym g

-- this block is about a value that has no values below it
module _ {A : Type 0} where
  parts_cut : (t : Tree) → IsNot {A = A} Node (value_of A t) → IsNot {A = A} Links (value_of A t)
      → IsNot {A = A} Rows (value_of A t) → t ≡ trimmed t
  parts_cut (node ws ss) m l r = absurd (m _ refl)
  parts_cut (links ts) m l r = absurd (l _ refl)
  parts_cut (rows bs) m l r = absurd (r _ refl)
  parts_cut _ m l r = refl

  -- if `v` has no values below it, a copy of `v` is also a trimmed copy of `v`
  plain_kept : {B E : Type 0} (v : Value A) (r : Result (Value B) E) → IsNot Node v → IsNot Links v → IsNot Rows v
      → IfOk r (λ u. tree_of u ≡ tree_of v) → IfOk r (λ u. tree_of u ≡ trimmed (tree_of v))
  plain_kept v r m l n h =
      IfOk-weaker r (λ u. tree_of u ≡ tree_of v) (λ u. tree_of u ≡ trimmed (tree_of v))
      (λ u e. e ∙ parts_cut (tree_of v) (still_not Node v m) (still_not Links v l) (still_not Rows v n)) h

  pub plain_anew : {B E : Type 0} (cut : Bool) (v : Value A) (r : Result (Value B) E) → IsNot Node v → IsNot Links v
      → IsNot Rows v → IfOk r (λ u. tree_of u ≡ tree_of v) → IfOk r (λ u. tree_of u ≡ anew cut (tree_of v))
  plain_anew true v r m l n h = plain_kept v r m l n h
  plain_anew false v r m l n h = h

  abbrev HasParts : Value A → Type 0
  HasParts v = ((b : Body A) × (v ≡ Node b))
      ⊎ (((vs : List (Value A)) × (v ≡ Links vs)) ⊎ ((bs : List (Body A)) × (v ≡ Rows bs)))

  pub no_parts : (v : Value A) → IsNot Node v → IsNot Links v → IsNot Rows v → HasParts v → ⊥
  no_parts v m l r (inl p) = m p.0 p.1
  no_parts v m l r (inr (inl p)) = l p.0 p.1
  no_parts v m l r (inr (inr p)) = r p.0 p.1

node_anew : (cut : Bool) (ws : List ℕ) (ss : Trees)
    → node (words_anew (kept_of_body cut ws ss) ws) (slots_anew (kept_of_body cut ws ss) ss) ≡ anew cut (node ws ss)
node_anew true ws ss = refl
node_anew false ws ss = refl

links_anew : (cut : Bool) (ts : Trees) → links (each_anew cut ts) ≡ anew cut (links ts)
links_anew true ts = refl
links_anew false ts = refl

list_anew : (cut : Bool) (bs : Bodies) → rows (rows_anew (kept_of_rows cut bs) bs) ≡ anew cut (rows bs)
list_anew true bs = refl
list_anew false bs = refl

-- this block is about the copy of `v`, which is made of the copies of the values below `v`
module _ {A B : Type 0} (cut : Bool) (v : Value B) where
  pub node_made : (b : Body B) (r : Body A) {kept : Option (ℕ × ℕ)} → v ≡ Node b
      → kept ≡ kept_of_body cut b.words (trees_of b.slots) → r.words ≡ words_anew kept b.words
      → trees_of r.slots ≡ slots_anew kept (trees_of b.slots) → tree_of (Node r) ≡ anew cut (tree_of v)
  node_made b r is e f h =
      tree_of-Node r
      ∙ ap₂ node (f ∙ ap (λ k. words_anew k b.words) e) (h ∙ ap (λ k. slots_anew k (trees_of b.slots)) e)
      ∙ node_anew cut b.words (trees_of b.slots) ∙ node_seen (anew cut) v b is

  -- Case: a list of pointers. `s` is the slice of the elements of `v`.
  pub links_made : (vs s : List (Value B)) (us : List (Value A)) {n : ℕ} → v ≡ Links vs → s ≡ vs → n ≡ length vs
      → trees_of us ≡ front n (each_anew cut (trees_of s)) → tree_of (Links us) ≡ anew cut (tree_of v)
  links_made vs s us is f e h =
      tree_of-Links us
      ∙ ap links (h ∙ ap₂ (λ n xs. front n (each_anew cut (trees_of xs))) e f ∙ anew_front-length cut vs)
      ∙ links_anew cut (trees_of vs) ∙ links_seen (anew cut) v vs is

  pub rows_made : (bs s : List (Body B)) (cs : List (Body A)) {kept : Option (ℕ × ℕ)} → v ≡ Rows bs → s ≡ bs
      → kept ≡ kept_of_rows cut (rows_of s) → rows_of cs ≡ rows_anew kept (rows_of s)
      → tree_of (Rows cs) ≡ anew cut (tree_of v)
  rows_made bs s cs is f e h =
      tree_of-Rows cs ∙ ap rows (h ∙ ap (λ k. rows_anew k (rows_of s)) e) ∙ list_anew cut (rows_of s)
      ∙ ap (λ xs. anew cut (rows (rows_of xs))) f ∙ rows_seen (anew cut) v bs is
