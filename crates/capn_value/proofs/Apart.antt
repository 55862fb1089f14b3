-- Lemmas for `sameness.rt`: values of different kinds are never the same.
use Rattle.std.proofs.Common.{◌≡◌, ℕ, List, Bool, false, refl, sym, ap, ap₂, ◌∙◌, ◌≢◌, suc, true, ◌&&◌, arith, min}
use Rattle.std.proofs.Common.{length}
use Rattle.std.proofs.Common.{take, drop, ◌-◌, length-drop, inl, inr}
use Rattle.std.proofs.lemmas.Grind.{common_steps}
use Rattle.std.proofs.lemmas.Bool.{and_right, cases_lt, eq-eqb}
use Rattle.std.specs.Prelude.{◌==◌}
use Rattle.std.specs.Cmp.Lexicographic.{pointwise}
use Rattle.capn_value.specs.NumberWidth.{NumberWidth, bits_in}
use Rattle.capn_value.specs.Tree.{Tree, nil, node, voids, numbers, links, rows, cap, Trees}
use Rattle.capn_value.specs.Tree.{no_trees, tree, Bodies, no_bodies, body, count, count_rows}
use Rattle.capn_value.specs.Tree.{is_null}
use Rattle.capn_value.specs.inner.SameTest.{test, test_slots, test_each, test_rows, are_null}
use Rattle.capn_value.specs.TreeOf.{tree_of, trees_of, rows_of}
use Rattle.capn_value.specs.Views.{views, count-trees_of}
use Rattle.capn_value.specs.Views.{tree_of-Nil, tree_of-Node, tree_of-Voids, tree_of-Links, tree_of-Rows, tree_of-Cap}
use Rattle.capn_value.specs.declared.value.Value.{Value, Nil, Node, Voids, Links, Rows, Cap}
use Rattle.capn_value.specs.declared.value.Body.{Body}
use Rattle.capn_value.proofs.Decided.{same_of}
use Rattle.capn_value.proofs.Inverse.{value_of, value_of-tree_of}

not-true : (b : Bool) → (b ≡ true → ⊥) → b ≡ false
not-true true n = absurd (n refl)
not-true false n = refl

no_nil : (A : Type 0) (u : Tree) → (value_of A u ≡ Nil → ⊥) → test nil u ≡ false
no_nil A nil n = absurd (n refl)
no_nil A _ n = refl

pub not_nil : {A : Type 0} (w : Value A) → (w ≡ Nil → ⊥) → test nil (tree_of w) ≡ false
not_nil {A} w n = no_nil A (tree_of w) (λ e. n (sym (value_of-tree_of A w) ∙ e))

no_node : (A : Type 0) (u : Tree) (ws : List ℕ) (ss : Trees) → ((b : Body A) → value_of A u ≡ Node b → ⊥)
    → test (node ws ss) u ≡ false
no_node A (node vs ts) ws ss n = absurd (n _ refl)
no_node A _ ws ss n = refl

pub not_node : {A : Type 0} (w : Value A) (ws : List ℕ) (ss : Trees) → ((b : Body A) → w ≡ Node b → ⊥)
    → test (node ws ss) (tree_of w) ≡ false
not_node {A} w ws ss n = no_node A (tree_of w) ws ss (λ b e. n b (sym (value_of-tree_of A w) ∙ e))

no_voids : (A : Type 0) (u : Tree) (k : ℕ) → ((m : ℕ) → value_of A u ≡ Voids m → ⊥) → test (voids k) u ≡ false
no_voids A (voids x) k n = absurd (n _ refl)
no_voids A _ k n = refl

pub not_voids : {A : Type 0} (w : Value A) (k : ℕ) → ((m : ℕ) → w ≡ Voids m → ⊥) → test (voids k) (tree_of w) ≡ false
not_voids {A} w k n = no_voids A (tree_of w) k (λ m e. n m (sym (value_of-tree_of A w) ∙ e))

no_numbers : (u : Tree) (a : NumberWidth) (xs : List ℕ) → ((ys : List ℕ) → u ≡ numbers a ys → ⊥)
    → test (numbers a xs) u ≡ false
no_numbers (numbers b ys) a xs n =
    not-true _ (λ e. n ys (ap (λ c. numbers c ys) (sym (same_of (numbers a xs) (numbers b ys) e).0)))
no_numbers _ a xs n = refl

pub not_numbers : {A : Type 0} (w : Value A) (a : NumberWidth) (xs : List ℕ)
    → ((ys : List ℕ) → w ≡ value_of A (numbers a ys) → ⊥) → test (numbers a xs) (tree_of w) ≡ false
not_numbers {A} w a xs n =
    no_numbers (tree_of w) a xs (λ ys e. n ys (sym (value_of-tree_of A w) ∙ ap (value_of A) e))

no_links : (A : Type 0) (u : Tree) (ss : Trees) → ((vs : List (Value A)) → value_of A u ≡ Links vs → ⊥)
    → test (links ss) u ≡ false
no_links A (links x) ss n = absurd (n _ refl)
no_links A _ ss n = refl

pub not_links : {A : Type 0} (w : Value A) (ss : Trees) → ((vs : List (Value A)) → w ≡ Links vs → ⊥)
    → test (links ss) (tree_of w) ≡ false
not_links {A} w ss n = no_links A (tree_of w) ss (λ vs e. n vs (sym (value_of-tree_of A w) ∙ e))

no_rows : (A : Type 0) (u : Tree) (bs : Bodies) → ((cs : List (Body A)) → value_of A u ≡ Rows cs → ⊥)
    → test (rows bs) u ≡ false
no_rows A (rows x) bs n = absurd (n _ refl)
no_rows A _ bs n = refl

pub not_rows : {A : Type 0} (w : Value A) (bs : Bodies) → ((cs : List (Body A)) → w ≡ Rows cs → ⊥)
    → test (rows bs) (tree_of w) ≡ false
not_rows {A} w bs n = no_rows A (tree_of w) bs (λ cs e. n cs (sym (value_of-tree_of A w) ∙ e))

no_cap : (A : Type 0) (u : Tree) (k : ℕ) → ((j : ℕ) → value_of A u ≡ Cap j → ⊥) → test (cap k) u ≡ false
no_cap A (cap x) k n = absurd (n _ refl)
no_cap A _ k n = refl

pub not_cap : {A : Type 0} (w : Value A) (k : ℕ) → ((j : ℕ) → w ≡ Cap j → ⊥) → test (cap k) (tree_of w) ≡ false
not_cap {A} w k n = no_cap A (tree_of w) k (λ j e. n j (sym (value_of-tree_of A w) ∙ e))

no_null : (A : Type 0) (u : Tree) → (value_of A u ≡ Nil → ⊥) → is_null u ≡ false
no_null A nil n = absurd (n refl)
no_null A _ n = refl

pub not_null : {A : Type 0} (w : Value A) → (w ≡ Nil → ⊥) → is_null (tree_of w) ≡ false
not_null {A} w n = no_null A (tree_of w) (λ e. n (sym (value_of-tree_of A w) ∙ e))

pub test_each-uneven : (ss ts : Trees) → count ss ≢ count ts → test_each ss ts ≡ false
test_each-uneven no_trees no_trees n = absurd (n refl)
test_each-uneven no_trees (tree t ts) n = refl
test_each-uneven (tree s ss) no_trees n = refl
test_each-uneven (tree s ss) (tree t ts) n = and_right _ _ (test_each-uneven ss ts (λ e. n (ap suc e)))

pub test_rows-uneven : (bs cs : Bodies) → count_rows bs ≢ count_rows cs → test_rows bs cs ≡ false
test_rows-uneven no_bodies no_bodies n = absurd (n refl)
test_rows-uneven no_bodies (body vs ts cs) n = refl
test_rows-uneven (body ws ss bs) no_bodies n = refl
test_rows-uneven (body ws ss bs) (body vs ts cs) n = and_right _ _ (test_rows-uneven bs cs (λ e. n (ap suc e)))

pub test_slots-no_more : (ss : Trees) → test_slots ss no_trees ≡ are_null ss
test_slots-no_more no_trees = refl
test_slots-no_more (tree s ss) = ap (λ b. is_null s && b) (test_slots-no_more ss)

and_true : (b : Bool) → b ≡ (b && true)
and_true true = refl
and_true false = refl

pub test_slots-past_left : (ss ts : Trees) → count ss ≡ 0 → test_slots ss ts ≡ (are_null ss && are_null ts)
test_slots-past_left no_trees ts e = refl
test_slots-past_left (tree s ss) ts e = absurd (omega arith)

pub test_slots-past_right : (ss ts : Trees) → count ts ≡ 0 → test_slots ss ts ≡ (are_null ss && are_null ts)
test_slots-past_right ss no_trees e = test_slots-no_more ss ∙ and_true _
test_slots-past_right ss (tree t ts) e = absurd (omega arith)

-- this block is about the test of two values `v` and `w` whose kinds are known
module _ {A B : Type 0} (v : Value A) (w : Value B) where
  seen : (t u : Tree) {r : Bool} → tree_of v ≡ t → tree_of w ≡ u → r ≡ test t u → r ≡ test (tree_of v) (tree_of w)
  seen t u e f h = h ∙ sym (ap₂ test e f)

  seen_apart : (t : Tree) → tree_of v ≡ t → test t (tree_of w) ≡ false → false ≡ test (tree_of v) (tree_of w)
  seen_apart t e h = sym (ap (λ x. test x (tree_of w)) e ∙ h)

  pub both_nil : v ≡ Nil → w ≡ Nil → true ≡ test (tree_of v) (tree_of w)
  both_nil e f = seen nil nil (ap tree_of e ∙ tree_of-Nil A) (ap tree_of f ∙ tree_of-Nil B) refl

  pub both_node : (a : Body A) (b : Body B) {r : Bool} → v ≡ Node a → w ≡ Node b
      → r ≡ test (node a.words (trees_of a.slots)) (node b.words (trees_of b.slots)) → r ≡ test (tree_of v) (tree_of w)
  both_node a b e f =
      seen (node a.words (trees_of a.slots)) (node b.words (trees_of b.slots)) (ap tree_of e ∙ tree_of-Node a)
      (ap tree_of f ∙ tree_of-Node b)

  -- Case: two lists of pointers. `s` and `t` are the slices of the elements of `v` and `w`.
  pub both_links : (xs s : List (Value A)) (ys t : List (Value B)) {r : Bool} → v ≡ Links xs → w ≡ Links ys → s ≡ xs
      → t ≡ ys → r ≡ test_each (trees_of s) (trees_of t) → r ≡ test (tree_of v) (tree_of w)
  both_links xs s ys t e f g h tested =
      seen (links (trees_of xs)) (links (trees_of ys)) (ap tree_of e ∙ tree_of-Links xs)
      (ap tree_of f ∙ tree_of-Links ys) (tested ∙ ap₂ (λ us vs. test_each (trees_of us) (trees_of vs)) g h)

  pub both_rows : (xs s : List (Body A)) (ys t : List (Body B)) {r : Bool} → v ≡ Rows xs → w ≡ Rows ys → s ≡ xs
      → t ≡ ys → r ≡ test_rows (rows_of s) (rows_of t) → r ≡ test (tree_of v) (tree_of w)
  both_rows xs s ys t e f g h tested =
      seen (rows (rows_of xs)) (rows (rows_of ys)) (ap tree_of e ∙ tree_of-Rows xs) (ap tree_of f ∙ tree_of-Rows ys)
      (tested ∙ ap₂ (λ us vs. test_rows (rows_of us) (rows_of vs)) g h)

  pub nil_apart : v ≡ Nil → (w ≡ Nil → ⊥) → false ≡ test (tree_of v) (tree_of w)
  nil_apart e n = seen_apart nil (ap tree_of e ∙ tree_of-Nil A) (not_nil w n)

  pub node_apart : (a : Body A) → v ≡ Node a → ((b : Body B) → w ≡ Node b → ⊥) → false ≡ test (tree_of v) (tree_of w)
  node_apart a e n =
      seen_apart (node a.words (trees_of a.slots)) (ap tree_of e ∙ tree_of-Node a)
      (not_node w a.words (trees_of a.slots) n)

  pub links_apart : (xs : List (Value A)) → v ≡ Links xs → ((ys : List (Value B)) → w ≡ Links ys → ⊥)
      → false ≡ test (tree_of v) (tree_of w)
  links_apart xs e n =
      seen_apart (links (trees_of xs)) (ap tree_of e ∙ tree_of-Links xs) (not_links w (trees_of xs) n)

  pub rows_apart : (xs : List (Body A)) → v ≡ Rows xs → ((ys : List (Body B)) → w ≡ Rows ys → ⊥)
      → false ≡ test (tree_of v) (tree_of w)
  rows_apart xs e n = seen_apart (rows (rows_of xs)) (ap tree_of e ∙ tree_of-Rows xs) (not_rows w (rows_of xs) n)

  pub both_voids : (n m : ℕ) {r : Bool} → v ≡ Voids n → w ≡ Voids m → r ≡ test (voids n) (voids m)
      → r ≡ test (tree_of v) (tree_of w)
  both_voids n m e f = seen (voids n) (voids m) (ap tree_of e ∙ tree_of-Voids A n) (ap tree_of f ∙ tree_of-Voids B m)

  pub voids_apart : (k : ℕ) → v ≡ Voids k → ((m : ℕ) → w ≡ Voids m → ⊥) → false ≡ test (tree_of v) (tree_of w)
  voids_apart k e n = seen_apart (voids k) (ap tree_of e ∙ tree_of-Voids A k) (not_voids w k n)

  pub both_numbers : {a : NumberWidth} {xs ys s t : List ℕ} {r : Bool} → tree_of v ≡ numbers a xs
      → tree_of w ≡ numbers a ys → s ≡ xs → t ≡ ys → r ≡ pointwise ◌==◌ s t → r ≡ test (tree_of v) (tree_of w)
  both_numbers {a} {xs} {ys} e f g h tested =
      seen (numbers a xs) (numbers a ys) e f (tested ∙ ap₂ (λ x y. pointwise ◌==◌ x y) g h
      ∙ sym (ap (λ b. b && pointwise ◌==◌ xs ys) (eq-eqb (bits_in a) (bits_in a) refl)))

  pub numbers_apart : {a : NumberWidth} {xs : List ℕ} → tree_of v ≡ numbers a xs
      → ((ys : List ℕ) → w ≡ value_of B (numbers a ys) → ⊥) → false ≡ test (tree_of v) (tree_of w)
  numbers_apart {a} {xs} e n = seen_apart (numbers a xs) e (not_numbers w a xs n)

  pub both_cap : (k j : ℕ) {r : Bool} → v ≡ Cap k → w ≡ Cap j → r ≡ test (cap k) (cap j)
      → r ≡ test (tree_of v) (tree_of w)
  both_cap k j e f = seen (cap k) (cap j) (ap tree_of e ∙ tree_of-Cap A k) (ap tree_of f ∙ tree_of-Cap B j)

  pub cap_apart : (k : ℕ) → v ≡ Cap k → ((j : ℕ) → w ≡ Cap j → ⊥) → false ≡ test (tree_of v) (tree_of w)
  cap_apart k e n = seen_apart (cap k) (ap tree_of e ∙ tree_of-Cap A k) (not_cap w k n)

-- the rules for values of different kinds, and for the trees of each kind
pub ruleset apart =
    (views, not_null, test_each-uneven, test_rows-uneven, test_slots-past_left, test_slots-past_right)

-- if the slots up to the end of the shorter list are equal, `test_slots` is true exactly if all later slots of both
-- lists are null
pub test_slots-past_shared : {A B : Type 0} (a : List (Value A)) (b : List (Value B)) (i s : ℕ)
    → s ≡ min (length a) (length b) → i ≡ s →
    test_slots (trees_of (drop i a)) (trees_of (drop i b)) ≡ test_slots (trees_of a) (trees_of b) →
    (are_null (trees_of (take (length a - s) (drop s a))) && are_null (trees_of (take (length b - s) (drop s b))))
    ≡ test_slots (trees_of a) (trees_of b)
test_slots-past_shared a b i s e f h =
    let p : take (length a - s) (drop s a) ≡ drop i a = grind (arith, common_steps) in
    let q : take (length b - s) (drop s b) ≡ drop i b = grind (arith, common_steps) in
    rw (p, q) (sym (elim (cases_lt (length a) (suc (length b))) [
      | inl l ↦ test_slots-past_left _ _ (count-trees_of (drop i a) ∙ omega (arith, length-drop i a))
      | inr r ↦ test_slots-past_right _ _ (count-trees_of (drop i b) ∙ omega (arith, length-drop i b))
    ]) ∙ h)
