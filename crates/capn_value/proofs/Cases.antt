-- Lemmas for `cost_and_height.rt`, `flaws.rt`, `part_flaws.rt` and `value.rt`: the facts about a value of a known kind,
-- in the arms of a match.
use Rattle.std.proofs.Common.{◌≡◌, ℕ, List, Bool, true, false, ◌||◌, None, ◌⊎◌, inl, inr, refl, length, ap, ap₂, sym}
use Rattle.std.proofs.Common.{◌∙◌, nat_lt}
use Rattle.capn_value.specs.NumberWidth.{NumberWidth}
use Rattle.capn_value.specs.Tree.{Tree, nil, node, voids, numbers, links, rows, cap}
use Rattle.capn_value.specs.TreeOf.{tree_of, trees_of, rows_of}
use Rattle.capn_value.specs.Views.{tree_of-Nil, tree_of-Node, tree_of-Voids, tree_of-Links, tree_of-Rows, tree_of-Cap}
use Rattle.capn_value.specs.Views.{count-trees_of}
use Rattle.capn_value.specs.FirstCap.{first_cap}
use Rattle.capn_value.specs.Cost.{height}
use Rattle.capn_value.specs.Fits.{anywhere, is_wide, is_long, is_ragged, is_root, elements, words_in_rows}
use Rattle.capn_value.specs.declared.value.Value.{Value, Nil, Node, Voids, Links, Rows, Cap}
use Rattle.capn_value.specs.declared.value.Body.{Body}
use Rattle.capn_value.proofs.Anywhere.{or_no_more}
use Rattle.capn_value.proofs.Inverse.{value_of, value_of-tree_of}

-- this block is about the tree of a value `v` whose kind is known
module _ {A X : Type 0} (f : Tree → X) (v : Value A) where
  pub node_seen : (b : Body A) → v ≡ Node b → f (node b.words (trees_of b.slots)) ≡ f (tree_of v)
  node_seen b e = sym (ap f (ap tree_of e ∙ tree_of-Node b))

  pub links_seen : (vs : List (Value A)) → v ≡ Links vs → f (links (trees_of vs)) ≡ f (tree_of v)
  links_seen vs e = sym (ap f (ap tree_of e ∙ tree_of-Links vs))

  pub rows_seen : (bs : List (Body A)) → v ≡ Rows bs → f (rows (rows_of bs)) ≡ f (tree_of v)
  rows_seen bs e = sym (ap f (ap tree_of e ∙ tree_of-Rows bs))

  pub cap_seen : {k : ℕ} → v ≡ Cap k → f (cap k) ≡ f (tree_of v)
  cap_seen {k} e = sym (ap f (ap tree_of e ∙ tree_of-Cap A k))

-- the value `v` is not of the given kind
abbrev pub IsNot : {A X : Type 0} → (X → Value A) → Value A → Type 0
IsNot {A = A} {X} kind v = (x : X) → v ≡ kind x → ⊥

module _ {A : Type 0} where
  pub still_not : {X : Type 0} (kind : X → Value A) (v : Value A) → IsNot kind v → IsNot kind (value_of A (tree_of v))
  still_not kind v n x e = n x (sym (value_of-tree_of A v) ∙ e)

  capless : (t : Tree) → IsNot {A = A} Cap (value_of A t) → IsNot {A = A} Node (value_of A t)
      → IsNot {A = A} Links (value_of A t)
      → IsNot {A = A} Rows (value_of A t) → None ≡ first_cap t
  capless (cap k) n m l r = absurd (n _ refl)
  capless (node ws ss) n m l r = absurd (m _ refl)
  capless (links ts) n m l r = absurd (l _ refl)
  capless (rows bs) n m l r = absurd (r _ refl)
  capless _ n m l r = refl

  pub no_cap : (v : Value A) → IsNot Cap v → IsNot Node v → IsNot Links v → IsNot Rows v
      → None ≡ first_cap (tree_of v)
  no_cap v n m l r =
      capless (tree_of v) (still_not Cap v n) (still_not Node v m) (still_not Links v l) (still_not Rows v r)

  bodiless : (t : Tree) → IsNot {A = A} Node (value_of A t) → IsNot {A = A} Rows (value_of A t) → false ≡ is_wide t
  bodiless (node ws ss) m r = absurd (m _ refl)
  bodiless (rows bs) m r = absurd (r _ refl)
  bodiless _ m r = refl

  pub narrow : (v : Value A) → IsNot Node v → IsNot Rows v → false ≡ is_wide (tree_of v)
  narrow v m r = bodiless (tree_of v) (still_not Node v m) (still_not Rows v r)

  rowless : (t : Tree) → IsNot {A = A} Rows (value_of A t) → false ≡ is_ragged t
  rowless (rows bs) r = absurd (r _ refl)
  rowless _ r = refl

  pub even : (v : Value A) → IsNot Rows v → false ≡ is_ragged (tree_of v)
  even v r = rowless (tree_of v) (still_not Rows v r)

  flat : (t : Tree) → (value_of A t ≡ Nil → ⊥) → IsNot {A = A} Cap (value_of A t) → IsNot {A = A} Node (value_of A t)
      → IsNot {A = A} Links (value_of A t) → IsNot {A = A} Rows (value_of A t) → height t ≡ 1
  flat nil z n m l r = absurd (z refl)
  flat (cap k) z n m l r = absurd (n _ refl)
  flat (node ws ss) z n m l r = absurd (m _ refl)
  flat (links ts) z n m l r = absurd (l _ refl)
  flat (rows bs) z n m l r = absurd (r _ refl)
  flat _ z n m l r = refl

  pub low : (v : Value A) → (v ≡ Nil → ⊥) → IsNot Cap v → IsNot Node v → IsNot Links v → IsNot Rows v
      → height (tree_of v) ≡ 1
  low v z n m l r =
      flat (tree_of v) (λ e. z (sym (value_of-tree_of A v) ∙ e)) (still_not Cap v n) (still_not Node v m)
      (still_not Links v l) (still_not Rows v r)

  above_none : (test : Tree → Bool) (t : Tree) → IsNot {A = A} Node (value_of A t) → IsNot {A = A} Links (value_of A t)
      → IsNot {A = A} Rows (value_of A t) → test t ≡ anywhere test t
  above_none test (node ws ss) m l r = absurd (m _ refl)
  above_none test (links ts) m l r = absurd (l _ refl)
  above_none test (rows bs) m l r = absurd (r _ refl)
  above_none test _ m l r = refl

  -- if `v` has no values below it, `test` holds anywhere in `v` exactly if it holds of `v`
  pub alone : (test : Tree → Bool) (v : Value A) → IsNot Node v → IsNot Links v → IsNot Rows v
      → test (tree_of v) ≡ anywhere test (tree_of v)
  alone test v m l r =
      above_none test (tree_of v) (still_not Node v m) (still_not Links v l) (still_not Rows v r)

  uncapped : (t : Tree) → IsNot {A = A} Cap (value_of A t) → true ≡ is_root t
  uncapped (cap k) n = absurd (n _ refl)
  uncapped _ n = refl

  pub rooted : (v : Value A) → IsNot Cap v → true ≡ is_root (tree_of v)
  rooted v n = uncapped (tree_of v) (still_not Cap v n)

  abbrev IsNoObject : Value A → Type 0
  IsNoObject v = (v ≡ Nil) ⊎ ((k : ℕ) × (v ≡ Cap k))

  pub no_object : (v : Value A) → IsNoObject v → height (tree_of v) ≡ 0
  no_object v (inl e) = ap height (ap tree_of e ∙ tree_of-Nil A)
  no_object v (inr p) = ap height (ap tree_of p.1 ∙ tree_of-Cap A p.0)

  abbrev IsShort : Value A → Type 0
  IsShort v = (v ≡ Nil) ⊎ (((b : Body A) × (v ≡ Node b)) ⊎ ((k : ℕ) × (v ≡ Cap k)))

  pub short : (v : Value A) → IsShort v → false ≡ is_long (tree_of v)
  short v (inl e) = sym (ap is_long (ap tree_of e ∙ tree_of-Nil A))
  short v (inr (inl p)) = sym (ap is_long (ap tree_of p.1 ∙ tree_of-Node p.0))
  short v (inr (inr p)) = cap_seen is_long v p.1

  -- if `v` is no list of structs, `v` is long exactly if it has more than 2^29 - 1 elements
  counted : (v : Value A) (t : Tree) {n : ℕ} → tree_of v ≡ t → words_in_rows t ≡ 0 → n ≡ elements t
      → nat_lt 536870911 n ≡ is_long (tree_of v)
  counted v t {n} e f g =
      or_no_more (nat_lt 536870911 n) ∙ ap₂ (λ m w. nat_lt 536870911 m || nat_lt 536870911 w) g (sym f)
      ∙ sym (ap is_long e)

  module _ (v : Value A) {n : ℕ} where
    pub voids_long : {m : ℕ} → v ≡ Voids m → n ≡ m → nat_lt 536870911 n ≡ is_long (tree_of v)
    voids_long {m} e g = counted v (voids m) (ap tree_of e ∙ tree_of-Voids A m) refl g

    pub numbers_long : {a : NumberWidth} {xs : List ℕ} → tree_of v ≡ numbers a xs → n ≡ length xs
        → nat_lt 536870911 n ≡ is_long (tree_of v)
    numbers_long {a} {xs} e g = counted v (numbers a xs) e refl g

    pub links_long : (vs : List (Value A)) → v ≡ Links vs → n ≡ length vs → nat_lt 536870911 n ≡ is_long (tree_of v)
    links_long vs e g =
        counted v (links (trees_of vs)) (ap tree_of e ∙ tree_of-Links vs) refl (g ∙ sym (count-trees_of vs))
