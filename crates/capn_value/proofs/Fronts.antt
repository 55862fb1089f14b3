-- Lemmas for the cycle `anew` and `kept_slots`: the first `n` trees of a list of trees.
use Rattle.std.proofs.Common.{◌≡◌, ℕ, zero, suc, ◌+◌, ◌<◌, List, [], ◌∷◌, ◌++◌, length, min, take, drop, refl, sym, ap}
use Rattle.std.proofs.Common.{ap₂, ◌∙◌, arith, get_or, add-one, Bool, true, false, Option, Some, None}
use Rattle.std.proofs.lemmas.List.{take_all, take_min, length-take-le}
use Rattle.std.specs.Prelude.{Result, Ok, Err}
use Rattle.std.specs.Result.{IfOk, IsOkAnd}
use Rattle.std.specs.Option.{is_some, unwrap_or}
use Rattle.capn_value.specs.Tree.{Trees, no_trees, tree, Bodies, no_bodies, body, joined, joined_rows, front, count}
use Rattle.capn_value.specs.Tree.{tree_at}
use Rattle.capn_value.specs.TreeOf.{tree_of, trees_of, rows_of}
use Rattle.capn_value.specs.Views.{count-trees_of}
use Rattle.capn_value.specs.Trim.{trimmed, trimmed_each}
use Rattle.capn_value.specs.inner.CutCopy.{anew, each_anew, words_anew, slots_anew, rows_anew}
use Rattle.capn_value.specs.declared.value.Value.{Value}
use Rattle.capn_value.specs.declared.value.Body.{Body}
use Rattle.capn_value.proofs.Anywhere.{drop-next, drop-past}
use Rattle.capn_value.proofs.shared.Trimmed.{count-trimmed_each}

pub front-suc : (i : ℕ) (ts : Trees) → i < count ts
    → front (suc i) ts ≡ joined (front i ts) (tree (tree_at ts i) no_trees)
front-suc i no_trees h = absurd (omega arith)
front-suc zero (tree t ts) h = refl
front-suc (suc i) (tree t ts) h = ap (tree t) (front-suc i ts (omega arith))

pub front-count : (ts : Trees) → front (count ts) ts ≡ ts
front-count no_trees = refl
front-count (tree t ts) = ap (tree t) (front-count ts)

pub front-min : (n : ℕ) (ts : Trees) → front (min n (count ts)) ts ≡ front n ts
front-min zero ts = let e : min zero (count ts) ≡ zero = omega arith in rw e
front-min (suc n) no_trees = let e : min (suc n) zero ≡ zero = omega arith in rw e
front-min (suc n) (tree t ts) =
    let e : min (suc n) (suc (count ts)) ≡ suc (min n (count ts)) = omega arith in rw e (ap (tree t) (front-min n ts))

tree_at-trimmed_each : (i : ℕ) (ts : Trees) → tree_at (trimmed_each ts) i ≡ trimmed (tree_at ts i)
tree_at-trimmed_each i no_trees = refl
tree_at-trimmed_each zero (tree t ts) = refl
tree_at-trimmed_each (suc i) (tree t ts) = tree_at-trimmed_each i ts

tree_at-each_anew : (cut : Bool) (i : ℕ) (ts : Trees) → tree_at (each_anew cut ts) i ≡ anew cut (tree_at ts i)
tree_at-each_anew true i ts = tree_at-trimmed_each i ts
tree_at-each_anew false i ts = refl

count-each_anew : (cut : Bool) (ts : Trees) → count (each_anew cut ts) ≡ count ts
count-each_anew true ts = count-trimmed_each ts
count-each_anew false ts = refl

module _ {A : Type 0} where
  pub tree_at-trees_of : (i : ℕ) (vs : List (Value A)) (v : Value A) → i < length vs → v ≡ get_or vs i v
      → tree_at (trees_of vs) i ≡ tree_of v
  tree_at-trees_of i [] v h e = absurd (omega arith)
  tree_at-trees_of zero (w ∷ vs) v h e = ap tree_of (sym e)
  tree_at-trees_of (suc i) (w ∷ vs) v h e = tree_at-trees_of i vs v (omega arith) e

  pub trees_of-push : (vs : List (Value A)) (v : Value A)
      → trees_of (vs ++ v ∷ []) ≡ joined (trees_of vs) (tree (tree_of v) no_trees)
  trees_of-push [] v = refl
  trees_of-push (w ∷ vs) v = ap (tree (tree_of w)) (trees_of-push vs v)

  pub front-length : (vs : List (Value A)) → front (length vs) (trees_of vs) ≡ trees_of vs
  front-length vs = ap (λ n. front n (trees_of vs)) (sym (count-trees_of vs)) ∙ front-count (trees_of vs)

  module _ (cut : Bool) (vs : List (Value A)) where
    pub count-anew : count (each_anew cut (trees_of vs)) ≡ length vs
    count-anew = count-each_anew cut (trees_of vs) ∙ count-trees_of vs

    pub anew_front-length : front (length vs) (each_anew cut (trees_of vs)) ≡ each_anew cut (trees_of vs)
    anew_front-length = ap (λ n. front n (each_anew cut (trees_of vs))) (sym count-anew)
        ∙ front-count (each_anew cut (trees_of vs))

    pub anew_front-min : (n : ℕ)
        → front (min n (length vs)) (each_anew cut (trees_of vs)) ≡ front n (each_anew cut (trees_of vs))
    anew_front-min n = ap (λ k. front (min n k) (each_anew cut (trees_of vs))) (sym count-anew)
        ∙ front-min n (each_anew cut (trees_of vs))

-- this block is about the copy of the next value `v`, which is pushed after the earlier copies in `out`
module _ {A B : Type 0} (cut : Bool) (out : List (Value A)) (items : List (Value B)) (i : ℕ) (v : Value B)
    (so_far : trees_of out ≡ front i (each_anew cut (trees_of items))) (within : i < length items)
    (here : v ≡ get_or items i v) where
  anew_front-push : (r : Value A) → tree_of r ≡ anew cut (tree_of v)
      → trees_of (out ++ r ∷ []) ≡ front (i + 1) (each_anew cut (trees_of items))
  anew_front-push r done =
      let all = each_anew cut (trees_of items) in
      let next : tree_of r ≡ tree_at all i =
      done ∙ ap (anew cut) (sym (tree_at-trees_of i items v within here))
      ∙ sym (tree_at-each_anew cut i (trees_of items)) in
      rw add-one
      (trees_of-push out r ∙ ap₂ (λ ts t. joined ts (tree t no_trees)) so_far next
      ∙ sym (front-suc i all (omega (arith, count-anew cut items))))

  -- `anew_front-push` for the result of a call that made the copy
  pub front_made : {E : Type 0} (r : Result (Value A) E) (more : List (Value A))
      → IfOk r (λ u. tree_of u ≡ anew cut (tree_of v)) → IsOkAnd r (λ u. more ≡ out ++ u ∷ [])
      → trees_of more ≡ front (i + 1) (each_anew cut (trees_of items))
  front_made (Ok u) more e p = ap trees_of p ∙ anew_front-push u e
  front_made (Err d) more e p = absurd p

joined_rows-push : {A : Type 0} (bs : List (Body A)) (b : Body A) (cs : Bodies) →
    joined_rows (rows_of (bs ++ b ∷ [])) cs ≡ joined_rows (rows_of bs) (body b.words (trees_of b.slots) cs)
joined_rows-push [] b cs = refl
joined_rows-push (c ∷ bs) b cs = ap (body c.words (trees_of c.slots)) (joined_rows-push bs b cs)

joined_rows-none : (bs : Bodies) → joined_rows bs no_bodies ≡ bs
joined_rows-none no_bodies = refl
joined_rows-none (body ws ss bs) = ap (body ws ss) (joined_rows-none bs)

rows_anew-none : (kept : Option (ℕ × ℕ)) → rows_anew kept no_bodies ≡ no_bodies
rows_anew-none (Some k) = refl
rows_anew-none None = refl

rows_anew-body : (kept : Option (ℕ × ℕ)) (ws : List ℕ) (ss : Trees) (bs : Bodies)
    → rows_anew kept (body ws ss bs) ≡ body (words_anew kept ws) (slots_anew kept ss) (rows_anew kept bs)
rows_anew-body (Some k) ws ss bs = refl
rows_anew-body None ws ss bs = refl

-- this block is about the copy of the next row, which is pushed after the earlier copies in `out`
module _ {A B : Type 0} (kept : Option (ℕ × ℕ)) (out : List (Body A)) (rows : List (Body B)) (i : ℕ) {all : Bodies}
    (so_far : joined_rows (rows_of out) (rows_anew kept (rows_of (drop i rows))) ≡ all) where
  row_pushed : (b : Body B) (r : Body A) {more : List (Body A)} → i < length rows → b ≡ get_or rows i b
      → r.words ≡ words_anew kept b.words → trees_of r.slots ≡ slots_anew kept (trees_of b.slots)
      → more ≡ out ++ r ∷ []
      → joined_rows (rows_of more) (rows_anew kept (rows_of (drop (i + 1) rows))) ≡ all
  row_pushed b r h at e f p =
      let rest = rows_of (drop (i + 1) rows) in
      ap (λ o. joined_rows (rows_of o) (rows_anew kept rest)) p ∙ joined_rows-push out r (rows_anew kept rest)
      ∙ ap₂ (λ ws ss. joined_rows (rows_of out) (body ws ss (rows_anew kept rest))) e f
      ∙ ap (joined_rows (rows_of out)) (sym (rows_anew-body kept b.words (trees_of b.slots) rest))
      ∙ sym (ap (λ bs. joined_rows (rows_of out) (rows_anew kept (rows_of bs))) (drop-next rows i b h at)) ∙ so_far

  -- `row_pushed` for the result of a call that made the copy
  pub row_made : {E : Type 0} (b : Body B) (r : Result (Body A) E) (more : List (Body A)) → i < length rows
      → b ≡ get_or rows i b → IfOk r (λ u. u.words ≡ words_anew kept b.words)
      → IfOk r (λ u. trees_of u.slots ≡ slots_anew kept (trees_of b.slots))
      → IsOkAnd r (λ u. more ≡ out ++ u ∷ [])
      → joined_rows (rows_of more) (rows_anew kept (rows_of (drop (i + 1) rows))) ≡ all
  row_made b (Ok u) more h at e f p = row_pushed b u h at e f p
  row_made b (Err d) more h at e f p = absurd p

  pub rows_made : i ≡ length rows → rows_of out ≡ all
  rows_made e =
      sym (joined_rows-none (rows_of out)) ∙ ap (joined_rows (rows_of out)) (sym (rows_anew-none kept))
      ∙ sym (ap (λ bs. joined_rows (rows_of out) (rows_anew kept (rows_of bs))) (drop-past rows i e)) ∙ so_far

pub cut_length : (k : ℕ) (s : List ℕ) {m : ℕ} → m ≡ min k (length s) → m ≡ length (take m s)
cut_length k s {m} e = sym (length-take-le m s (omega arith))

all_words : (kept : Option (ℕ × ℕ)) (a b : ℕ) (ws : List ℕ) → a ≡ length ws
    → take (unwrap_or kept (a, b)).0 ws ≡ words_anew kept ws
all_words (Some k) a b ws e = refl
all_words None a b ws e = take_all a ws (omega arith)

all_slots : {A : Type 0} (kept : Option (ℕ × ℕ)) (a b : ℕ) (vs : List (Value A)) → b ≡ length vs
    → front (unwrap_or kept (a, b)).1 (each_anew (is_some kept) (trees_of vs)) ≡ slots_anew kept (trees_of vs)
all_slots (Some k) a b vs e = refl
all_slots None a b vs e = ap (λ n. front n (trees_of vs)) e ∙ front-length vs

-- this block shows that a copied body has the words `words_anew kept` and the slots `slots_anew kept` of the original
module _ (kept : Option (ℕ × ℕ)) {p : ℕ × ℕ} (a b : ℕ) (chosen : p ≡ unwrap_or kept (a, b)) where
  pub words_made : {xs s w : List ℕ} {m : ℕ} → s ≡ xs → a ≡ length xs → m ≡ min p.0 (length s) → w ≡ take m s
      → w ≡ words_anew kept xs
  words_made {xs} {s} whole n e h =
      h ∙ ap (λ i. take i s) e ∙ take_min p.0 s ∙ ap₂ (λ q ys. take q.0 ys) chosen whole ∙ all_words kept a b xs n

  pub slots_made : {A : Type 0} {vs s : List (Value A)} {some : Bool} {ts : Trees} → s ≡ vs → b ≡ length vs
      → some ≡ is_some kept → ts ≡ front p.1 (each_anew some (trees_of s)) → ts ≡ slots_anew kept (trees_of vs)
  slots_made {vs = vs} whole n e h =
      h ∙ ap₂ (λ c us. front p.1 (each_anew c (trees_of us))) e whole
      ∙ ap (λ q. front q.1 (each_anew (is_some kept) (trees_of vs))) chosen ∙ all_slots kept a b vs n
