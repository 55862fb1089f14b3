-- A value and its trimmed value have the same canonical words. (For `EqualExactlySame`.)
use Rattle.std.proofs.Common.{◌≡◌, ℕ, zero, suc, ◌+◌, ◌*◌, ◌≤◌, ◌==◌, max, Bool, true, false, List, [], ◌∷◌, ◌++◌, take}
use Rattle.std.proofs.Common.{refl, ap, ap₂, sym, ◌∙◌, arith}
use Rattle.std.proofs.lemmas.Bool.Decides.{nat_tests}
use Rattle.capn_words.specs.Pointers.{word_of}
use Rattle.capn_words.specs.declared.pointer.Pointer.TheVariants.{Node}
use Rattle.capn_words.specs.declared.pointer.Width.TheVariants.{Link, Rows}
use Rattle.std.specs.Prelude.{pos}
use Rattle.capn_value.specs.Tree.{Tree, nil, node, voids, numbers, links, rows, cap, Trees}
use Rattle.capn_value.specs.Tree.{no_trees, tree, Bodies, no_bodies, body, count, count_rows, front, is_null}
use Rattle.capn_value.specs.Trim.{kept_behind, kept_words, kept_slots, kept_words_of_rows, kept_slots_of_rows, trimmed}
use Rattle.capn_value.specs.Trim.{trimmed_each, trimmed_rows}
use Rattle.capn_layout.specs.Layout.{own, size, sizes, sizes_in_rows, struct_to, list_to, point, points, row_contents}
use Rattle.capn_layout.specs.Layout.{lay, lays, lays_in_rows, words}
use Rattle.capn_value.proofs.shared.Trimmed.{count-trimmed_each, count-trimmed_rows}

take-again : (n : ℕ) (xs : List ℕ) → take n (take n xs) ≡ take n xs
take-again zero xs = refl
take-again (suc n) [] = refl
take-again (suc n) (x ∷ xs) = ap (λ (r : List ℕ). x ∷ r) (take-again n xs)

behind-le : (e : Bool) (k a : ℕ) → kept_behind e k ≤ suc a → k ≤ a
behind-le e k a h = grind (arith, nat_tests)

behind-zero : (e : Bool) (k : ℕ) → kept_behind e k ≡ 0 → (e ≡ true) × (k ≡ 0)
behind-zero true k h = (refl, grind (arith, nat_tests))
behind-zero false k h = absurd (grind (arith, nat_tests))

-- If trimming keeps at most `a` of the words `ws`, it keeps the same number of the first `a` words.
kept-take : (a : ℕ) (ws : List ℕ) → kept_words ws ≤ a → kept_words (take a ws) ≡ kept_words ws
kept-take zero ws h = let e : kept_words ws ≡ 0 = omega arith in sym e
kept-take (suc a) [] h = refl
kept-take (suc a) (w ∷ ws) h = ap (kept_behind (w == 0)) (kept-take a ws (behind-le (w == 0) (kept_words ws) a h))

null-cut : (t : Tree) → is_null (trimmed t) ≡ is_null t
null-cut nil = refl
null-cut (node ws ss) = refl
null-cut (voids n) = refl
null-cut (numbers a xs) = refl
null-cut (links ts) = refl
null-cut (rows bs) = refl
null-cut (cap k) = refl

kept-front : (b : ℕ) (ss : Trees) → kept_slots ss ≤ b → kept_slots (front b (trimmed_each ss)) ≡ kept_slots ss
kept-front zero ss h = let e : kept_slots ss ≡ 0 = omega arith in sym e
kept-front (suc b) no_trees h = refl
kept-front (suc b) (tree t ts) h =
    ap₂ kept_behind (null-cut t) (kept-front b ts (behind-le (is_null t) (kept_slots ts) b h))

kept-rows : (a b : ℕ) (bs : Bodies) → kept_words_of_rows bs ≤ a
    → kept_words_of_rows (trimmed_rows a b bs) ≡ kept_words_of_rows bs
kept-rows a b no_bodies h = refl
kept-rows a b (body ws ss bs) h = ap₂ max (kept-take a ws (omega arith)) (kept-rows a b bs (omega arith))

kept-rows_slots : (a b : ℕ) (bs : Bodies) → kept_slots_of_rows bs ≤ b
    → kept_slots_of_rows (trimmed_rows a b bs) ≡ kept_slots_of_rows bs
kept-rows_slots a b no_bodies h = refl
kept-rows_slots a b (body ws ss bs) h = ap₂ max (kept-front b ss (omega arith)) (kept-rows_slots a b bs (omega arith))

null-is : (t : Tree) → is_null t ≡ true → t ≡ nil
null-is nil h = refl
null-is (node ws ss) h = absurd cc
null-is (voids n) h = absurd cc
null-is (numbers a xs) h = absurd cc
null-is (links ts) h = absurd cc
null-is (rows bs) h = absurd cc
null-is (cap k) h = absurd cc

no-sizes : (ss : Trees) → kept_slots ss ≡ 0 → sizes ss ≡ 0
no-sizes no_trees h = refl
no-sizes (tree t ts) h =
    let e = behind-zero (is_null t) (kept_slots ts) h in
    let n = null-is t e.0 in
    let a = no-sizes ts e.1 in
    let s : size t ≡ 0 = ap size n in
    omega arith

no-lays : (ss : Trees) (at : ℕ) → kept_slots ss ≡ 0 → lays ss at ≡ []
no-lays no_trees at h = refl
no-lays (tree t ts) at h =
    let e = behind-zero (is_null t) (kept_slots ts) h in
    let n = null-is t e.0 in
    ap₂ (λ (x y : List ℕ). x ++ y) (ap (λ (v : Tree). lay v at) n) (no-lays ts (at + size t) e.1)

point-trimmed : (v : Tree) (from to : ℕ) → point (trimmed v) from to ≡ point v from to
unfolding point
point-trimmed nil from to = refl
point-trimmed (node ws ss) from to =
    ap₂ (struct_to from to) (kept-take (kept_words ws) ws (omega arith)) (kept-front (kept_slots ss) ss (omega arith))
point-trimmed (voids n) from to = refl
point-trimmed (numbers a xs) from to = refl
point-trimmed (links ts) from to = ap (list_to from to Link) (count-trimmed_each ts)
point-trimmed (rows bs) from to =
    let a = kept_words_of_rows bs in
    let b = kept_slots_of_rows bs in
    ap (list_to from to Rows)
    (ap₂ ◌*◌ (count-trimmed_rows a b bs)
    (ap₂ ◌+◌ (kept-rows a b bs (omega arith)) (kept-rows_slots a b bs (omega arith))))
point-trimmed (cap k) from to = refl

own-rows : (bs : Bodies) → own (trimmed (rows bs)) ≡ own (rows bs)
own-rows bs =
    let a = kept_words_of_rows bs in
    let b = kept_slots_of_rows bs in
    ap (λ (n : ℕ). 1 + n)
    (ap₂ ◌*◌ (count-trimmed_rows a b bs)
    (ap₂ ◌+◌ (kept-rows a b bs (omega arith)) (kept-rows_slots a b bs (omega arith))))

mutual
  size-trimmed : (v : Tree) → size (trimmed v) ≡ size v
  size-trimmed nil = refl
  size-trimmed (node ws ss) =
      let x = kept-take (kept_words ws) ws (omega arith) in
      let y = kept-front (kept_slots ss) ss (omega arith) in
      let z = sizes-cut (kept_slots ss) ss (omega arith) in
      omega arith
  size-trimmed (voids n) = refl
  size-trimmed (numbers a xs) = refl
  size-trimmed (links ts) = ap₂ ◌+◌ (count-trimmed_each ts) (sizes-each ts)
  size-trimmed (rows bs) =
      ap₂ ◌+◌ (own-rows bs) (sizes-rows (kept_words_of_rows bs) (kept_slots_of_rows bs) bs (omega arith))
  size-trimmed (cap k) = refl

  sizes-each : (ts : Trees) → sizes (trimmed_each ts) ≡ sizes ts
  sizes-each no_trees = refl
  sizes-each (tree t ts) = ap₂ ◌+◌ (size-trimmed t) (sizes-each ts)

  sizes-cut : (b : ℕ) (ss : Trees) → kept_slots ss ≤ b → sizes (front b (trimmed_each ss)) ≡ sizes ss
  sizes-cut zero ss h = sym (no-sizes ss (omega arith))
  sizes-cut (suc b) no_trees h = refl
  sizes-cut (suc b) (tree t ts) h =
      ap₂ ◌+◌ (size-trimmed t) (sizes-cut b ts (behind-le (is_null t) (kept_slots ts) b h))

  sizes-rows : (a b : ℕ) (bs : Bodies) → kept_slots_of_rows bs ≤ b
      → sizes_in_rows (trimmed_rows a b bs) ≡ sizes_in_rows bs
  sizes-rows a b no_bodies h = refl
  sizes-rows a b (body ws ss bs) h = ap₂ ◌+◌ (sizes-cut b ss (omega arith)) (sizes-rows a b bs (omega arith))

points-each : (ts : Trees) (from to : ℕ) → points (trimmed_each ts) from to ≡ points ts from to
points-each no_trees from to = refl
points-each (tree t ts) from to =
    ap₂ (λ (x : ℕ) (r : List ℕ). x ∷ r) (point-trimmed t from to)
    (ap (λ (n : ℕ). points (trimmed_each ts) (suc from) (to + n)) (size-trimmed t)
    ∙ points-each ts (suc from) (to + size t))

points-cut : (b : ℕ) (ss : Trees) (from to : ℕ)
    → points (front b (trimmed_each ss)) from to ≡ take b (points ss from to)
points-cut zero ss from to = refl
points-cut (suc b) no_trees from to = refl
points-cut (suc b) (tree t ts) from to =
    ap₂ (λ (x : ℕ) (r : List ℕ). x ∷ r) (point-trimmed t from to)
    (ap (λ (n : ℕ). points (front b (trimmed_each ts)) (suc from) (to + n)) (size-trimmed t)
    ∙ points-cut b ts (suc from) (to + size t))

-- Trimming the first `b` values of `ss` does not change their pointers.
points-again : (b : ℕ) (ss : Trees) (from to : ℕ)
    → take b (points (front b (trimmed_each ss)) from to) ≡ take b (points ss from to)
points-again b ss from to = ap (take b) (points-cut b ss from to) ∙ take-again b (points ss from to)

rows-cut : (a b : ℕ) (bs : Bodies) (from to : ℕ) → kept_slots_of_rows bs ≤ b
    → row_contents a b (trimmed_rows a b bs) from to ≡ row_contents a b bs from to
rows-cut a b no_bodies from to h = refl
rows-cut a b (body ws ss bs) from to h =
    ap₂ (λ (x y : List ℕ). x ++ y) (take-again a ws)
    (ap₂ (λ (x y : List ℕ). x ++ y) (points-again b ss (from + a) to)
    (ap (λ (n : ℕ). row_contents a b (trimmed_rows a b bs) (from + a + b) (to + n)) (sizes-cut b ss (omega arith))
    ∙ rows-cut a b bs (from + a + b) (to + sizes ss) (omega arith)))

-- The layout at the word `at` of a struct that keeps `a` of the words `ws` and `b` of the slots `ss`.
struct-lay : ℕ → ℕ → List ℕ → Trees → ℕ → List ℕ
struct-lay a b ws ss at = take a ws ++ (take b (points ss (at + a) (at + (a + b))) ++ lays ss (at + (a + b)))

rows-lay : ℕ → ℕ → ℕ → Bodies → ℕ → List ℕ
rows-lay n a b bs at =
    word_of (Node (pos n) a b) ∷
    (row_contents a b bs (suc at) (at + (1 + n * (a + b))) ++ lays_in_rows bs (at + (1 + n * (a + b))))

mutual
  unfolding struct-lay rows-lay

  pub lay-trimmed : (v : Tree) (at : ℕ) → lay (trimmed v) at ≡ lay v at
  lay-trimmed nil at = refl
  lay-trimmed (node ws ss) at =
      let a = kept_words ws in
      let b = kept_slots ss in
      let x : kept_words (take a ws) ≡ a = kept-take a ws (omega arith) in
      let y : kept_slots (front b (trimmed_each ss)) ≡ b = kept-front b ss (omega arith) in
      ap₂ (λ (p q : ℕ). struct-lay p q (take a ws) (front b (trimmed_each ss)) at) x y
      ∙ ap₂ (λ (p q : List ℕ). p ++ q) (take-again a ws)
      (ap₂ (λ (p q : List ℕ). p ++ q) (points-again b ss (at + a) (at + (a + b)))
      (lays-cut b ss (at + (a + b)) (omega arith)))
  lay-trimmed (voids n) at = refl
  lay-trimmed (numbers a xs) at = refl
  lay-trimmed (links ts) at =
      ap (λ (n : ℕ). points (trimmed_each ts) at (at + n) ++ lays (trimmed_each ts) (at + n)) (count-trimmed_each ts)
      ∙ ap₂ (λ (p q : List ℕ). p ++ q) (points-each ts at (at + count ts)) (lays-each ts (at + count ts))
  lay-trimmed (rows bs) at =
      let a = kept_words_of_rows bs in
      let b = kept_slots_of_rows bs in
      let n = count_rows bs in
      let x : kept_words_of_rows (trimmed_rows a b bs) ≡ a = kept-rows a b bs (omega arith) in
      let y : kept_slots_of_rows (trimmed_rows a b bs) ≡ b = kept-rows_slots a b bs (omega arith) in
      ap (λ (k : ℕ). rows-lay k (kept_words_of_rows (trimmed_rows a b bs)) (kept_slots_of_rows (trimmed_rows a b bs))
      (trimmed_rows a b bs) at) (count-trimmed_rows a b bs)
      ∙ ap₂ (λ (p q : ℕ). rows-lay n p q (trimmed_rows a b bs) at) x y
      ∙ ap (λ (r : List ℕ). word_of (Node (pos n) a b) ∷ r)
      (ap₂ (λ (p q : List ℕ). p ++ q) (rows-cut a b bs (suc at) (at + (1 + n * (a + b))) (omega arith))
      (lays-rows a b bs (at + (1 + n * (a + b))) (omega arith)))
  lay-trimmed (cap k) at = refl

  lays-each : (ts : Trees) (at : ℕ) → lays (trimmed_each ts) at ≡ lays ts at
  lays-each no_trees at = refl
  lays-each (tree t ts) at =
      ap₂ (λ (p q : List ℕ). p ++ q) (lay-trimmed t at)
      (ap (λ (n : ℕ). lays (trimmed_each ts) (at + n)) (size-trimmed t) ∙ lays-each ts (at + size t))

  lays-cut : (b : ℕ) (ss : Trees) (at : ℕ) → kept_slots ss ≤ b → lays (front b (trimmed_each ss)) at ≡ lays ss at
  lays-cut zero ss at h = sym (no-lays ss at (omega arith))
  lays-cut (suc b) no_trees at h = refl
  lays-cut (suc b) (tree t ts) at h =
      ap₂ (λ (p q : List ℕ). p ++ q) (lay-trimmed t at)
      (ap (λ (n : ℕ). lays (front b (trimmed_each ts)) (at + n)) (size-trimmed t)
      ∙ lays-cut b ts (at + size t) (behind-le (is_null t) (kept_slots ts) b h))

  lays-rows : (a b : ℕ) (bs : Bodies) (at : ℕ) → kept_slots_of_rows bs ≤ b
      → lays_in_rows (trimmed_rows a b bs) at ≡ lays_in_rows bs at
  lays-rows a b no_bodies at h = refl
  lays-rows a b (body ws ss bs) at h =
      ap₂ (λ (p q : List ℕ). p ++ q) (lays-cut b ss at (omega arith))
      (ap (λ (n : ℕ). lays_in_rows (trimmed_rows a b bs) (at + n)) (sizes-cut b ss (omega arith))
      ∙ lays-rows a b bs (at + sizes ss) (omega arith))

-- The value `v` and its trimmed value have the same canonical words.
pub words-trimmed : (v : Tree) → words (trimmed v) ≡ words v
unfolding words
words-trimmed v = ap₂ (λ (x : ℕ) (r : List ℕ). x ∷ r) (point-trimmed v 0 1) (lay-trimmed v 1)
