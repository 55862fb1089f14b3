-- Lemmas for `trim`, `trimming` and capn_canon: two values that fit are the same if and only if they are equal once
-- trimmed.
use Rattle.std.proofs.Common.{◌≡◌, ℕ, zero, suc, ◌≤◌, max, List, [], ◌∷◌, take, length, Bool, true, false, ◌&&◌, refl}
use Rattle.std.proofs.Common.{sym, ap, ap₂, ◌∙◌, arith, subst, ◌↔◌}
use Rattle.std.specs.Prelude.{◌==◌, slice_index}
use Rattle.std.proofs.lemmas.Bool.{or_parts, and_parts, eqb-true, not-false}
use Rattle.std.proofs.lemmas.Bool.Decides.{nat_tests}
use Rattle.capn_value.specs.Tree.{Tree, nil, node, voids, numbers, links, rows, cap, Trees, no_trees, tree, Bodies}
use Rattle.capn_value.specs.Tree.{no_bodies, body, front, count, tree_at, is_null}
use Rattle.capn_value.specs.Same.{SameWords, AllNull, Same, SameSlots, SameEach, SameRows}
use Rattle.capn_value.specs.Trim.{kept_behind, kept_words, kept_slots, kept_words_of_rows, kept_slots_of_rows, trimmed}
use Rattle.capn_value.specs.Trim.{trimmed_each, trimmed_rows}
use Rattle.capn_value.proofs.shared.Cuts.{cut_words, cut_slots}
use Rattle.capn_value.specs.Fits.{anywhere, anywhere_in, anywhere_in_rows, is_ragged, are_even}

words_back : (n m : ℕ) (ws vs : List ℕ) → kept_words ws ≤ n → kept_words vs ≤ m → take n ws ≡ take m vs
    → SameWords ws vs
words_back n m ws vs h k e i = sym (cut_words n ws h i) ∙ ap (λ xs. slice_index xs i) e ∙ cut_words m vs k i

slots_back : (n m : ℕ) (ss ts : Trees) → kept_slots ss ≤ n → kept_slots ts ≤ m
    → front n (trimmed_each ss) ≡ front m (trimmed_each ts) →
    (i : ℕ) → trimmed (tree_at ss i) ≡ trimmed (tree_at ts i)
slots_back n m ss ts h k e i = sym (cut_slots n ss h i) ∙ ap (λ xs. tree_at xs i) e ∙ cut_slots m ts k i

trimmed_null : (t : Tree) → nil ≡ trimmed t → t ≡ nil
trimmed_null nil h = refl
trimmed_null _ h = absurd (cc)

all_null : (ts : Trees) → ((i : ℕ) → nil ≡ trimmed (tree_at ts i)) → AllNull ts
all_null no_trees h = tt
all_null (tree t ts) h = (trimmed_null t (h 0), all_null ts (λ i. h (suc i)))

mutual
  pub same_from_trimmed : (t u : Tree) → trimmed t ≡ trimmed u → Same t u
  same_from_trimmed nil nil e = tt
  same_from_trimmed (node ws ss) (node vs ts) e =
      let p : take (kept_words ws) ws ≡ take (kept_words vs) vs = cc in
      let q : front (kept_slots ss) (trimmed_each ss) ≡ front (kept_slots ts) (trimmed_each ts) = cc in (
        words_back (kept_words ws) (kept_words vs) ws vs (omega arith) (omega arith) p,
        same_slots_from ss ts (slots_back (kept_slots ss) (kept_slots ts) ss ts (omega arith) (omega arith) q),
      )
  same_from_trimmed (voids m) (voids n) e = cc
  same_from_trimmed (numbers a xs) (numbers b ys) e = (cc, cc)
  same_from_trimmed (links ss) (links ts) e = same_each_from ss ts (cc)
  same_from_trimmed (rows bs) (rows cs) e =
      same_rows_from (kept_words_of_rows bs) (kept_slots_of_rows bs) (kept_words_of_rows cs) (kept_slots_of_rows cs) bs
      cs (omega arith) (omega arith) (omega arith) (omega arith) (cc)
  same_from_trimmed (cap j) (cap k) e = cc
  same_from_trimmed _ _ e = absurd (cc)

  same_slots_from : (ss ts : Trees) → ((i : ℕ) → trimmed (tree_at ss i) ≡ trimmed (tree_at ts i)) → SameSlots ss ts
  same_slots_from no_trees ts h = all_null ts h
  same_slots_from (tree s ss) no_trees h = (trimmed_null s (sym (h 0)), same_slots_from ss no_trees (λ i. h (suc i)))
  same_slots_from (tree s ss) (tree t ts) h = (same_from_trimmed s t (h 0), same_slots_from ss ts (λ i. h (suc i)))

  same_each_from : (ss ts : Trees) → trimmed_each ss ≡ trimmed_each ts → SameEach ss ts
  same_each_from no_trees no_trees e = tt
  same_each_from (tree s ss) (tree t ts) e = (same_from_trimmed s t (cc), same_each_from ss ts (cc))
  same_each_from _ _ e = absurd (cc)

  same_rows_from : (w s v r : ℕ) (bs cs : Bodies) → kept_words_of_rows bs ≤ w → kept_slots_of_rows bs ≤ s
      → kept_words_of_rows cs ≤ v →
      kept_slots_of_rows cs ≤ r → trimmed_rows w s bs ≡ trimmed_rows v r cs → SameRows bs cs
  same_rows_from w s v r no_bodies no_bodies a b c d e = tt
  same_rows_from w s v r (body ws ss bs) (body vs ts cs) a b c d e =
      let p : take w ws ≡ take v vs = cc in
      let q : front s (trimmed_each ss) ≡ front r (trimmed_each ts) = cc in (
        words_back w v ws vs (omega arith) (omega arith) p,
        same_slots_from ss ts (slots_back s r ss ts (omega arith) (omega arith) q),
        same_rows_from w s v r bs cs (omega arith) (omega arith) (omega arith) (omega arith) (cc),
      )
  same_rows_from _ _ _ _ _ _ a b c d e = absurd (cc)

kept_none : (vs : List ℕ) → SameWords [] vs → 0 ≡ kept_words vs
kept_none [] h = refl
kept_none (v ∷ vs) h =
    let a : v ≡ 0 = sym (h 0) in let b : 0 ≡ kept_words vs = kept_none vs (λ i. h (suc i)) in grind (arith, nat_tests)

kept_same : (ws vs : List ℕ) → SameWords ws vs → kept_words ws ≡ kept_words vs
kept_same [] vs h = kept_none vs h
kept_same (w ∷ ws) [] h = sym (kept_none (w ∷ ws) (λ i. sym (h i)))
kept_same (w ∷ ws) (v ∷ vs) h = ap₂ (λ x n. kept_behind (x == 0) n) (h 0) (kept_same ws vs (λ i. h (suc i)))

take_same : (n : ℕ) (ws vs : List ℕ) → SameWords ws vs → n ≤ length ws → n ≤ length vs → take n ws ≡ take n vs
take_same zero ws vs h a b = refl
take_same (suc n) [] vs h a b = absurd (omega arith)
take_same (suc n) (w ∷ ws) [] h a b = absurd (omega arith)
take_same (suc n) (w ∷ ws) (v ∷ vs) h a b =
    ap₂ (λ x xs. x ∷ xs) (h 0) (take_same n ws vs (λ i. h (suc i)) (omega arith) (omega arith))

behind_at_most : (b : Bool) (k n : ℕ) → k ≤ n → kept_behind b k ≤ suc n
behind_at_most b k n h = grind (arith, nat_tests)

kept-le : (ws : List ℕ) → kept_words ws ≤ length ws
kept-le [] = omega arith
kept-le (w ∷ ws) = behind_at_most (w == 0) (kept_words ws) (length ws) (kept-le ws)

kept_slots-le : (ss : Trees) → kept_slots ss ≤ count ss
kept_slots-le no_trees = omega arith
kept_slots-le (tree s ss) = behind_at_most (is_null s) (kept_slots ss) (count ss) (kept_slots-le ss)

null_same : (t u : Tree) → Same t u → is_null t ≡ is_null u
null_same nil nil h = refl
null_same nil _ h = absurd h
null_same _ nil h = absurd h
null_same _ _ h = refl

kept_null : (ts : Trees) → AllNull ts → 0 ≡ kept_slots ts
kept_null no_trees h = refl
kept_null (tree t ts) h = ap₂ (λ x n. kept_behind (is_null x) n) (sym h.0) (kept_null ts h.1)

kept_slots_same : (ss ts : Trees) → SameSlots ss ts → kept_slots ss ≡ kept_slots ts
kept_slots_same no_trees ts h = kept_null ts h
kept_slots_same (tree s ss) no_trees h = ap₂ (λ x n. kept_behind (is_null x) n) h.0 (kept_slots_same ss no_trees h.1)
kept_slots_same (tree s ss) (tree t ts) h = ap₂ kept_behind (null_same s t h.0) (kept_slots_same ss ts h.1)

kept_words_rows_same : (bs cs : Bodies) → SameRows bs cs → kept_words_of_rows bs ≡ kept_words_of_rows cs
kept_words_rows_same no_bodies no_bodies h = refl
kept_words_rows_same (body ws ss bs) (body vs ts cs) h = ap₂ max (kept_same ws vs h.0) (kept_words_rows_same bs cs h.2)
kept_words_rows_same _ _ h = absurd h

kept_slots_rows_same : (bs cs : Bodies) → SameRows bs cs → kept_slots_of_rows bs ≡ kept_slots_of_rows cs
kept_slots_rows_same no_bodies no_bodies h = refl
kept_slots_rows_same (body ws ss bs) (body vs ts cs) h =
    ap₂ max (kept_slots_same ss ts h.1) (kept_slots_rows_same bs cs h.2)
kept_slots_rows_same _ _ h = absurd h

-- each row has at least `w` words and at least `s` slots
abbrev AtLeast : ℕ → ℕ → Bodies → Type 0
AtLeast w s no_bodies = Unit {0}
AtLeast w s (body ws ss bs) = (w ≤ length ws) × (s ≤ count ss) × AtLeast w s bs

-- if all rows have `a` words and `b` slots, trimming keeps at most `a` words and `b` slots of each row
even_bounds : (a b : ℕ) (bs : Bodies) → are_even a b bs ≡ true → (kept_words_of_rows bs ≤ a)
    × (kept_slots_of_rows bs ≤ b)
even_bounds a b no_bodies h = (omega arith, omega arith)
even_bounds a b (body ws ss bs) h =
    let p = and_parts ((length ws == a) && (count ss == b)) (are_even a b bs) h in
    let q = and_parts (length ws == a) (count ss == b) p.0 in
    let r = even_bounds a b bs p.1 in (
      omega (arith, kept-le ws, eqb-true (length ws) a q.0, r.0),
      omega (arith, kept_slots-le ss, eqb-true (count ss) b q.1, r.1),
    )

even_rows : (a b w s : ℕ) (bs : Bodies) → are_even a b bs ≡ true → w ≤ a → s ≤ b → AtLeast w s bs
even_rows a b w s no_bodies h k l = tt
even_rows a b w s (body ws ss bs) h k l =
    let p = and_parts ((length ws == a) && (count ss == b)) (are_even a b bs) h in
    let q = and_parts (length ws == a) (count ss == b) p.0 in
    (omega (arith, eqb-true (length ws) a q.0), omega (arith, eqb-true (count ss) b q.1), even_rows a b w s bs p.1 k l)

at_least_kept : (bs : Bodies) → is_ragged (rows bs) ≡ false → AtLeast (kept_words_of_rows bs) (kept_slots_of_rows bs) bs
at_least_kept no_bodies h = tt
at_least_kept (body ws ss bs) h =
    let e = not-false (are_even (length ws) (count ss) bs) h in
    let r = even_bounds (length ws) (count ss) bs e in
    let w : kept_words_of_rows (body ws ss bs) ≤ length ws = omega (arith, kept-le ws, r.0) in
    let s : kept_slots_of_rows (body ws ss bs) ≤ count ss = omega (arith, kept_slots-le ss, r.1) in (
      w,
      s,
      even_rows (length ws) (count ss) (kept_words_of_rows (body ws ss bs)) (kept_slots_of_rows (body ws ss bs)) bs
          e w s,
    )

mutual
  pub trimmed_same : (t u : Tree) → anywhere is_ragged t ≡ false → anywhere is_ragged u ≡ false → Same t u
      → trimmed t ≡ trimmed u
  trimmed_same nil nil p q h = refl
  trimmed_same (node ws ss) (node vs ts) p q h =
      let a = kept_same ws vs h.0 in
      let b = kept_slots_same ss ts h.1 in
      ap₂ node (ap (λ n. take n ws) a ∙ take_same (kept_words vs) ws vs h.0 (omega (arith, a, kept-le ws)) (kept-le vs))
      (ap (λ n. front n (trimmed_each ss)) b ∙
      front_same (kept_slots ts) ss ts (or_parts (is_ragged (node ws ss)) (anywhere_in is_ragged ss) p).1
      (or_parts (is_ragged (node vs ts)) (anywhere_in is_ragged ts) q).1
      (omega (arith, b, kept_slots-le ss)) (kept_slots-le ts) h.1)
  trimmed_same (voids m) (voids n) p q h = ap voids h
  trimmed_same (numbers a xs) (numbers b ys) p q h = ap₂ numbers h.0 h.1
  trimmed_same (links ss) (links ts) p q h =
      ap links (each_same ss ts (or_parts (is_ragged (links ss)) (anywhere_in is_ragged ss) p).1
      (or_parts (is_ragged (links ts)) (anywhere_in is_ragged ts) q).1 h)
  trimmed_same (rows bs) (rows cs) p q h =
      let a = kept_words_rows_same bs cs h in
      let b = kept_slots_rows_same bs cs h in
      let x = or_parts (is_ragged (rows bs)) (anywhere_in_rows is_ragged bs) p in
      let y = or_parts (is_ragged (rows cs)) (anywhere_in_rows is_ragged cs) q in
      ap rows
      (rows_same (kept_words_of_rows bs) (kept_slots_of_rows bs) bs cs (at_least_kept bs x.0)
      (subst (λ w. AtLeast w (kept_slots_of_rows bs) cs) (sym a)
      (subst (λ s. AtLeast (kept_words_of_rows cs) s cs) (sym b) (at_least_kept cs y.0))) x.1 y.1 h
      ∙ ap₂ (λ w s. trimmed_rows w s cs) a b)
  trimmed_same (cap j) (cap k) p q h = ap cap h
  trimmed_same _ _ p q h = absurd h

  front_same : (n : ℕ) (ss ts : Trees) → anywhere_in is_ragged ss ≡ false → anywhere_in is_ragged ts ≡ false
      → n ≤ count ss → n ≤ count ts →
      SameSlots ss ts → front n (trimmed_each ss) ≡ front n (trimmed_each ts)
  front_same zero ss ts p q a b h = refl
  front_same (suc n) no_trees ts p q a b h = absurd (omega arith)
  front_same (suc n) (tree s ss) no_trees p q a b h = absurd (omega arith)
  front_same (suc n) (tree s ss) (tree t ts) p q a b h =
      let x = or_parts (anywhere is_ragged s) (anywhere_in is_ragged ss) p in
      let y = or_parts (anywhere is_ragged t) (anywhere_in is_ragged ts) q in
      ap₂ tree (trimmed_same s t x.0 y.0 h.0) (front_same n ss ts x.1 y.1 (omega arith) (omega arith) h.1)

  each_same : (ss ts : Trees) → anywhere_in is_ragged ss ≡ false → anywhere_in is_ragged ts ≡ false → SameEach ss ts
      → trimmed_each ss ≡ trimmed_each ts
  each_same no_trees no_trees p q h = refl
  each_same (tree s ss) (tree t ts) p q h =
      let x = or_parts (anywhere is_ragged s) (anywhere_in is_ragged ss) p in
      let y = or_parts (anywhere is_ragged t) (anywhere_in is_ragged ts) q in
      ap₂ tree (trimmed_same s t x.0 y.0 h.0) (each_same ss ts x.1 y.1 h.1)
  each_same _ _ p q h = absurd h

  rows_same : (w s : ℕ) (bs cs : Bodies) → AtLeast w s bs → AtLeast w s cs → anywhere_in_rows is_ragged bs ≡ false →
      anywhere_in_rows is_ragged cs ≡ false → SameRows bs cs → trimmed_rows w s bs ≡ trimmed_rows w s cs
  rows_same w s no_bodies no_bodies a b p q h = refl
  rows_same w s (body ws ss bs) (body vs ts cs) a b p q h =
      let x = or_parts (anywhere_in is_ragged ss) (anywhere_in_rows is_ragged bs) p in
      let y = or_parts (anywhere_in is_ragged ts) (anywhere_in_rows is_ragged cs) q in
      λ i. body (take_same w ws vs h.0 a.0 b.0 i) (front_same s ss ts x.0 y.0 a.1 b.1 h.1 i)
      (rows_same w s bs cs a.2 b.2 x.1 y.1 h.2 i)
  rows_same _ _ _ _ a b p q h = absurd h

-- values `t` and `u` without ragged rows are the same if and only if their trimmed values are equal
pub same_exactly_trimmed : (t u : Tree) → anywhere is_ragged t ≡ false → anywhere is_ragged u ≡ false → Same t u
    ↔ (trimmed t ≡ trimmed u)
same_exactly_trimmed t u p q = (trimmed_same t u p q, same_from_trimmed t u)
