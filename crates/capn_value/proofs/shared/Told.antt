-- Lemmas for `reading` and capn_canon: values are the same if and only if the getters agree on them along every path.
use Rattle.std.proofs.Common.{◌≡◌, ◌↔◌, ℕ, zero, suc, ◌%◌, ◌^◌, List, [], ◌∷◌, length, get_or, refl, sym, ap, ap₂}
use Rattle.std.proofs.Common.{subst}
use Rattle.capn_value.specs.Tree.{Tree, nil, node, voids, numbers, links, rows, cap, Trees}
use Rattle.capn_value.specs.Tree.{no_trees, tree, Bodies, no_bodies, body, tree_at, count, count_rows}
use Rattle.capn_value.specs.NumberWidth.{NumberWidth, bits_in}
use Rattle.capn_value.specs.Same.{AllNull, Same, SameSlots, SameEach, SameRows}
use Rattle.capn_value.specs.Fits.{elements}
use Rattle.capn_value.specs.Getters.{null, struct, list_of_numbers, list_of_pointers, list_of_structs, Step, to_pointer}
use Rattle.capn_value.specs.Getters.{to_element, to_row_pointer, Answer, row_at, kind, word, number, pointer, element}
use Rattle.capn_value.specs.Getters.{index, next, told, get}

-- ---- if values are the same, the getters agree on them

-- if the value `t` is `nil`, it is the same as null
null_slot : (t : Tree) → t ≡ nil → Same nil t
null_slot t e = subst (λ (u : Tree). Same nil u) (sym e) tt

slot_null : (t : Tree) → t ≡ nil → Same t nil
slot_null t e = subst (λ (u : Tree). Same u nil) (sym e) tt

all_null_slots : (ts : Trees) → AllNull ts → (i : ℕ) → Same nil (tree_at ts i)
all_null_slots no_trees h i = tt
all_null_slots (tree t ts) h zero = null_slot t h.0
all_null_slots (tree t ts) h (suc i) = all_null_slots ts h.1 i

slots_alike : (ss ts : Trees) → SameSlots ss ts → (i : ℕ) → Same (tree_at ss i) (tree_at ts i)
slots_alike no_trees ts h i = all_null_slots ts h i
slots_alike (tree s ss) no_trees h zero = slot_null s h.0
slots_alike (tree s ss) no_trees h (suc i) = slots_alike ss no_trees h.1 i
slots_alike (tree s ss) (tree t ts) h zero = h.0
slots_alike (tree s ss) (tree t ts) h (suc i) = slots_alike ss ts h.1 i

each_alike : (ss ts : Trees) → SameEach ss ts → (i : ℕ) → Same (tree_at ss i) (tree_at ts i)
each_alike no_trees no_trees h i = tt
each_alike (tree s ss) (tree t ts) h zero = h.0
each_alike (tree s ss) (tree t ts) h (suc i) = each_alike ss ts h.1 i
each_alike _ _ h i = absurd h

each_counted : (ss ts : Trees) → SameEach ss ts → count ss ≡ count ts
each_counted no_trees no_trees h = refl
each_counted (tree s ss) (tree t ts) h = ap suc (each_counted ss ts h.1)
each_counted _ _ h = absurd h

rows_alike : (bs cs : Bodies) → SameRows bs cs → (i : ℕ) → Same (row_at bs i) (row_at cs i)
rows_alike no_bodies no_bodies h i = tt
rows_alike (body ws ss bs) (body vs ts cs) h zero = (h.0, h.1)
rows_alike (body ws ss bs) (body vs ts cs) h (suc i) = rows_alike bs cs h.2 i
rows_alike _ _ h i = absurd h

rows_counted : (bs cs : Bodies) → SameRows bs cs → count_rows bs ≡ count_rows cs
rows_counted no_bodies no_bodies h = refl
rows_counted (body ws ss bs) (body vs ts cs) h = ap suc (rows_counted bs cs h.2)
rows_counted _ _ h = absurd h

pointers_alike : (t u : Tree) → Same t u → (j : ℕ) → Same (pointer t j) (pointer u j)
pointers_alike nil nil h j = tt
pointers_alike (node ws ss) (node vs ts) h j = slots_alike ss ts h.1 j
pointers_alike (voids m) (voids n) h j = tt
pointers_alike (numbers w xs) (numbers v ys) h j = tt
pointers_alike (links ss) (links ts) h j = tt
pointers_alike (rows bs) (rows cs) h j = tt
pointers_alike (cap k) (cap l) h j = tt
pointers_alike _ _ h j = absurd h

elements_alike : (t u : Tree) → Same t u → (i : ℕ) → Same (element t i) (element u i)
elements_alike nil nil h i = tt
elements_alike (node ws ss) (node vs ts) h i = tt
elements_alike (voids m) (voids n) h i = tt
elements_alike (numbers w xs) (numbers v ys) h i = tt
elements_alike (links ss) (links ts) h i = each_alike ss ts h i
elements_alike (rows bs) (rows cs) h i = rows_alike bs cs h i
elements_alike (cap k) (cap l) h i = tt
elements_alike _ _ h i = absurd h

-- if `t` and `u` are the same, the values that the step `s` leads to are the same
pub same_next : (t u : Tree) → Same t u → (s : Step) → Same (next t s) (next u s)
same_next t u h (to_pointer j) = pointers_alike t u h j
same_next t u h (to_element i) = elements_alike t u h i
same_next t u h (to_row_pointer i) = pointers_alike (element t i) (element u i) (elements_alike t u h i) 0

-- if two lists have the same rows, the first words of the rows at each index are equal
first_words_alike : (bs cs : Bodies) → SameRows bs cs → (i : ℕ) → word (row_at bs i) 0 ≡ word (row_at cs i) 0
first_words_alike no_bodies no_bodies h i = refl
first_words_alike (body ws ss bs) (body vs ts cs) h zero = h.0 0
first_words_alike (body ws ss bs) (body vs ts cs) h (suc i) = first_words_alike bs cs h.2 i
first_words_alike _ _ h i = absurd h

pub same_told : (t u : Tree) → Same t u → told t ≡ told u
same_told nil nil h = refl
same_told (node ws ss) (node vs ts) h = λ i. record {
  kind = struct;
  word = λ k. h.0 k i;
  elements = 0;
  number = λ a k. 0;
  index = 0;
}
same_told (voids m) (voids n) h = ap (λ k. told (voids k)) h
same_told (numbers w xs) (numbers v ys) h = ap₂ (λ a zs. told (numbers a zs)) h.0 h.1
same_told (links ss) (links ts) h = λ i. record {
  kind = list_of_pointers;
  word = λ k. 0;
  elements = each_counted ss ts h i;
  number = λ a k. 0;
  index = 0;
}
same_told (rows bs) (rows cs) h = λ i. record {
  kind = list_of_structs;
  word = λ k. 0;
  elements = rows_counted bs cs h i;
  number = λ a k. first_words_alike bs cs h k i % 2 ^ bits_in a;
  index = 0;
}
same_told (cap j) (cap k) h = ap (λ n. told (cap n)) h
same_told _ _ h = absurd h

pub same_got : (p : List Step) (t u : Tree) → Same t u → get t p ≡ get u p
same_got [] t u h = same_told t u h
same_got (s ∷ p) t u h = same_got p (next t s) (next u s) (same_next t u h s)

-- ---- if the getters agree on two values, the values are the same

-- along every path, the getters return the same for both values
abbrev pub Alike : Tree → Tree → Type 0
Alike t u = (p : List Step) → get t p ≡ get u p

alike_kind : (t u : Tree) → Alike t u → kind t ≡ kind u
alike_kind t u h = ap (λ (a : Answer). a.kind) (h [])

alike_next : (t u : Tree) → Alike t u → (s : Step) → Alike (next t s) (next u s)
alike_next t u h s p = h (s ∷ p)

alike_elements : (t u : Tree) → Alike t u → elements t ≡ elements u
alike_elements t u h = ap (λ (a : Answer). a.elements) (h [])

alike_words : (t u : Tree) → Alike t u → (i : ℕ) → word t i ≡ word u i
alike_words t u h i = ap (λ (a : Answer). a.word i) (h [])

alike_numbers : (w : NumberWidth) (t u : Tree) → Alike t u → (i : ℕ) → number w t i ≡ number w u i
alike_numbers w t u h i = ap (λ (a : Answer). a.number w i) (h [])

alike_index : (t u : Tree) → Alike t u → index t ≡ index u
alike_index t u h = ap (λ (a : Answer). a.index) (h [])

-- a value whose kind is null is `nil`
null_told : (t : Tree) → null ≡ kind t → t ≡ nil
null_told nil e = refl
null_told _ e = absurd cc

all_null_told : (ts : Trees) → ((i : ℕ) → Alike nil (tree_at ts i)) → AllNull ts
all_null_told no_trees h = tt
all_null_told (tree t ts) h = (null_told t (alike_kind nil t (h 0)), all_null_told ts (λ i. h (suc i)))

-- lists of the same length with equal numbers at each index are equal
equal_lists : (xs ys : List ℕ) → length xs ≡ length ys → ((i : ℕ) → get_or xs i 0 ≡ get_or ys i 0) → xs ≡ ys
equal_lists [] [] e h = refl
equal_lists [] (y ∷ ys) e h = absurd cc
equal_lists (x ∷ xs) [] e h = absurd cc
equal_lists (x ∷ xs) (y ∷ ys) e h = λ j. h 0 j ∷ equal_lists xs ys (cc) (λ i. h (suc i)) j

same_width : (a b : NumberWidth) → list_of_numbers a ≡ list_of_numbers b → a ≡ b
same_width a b e = cc

mutual
  pub same_from_told : (t u : Tree) → Alike t u → Same t u
  same_from_told nil nil h = tt
  same_from_told (node ws ss) (node vs ts) h =
      let below = alike_next (node ws ss) (node vs ts) h in
      (alike_words (node ws ss) (node vs ts) h, slots_from_told ss ts (λ j. below (to_pointer j)))
  same_from_told (voids m) (voids n) h = alike_elements (voids m) (voids n) h
  same_from_told (numbers w xs) (numbers v ys) h = (
    same_width w v (alike_kind (numbers w xs) (numbers v ys) h),
    equal_lists xs ys (alike_elements (numbers w xs) (numbers v ys) h)
        (alike_numbers w (numbers w xs) (numbers v ys) h),
  )
  same_from_told (links ss) (links ts) h =
      let below = alike_next (links ss) (links ts) h in
      each_from_told ss ts (alike_elements (links ss) (links ts) h) (λ i. below (to_element i))
  same_from_told (rows bs) (rows cs) h =
      rows_from_told bs cs (alike_elements (rows bs) (rows cs) h) (λ i. alike_next (rows bs) (rows cs) h (to_element i))
  same_from_told (cap j) (cap k) h = alike_index (cap j) (cap k) h
  same_from_told t u h = let e : kind t ≡ kind u = alike_kind t u h in absurd cc

  slots_from_told : (ss ts : Trees) → ((i : ℕ) → Alike (tree_at ss i) (tree_at ts i)) → SameSlots ss ts
  slots_from_told no_trees ts h = all_null_told ts h
  slots_from_told (tree s ss) no_trees h =
      (null_told s (sym (alike_kind s nil (h 0))), slots_from_told ss no_trees (λ i. h (suc i)))
  slots_from_told (tree s ss) (tree t ts) h = (same_from_told s t (h 0), slots_from_told ss ts (λ i. h (suc i)))

  each_from_told : (ss ts : Trees) → count ss ≡ count ts → ((i : ℕ) → Alike (tree_at ss i) (tree_at ts i))
      → SameEach ss ts
  each_from_told no_trees no_trees e h = tt
  each_from_told (tree s ss) (tree t ts) e h =
      (same_from_told s t (h 0), each_from_told ss ts (cc) (λ i. h (suc i)))
  each_from_told _ _ e h = absurd cc

  rows_from_told : (bs cs : Bodies) → count_rows bs ≡ count_rows cs
      → ((i : ℕ) → Alike (row_at bs i) (row_at cs i)) → SameRows bs cs
  rows_from_told no_bodies no_bodies e h = tt
  rows_from_told (body ws ss bs) (body vs ts cs) e h = (
    alike_words (node ws ss) (node vs ts) (h 0),
    slots_from_told ss ts (λ j. alike_next (node ws ss) (node vs ts) (h 0) (to_pointer j)),
    rows_from_told bs cs (cc) (λ i. h (suc i)),
  )
  rows_from_told _ _ e h = absurd cc

-- values are the same if and only if the getters agree on them along every path
pub same_exactly_told : (t u : Tree) → Same t u ↔ Alike t u
same_exactly_told t u = ((λ h p. same_got p t u h), same_from_told t u)

-- values are the same if and only if the functions from paths to getters' results are equal
pub same_as_whole : (t u : Tree) → Same t u ↔ (get t ≡ get u)
same_as_whole t u = ((λ h i p. same_got p t u h i), (λ e. same_from_told t u (λ p i. e i p)))

-- anything computed from the getters' results is equal for values that are the same
pub same_to_reader : {A : Type 0} (read : (List Step → Answer) → A) (t u : Tree) → Same t u
    → read (get t) ≡ read (get u)
same_to_reader read t u h = ap read ((same_as_whole t u).0 h)
