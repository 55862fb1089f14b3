-- There is at most one value at a place. (For `values`, capn_archive, capn_c and other crates.)
use Rattle.std.proofs.Common.{◌≡◌, ℕ, suc, ◌+◌, List, [], ◌∷◌, length, take, Ok, refl, ap, ap₂}
use Rattle.std.proofs.Common.{sym, subst, ◌∙◌, arith}
use Rattle.std.proofs.lemmas.Grind.{same_number_lists}
use Rattle.capn_words.specs.declared.space.Place.{Place}
use Rattle.capn_words.specs.declared.pointer.Width.TheVariants.{W0, Link}
use Rattle.capn_value.specs.Tree.{Tree, nil, node, voids, numbers, links, rows, cap, Trees}
use Rattle.capn_value.specs.Tree.{no_trees, tree, Bodies, no_bodies, body, count, count_rows}
use Rattle.capn_value.specs.NumberWidth.{NumberWidth, oct, bits_in, per_word}
use Rattle.capn_target.specs.declared.target.Target.{Target}
use Rattle.capn_target.specs.declared.target.Target.TheVariants as targets
use Rattle.capn_target.specs.declared.target.Shape.{Shape}
use Rattle.capn_target.specs.Target.{target}
use Rattle.capn_walk.specs.ValueAt.{IsAt, AreAt, RowsAt, IsInside, AreWordsAt, AreElements, words_from, AreNumbers}
use Rattle.capn_walk.proofs.shared.Numbers.{no-number_width, same-list_width}

module _ (m : List (List ℕ)) where
  same-elements : (many width s w : ℕ) (xs ys : List ℕ) → length xs ≡ length ys
      → AreElements many width (words_from m s w) xs → AreElements many width (words_from m s w) ys → xs ≡ ys
  same-elements many width s w xs ys l h k = same_number_lists xs ys l (λ i b. h i b ∙ sym (k i (omega arith)))

  same-words : (s w : ℕ) (xs ys : List ℕ) → length xs ≡ length ys → AreWordsAt m s w xs → AreWordsAt m s w ys → xs ≡ ys
  same-words s w xs ys l h k = sym h ∙ ap (λ (n : ℕ). take n (words_from m s w)) l ∙ k

  same-numbers : (a : NumberWidth) (s w : ℕ) (xs ys : List ℕ) → length xs ≡ length ys
      → AreNumbers a (words_from m s w) xs → AreNumbers a (words_from m s w) ys → xs ≡ ys
  same-numbers oct s w xs ys l h k = same-words s w xs ys l h k
  same-numbers a s w xs ys l h k = same-elements (per_word a) (bits_in a) s w xs ys l h k

  -- `v` is the value that the target names
  abbrev Says : Target → Tree → Type 0
  Says targets.Nil v = v ≡ nil
  Says (targets.Cap k) v = v ≡ cap k
  Says (targets.Content s start shape pads) v = IsInside m shape s start v

  said : (v : Tree) (at : Place) → IsAt m at v → (t : Target) × (target m at ≡ Ok t) × Says t v
  said nil at i = (_, i, refl)
  said (cap k) at i = (_, i, refl)
  said (node ws ss) at i = (_, i.is, (refl, i.inside.0, i.inside.1))
  said (voids n) at i = (_, i.is, refl)
  said (numbers a xs) at i = (_, i.is, (refl, i.inside))
  said (links ts) at i = (_, i.is, (refl, i.inside))
  said (rows bs) at i = (_, i.3.is, (i.0, i.1, i.2, refl, i.3.inside))

  -- `v` and `w` are equal if both are the value of one content
  abbrev Same : Tree → Tree → Type 0
  Same v w = (x : Shape) (s start : ℕ) → IsInside m x s start v → IsInside m x s start w → v ≡ w

  one-said : (t : Target) (v w : Tree) → Same v w → Says t v → Says t w → v ≡ w
  one-said targets.Nil v w same h k = h ∙ sym k
  one-said (targets.Cap index) v w same h k = h ∙ sym k
  one-said (targets.Content s start shape pads) v w same h k = same shape s start h k

  one-at : (v w : Tree) (at : Place) → Same v w → IsAt m at v → IsAt m at w → v ≡ w
  one-at v w at same i j =
      let (t, e, h) = said v at i in
      let (u, f, k) = said w at j in
      let g : u ≡ t = cc in
      one-said t v w same h (subst (λ (x : Target). Says x w) g k)

  mutual
    unique-inside : (v w : Tree) → Same v w
    unique-inside (node ws ss) (node vs ts) x s start h k =
        let p : length vs ≡ length ws = cc in
        ap₂ node (same-words s start ws vs (sym p) h.1 k.1)
        (unique-slots ss ts s (start + length ws) (cc) h.2 (rw p at k.2))
    unique-inside (voids n) (voids o) x s start h k = cc
    unique-inside (numbers a xs) (numbers b ys) x s start h k =
        let e : b ≡ a = same-list_width b a cc in
        ap₂ numbers (sym e) (same-numbers a s start xs ys (cc) h.1
        (subst (λ (c : NumberWidth). AreNumbers c (words_from m s start) ys) e k.1))
    unique-inside (numbers a xs) (voids n) x s start h k = absurd (no-number_width a W0 refl cc)
    unique-inside (voids n) (numbers a xs) x s start h k = absurd (no-number_width a W0 refl cc)
    unique-inside (numbers a xs) (links ts) x s start h k = absurd (no-number_width a Link refl cc)
    unique-inside (links ts) (numbers a xs) x s start h k = absurd (no-number_width a Link refl cc)
    unique-inside (links ss) (links ts) x s start h k = ap links (unique-slots ss ts s start (cc) h.1 k.1)
    unique-inside (rows bs) (rows cs) x s start h k =
        let a : k.0 ≡ h.0 = cc in
        let b : k.1 ≡ h.1 = cc in
        ap rows (unique-rows bs cs h.0 h.1 s (suc start) (cc) h.4 (rw (a, b) at k.4))
    unique-inside v w x s start h k = absurd (first_of (cc, search))

    pub unique-slots : (ss ts : Trees) (s w : ℕ) → count ss ≡ count ts → AreAt m s w ss → AreAt m s w ts → ss ≡ ts
    unique-slots no_trees no_trees s w l i j = refl
    unique-slots (tree t ss) (tree u ts) s w l i j =
        ap₂ tree (one-at t u (record { segment = s; word = w }) (unique-inside t u) i.0 j.0)
        (unique-slots ss ts s (suc w) (omega arith) i.1 j.1)
    unique-slots ss ts s w l i j = absurd (omega arith)

    pub unique-rows : (bs cs : Bodies) (a b s w : ℕ) → count_rows bs ≡ count_rows cs → RowsAt m a b s w bs
        → RowsAt m a b s w cs → bs ≡ cs
    unique-rows no_bodies no_bodies a b s w l i j = refl
    unique-rows (body ws ss bs) (body vs ts cs) a b s w l i j =
        let x = same-words s w ws vs (i.0 ∙ sym j.0) i.2 j.2 in
        let y = unique-slots ss ts s (w + a) (i.1 ∙ sym j.1) i.3 j.3 in
        let z = unique-rows bs cs a b s (w + a + b) (omega arith) i.4 j.4 in
        cc
    unique-rows bs cs a b s w l i j = absurd (omega arith)

  pub unique : (v w : Tree) (at : Place) → IsAt m at v → IsAt m at w → v ≡ w
  unique v w at i j = one-at v w at (unique-inside v w) i j
