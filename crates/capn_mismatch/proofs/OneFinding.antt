-- The first difference of two lists of words, and the first capability of a message, are unique. (For `OneMismatch`.)
use Rattle.std.proofs.Common.{◌≡◌, ◌⊎◌, inl, inr, ℕ, ◌<◌, ◌≤◌, List, [], ◌∷◌, ◌++◌, length, slice_index}
use Rattle.std.proofs.Common.{Option, Some, None, refl, ap, sym, subst, ◌∙◌, arith}
use Rattle.std.proofs.lemmas.List.{get_or-take}
use Rattle.std.specs.Option.{option_or}
use Rattle.capn_target.specs.Target.{target}
use Rattle.capn_walk.specs.Visits.{Visit, pays, fails}
use Rattle.capn_walk.specs.Index.{place_of}
use Rattle.capn_walk.specs.Accepted.{AllPay}
use Rattle.capn_walk.specs.Surveyed.{cap_of, first_cap_of}
use Rattle.capn_mismatch.specs.Difference.{Differ, GoesOn}
use Rattle.capn_mismatch.proofs.Told.{decided}

-- ---- two lists of words

module _ (xs ys : List ℕ) where
  same-before : (k x y j : ℕ) → Differ xs ys k x y → j < k → slice_index xs j ≡ slice_index ys j
  same-before k x y j d lt =
      sym (get_or-take k xs j 0 lt) ∙ ap (λ (zs : List ℕ). slice_index zs j) d.before ∙ get_or-take k ys j 0 lt

  not-before : (k x y j a b : ℕ) → Differ xs ys k x y → Differ xs ys j a b → j < k → ⊥
  not-before k x y j a b d e lt = e.differ (e.one ∙ same-before k x y j d lt ∙ sym e.other)

  same-place : (k x y j a b : ℕ) → Differ xs ys k x y → Differ xs ys j a b → k ≡ j
  same-place k x y j a b d e = from (decided k j) (decided j k)
    where
      from : (k < j) ⊎ (j ≤ k) → (j < k) ⊎ (k ≤ j) → k ≡ j
      from (inl u) v = absurd (not-before j a b k x y e d u)
      from (inr u) (inl v) = absurd (not-before k x y j a b d e v)
      from (inr u) (inr v) = omega arith

  pub one-difference : (k x y j a b : ℕ) → Differ xs ys k x y → Differ xs ys j a b → (k ≡ j) × (x ≡ a) × (y ≡ b)
  one-difference k x y j a b d e =
      let z = same-place k x y j a b d e in
      (z, d.one ∙ ap (slice_index xs) z ∙ sym e.one, d.other ∙ ap (slice_index ys) z ∙ sym e.other)

  pub one-end : (k x j a : ℕ) → GoesOn xs ys k x → GoesOn xs ys j a → (k ≡ j) × (x ≡ a)
  one-end k x j a d e =
      let z = sym d.ended ∙ e.ended in
      (z, d.one ∙ ap (slice_index xs) z ∙ sym e.one)

  pub differs-or-ends : (k x y j a : ℕ) → Differ xs ys k x y → GoesOn xs ys j a → ⊥
  differs-or-ends k x y j a d e =
      let l = d.in_other in
      let m = e.ended in
      d.differ (d.one ∙ sym (get_or-take j xs k 0 (omega arith))
      ∙ ap (λ (zs : List ℕ). slice_index zs k) e.before ∙ sym d.other)

  pub no-difference : (k x y : ℕ) → xs ≡ ys → Differ xs ys k x y → ⊥
  no-difference k x y e d = d.differ (d.one ∙ ap (λ (zs : List ℕ). slice_index zs k) e ∙ sym d.other)

  pub no-end : (k x : ℕ) → xs ≡ ys → GoesOn xs ys k x → ⊥
  no-end k x e d =
      let l = ap length e in
      let m = d.ended in
      let n = d.in_one in
      omega arith

-- ---- the first capability among visits

none-or : (a b : Option ℕ) → option_or a b ≡ None → b ≡ None
none-or None b e = e
none-or (Some k) b e = absurd cc

some-or : (a b : Option ℕ) (k : ℕ) → a ≡ Some k → option_or a b ≡ None → ⊥
some-or None b k e f = cc
some-or (Some j) b k e f = absurd cc

module _ (m : List (List ℕ)) where
  not-none : (v : Visit) (us vs : List Visit) (k : ℕ) → AllPay (v ∷ us) → cap_of (target m (place_of v)) ≡ Some k
      → first_cap_of m (v ∷ vs) ≡ None → ⊥
  not-none (pays at n) us vs k all e f = some-or (cap_of (target m at)) (first_cap_of m vs) k e f
  not-none (fails at r) us vs k all e f = absurd all

  all-after : (v : Visit) (us : List Visit) → AllPay (v ∷ us) → AllPay us
  all-after (pays at n) us all = all
  all-after (fails at r) us all = absurd all

  none-after : (v : Visit) (us : List Visit) → first_cap_of m (v ∷ us) ≡ None → first_cap_of m us ≡ None
  none-after (pays at n) us e = none-or (cap_of (target m at)) (first_cap_of m us) e
  none-after (fails at r) us e = e

  pub one-first : (xs ys : List Visit) (v w : Visit) (us vs : List Visit) (k j : ℕ) → xs ++ v ∷ us ≡ ys ++ w ∷ vs
      → AllPay (xs ++ v ∷ us) → first_cap_of m xs ≡ None → first_cap_of m ys ≡ None
      → cap_of (target m (place_of v)) ≡ Some k → cap_of (target m (place_of w)) ≡ Some j → length xs ≡ length ys
  one-first [] [] v w us vs k j e all f g h i = refl
  one-first [] (y ∷ ys) v w us vs k j e all f g h i =
      let z : v ≡ y = cc in
      absurd (not-none v us ys k all h (subst (λ (x : Visit). first_cap_of m (x ∷ ys) ≡ None) (sym z) g))
  one-first (x ∷ xs) [] v w us vs k j e all f g h i =
      let z : x ≡ w = cc in
      absurd (not-none x (xs ++ v ∷ us) xs j all (subst (λ (q : Visit). cap_of (target m (place_of q)) ≡ Some j)
      (sym z) i) f)
  one-first (x ∷ xs) (y ∷ ys) v w us vs k j e all f g h i =
      let t : xs ++ v ∷ us ≡ ys ++ w ∷ vs = cc in
      let l = one-first xs ys v w us vs k j t (all-after x (xs ++ v ∷ us) all) (none-after x xs f) (none-after y ys g)
      h i in
      omega arith
