-- Visits that include the visit of the slot that owns a word. (For `Belonging`, `NumbersTold`, `RowsTold` and `Told`.)
use Rattle.std.proofs.Common.{◌≡◌, ℕ, suc, ◌+◌, ◌-◌, ◌<◌, ◌≤◌, ◌==◌}
use Rattle.std.proofs.Common.{◌&&◌, List, [], ◌∷◌, ◌++◌, Option}
use Rattle.std.proofs.Common.{Some, None, Result, ap, sym, subst, ◌∙◌, arith}
use Rattle.std.proofs.lemmas.Bool.Decides.{nat_tests}
use Rattle.std.specs.List.{flat_map}
use Rattle.capn_words.specs.declared.space.Place.{Place}
use Rattle.capn_words.proofs.shared.Choices.{if-yes, if-no}
use Rattle.capn_target.specs.declared.target.Target.{Target}
use Rattle.capn_target.specs.declared.target.Fault.{Fault}
use Rattle.capn_target.specs.Target.{target}
use Rattle.capn_walk.specs.Visits.{Visit, places, visits}
use Rattle.capn_walk.specs.Index.{place_of}
use Rattle.capn_walk.proofs.shared.Walks.{all-split}
use Rattle.capn_mismatch.specs.declared.word_kind.Owner.{Owner}
use Rattle.capn_mismatch.specs.declared.word_kind.WordKind.{WordKind}
use Rattle.capn_mismatch.specs.declared.word_kind.WordKind.TheVariants as finding
use Rattle.capn_mismatch.specs.inner.Search.{finds, found_there, owned, same}
use Rattle.capn_path.specs.Finds.{IsPassed}
use Rattle.capn_path.proofs.shared.Passing.{passed-both, begins}
use Rattle.capn_mismatch.proofs.Pointed.{here}

pub same-after : {G F : Type 0} (m : List (List ℕ)) (finds : G → Place → Result Target Fault → Option F)
    (aim after : G) (vs : List Visit) → IsPassed m finds same aim vs after → after ≡ aim
same-after m finds aim after [] h = h
same-after m finds aim after (v ∷ vs) h = same-after m finds aim after vs h.1

module _ (cs : List ℕ) (base k : ℕ) where
  -- The message with the only segment `cs`.
  abbrev pub m : List (List ℕ)
  m = cs ∷ []

  -- The aim of the search for the owner of word `k`.
  abbrev pub aim : Owner
  aim = record { word = here k }

  -- The kind of word `k`, if the slot at `at` owns word `k`.
  abbrev pub found : Place → Option WordKind
  found at = finds (here k) at (target m at)

  -- ---- the visits include the visit of the slot that owns the word

  abbrev pub Owned : List Visit → Type 0
  Owned vs = (after : Owner) → IsPassed m owned same aim vs after → ⊥

  pub owned-left : (xs ys : List Visit) → Owned xs → Owned (xs ++ ys)
  owned-left xs ys h after p = let b = passed-both m owned same aim after xs ys p in h b.between b.front

  pub owned-right : (xs ys : List Visit) → Owned ys → Owned (xs ++ ys)
  owned-right xs ys h after p =
      let b = passed-both m owned same aim after xs ys p in
      h after (subst (λ (a : Owner). IsPassed m owned same a ys after) (same-after m owned aim b.between xs b.front)
      b.back)

  pub owned-here : (v : Visit) (rest : List Visit) (x : WordKind) → found (place_of v) ≡ Some x → Owned (v ∷ rest)
  owned-here v rest x e after p = let a = p.0 in absurd cc

  pub owned-as : (vs us : List Visit) → vs ≡ us → Owned us → Owned vs
  owned-as vs us e h = subst (λ (ws : List Visit). Owned ws) (sym e) h

  pub pointer-here : found (here k) ≡ Some finding.Pointer
  pointer-here = if-yes ((0 == 0) && (k == k)) _ _ (grind (arith, nat_tests))

  pub found-begins : (d : ℕ) (at : Place) (x : WordKind) → found at ≡ Some x → Owned (visits m base d at)
  found-begins d at x e =
      let b = begins m base d at in
      owned-as _ _ b.is (owned-here b.head b.rest x (ap found b.place ∙ e))

  pub owned-slot : (d : ℕ) → Owned (visits m base d (here k))
  owned-slot d = found-begins d (here k) finding.Pointer pointer-here

  pub owned-among : (p c d : ℕ) → p ≤ k → k < p + c → Owned (flat_map (visits m base d) (places 0 p c))
  owned-among p c d le lt =
      let i = k - p in
      let e : p + i ≡ k = omega arith in
      let f = visits m base d in
      let more = flat_map f (places 0 (p + i + 1) (c - suc i)) in
      owned-as _ _ (all-split f 0 p i c (omega arith))
      (owned-right (flat_map f (places 0 p i)) (f (here (p + i)) ++ more)
      (owned-left (f (here (p + i))) more (subst (λ (w : ℕ). Owned (f (here w))) (sym e) (owned-slot d))))

  pub not-there : (p : ℕ) (x : Result Target Fault) (y : Option WordKind) → p < k → target m (here p) ≡ x
      → found_there (here k) x ≡ y → found (here p) ≡ y
  not-there p x y lt e f =
      if-no ((0 == 0) && (p == k)) _ _ (grind (arith, nat_tests)) ∙ ap (found_there (here k)) e ∙ f
