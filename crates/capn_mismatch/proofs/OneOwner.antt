-- A word is a pointer, a tag or a last word of at most one visit, if the words follow the rules of the encoding page.
-- (For `OneMismatch`.)
use Rattle.std.proofs.Common.{◌≡◌, inl, inr, ℕ, zero, suc, ◌+◌, ◌<◌, ◌≤◌, List, [], ◌∷◌, ◌++◌, length}
use Rattle.std.proofs.Common.{Ok, refl, ap, sym, subst, ◌∙◌, arith, append-nil}
use Rattle.std.specs.List.{AllByRecursion}
use Rattle.capn_words.specs.declared.space.Place.{Place}
use Rattle.capn_target.specs.declared.target.Target.TheVariants as targets
use Rattle.capn_target.specs.declared.target.Shape.{Shape}
use Rattle.capn_target.specs.Shapes.{extent}
use Rattle.capn_target.specs.Target.{target}
use Rattle.capn_walk.specs.Accepted.{root}
use Rattle.capn_walk.specs.View.{slots_below}
use Rattle.capn_walk.specs.Visits.{slots, visits_of}
use Rattle.capn_canon.specs.PageForm.{Met, null, object, IsEmpty, IsWhole, InPreorder, WithoutGaps, IsPageForm}
use Rattle.capn_path.specs.Paths.{Leads, Descends}
use Rattle.capn_mismatch.specs.declared.word_kind.WordKind.{WordKind}
use Rattle.capn_mismatch.specs.declared.word_kind.WordKind.TheVariants as kinds
use Rattle.capn_mismatch.proofs.Preorder.{total, Gapless, Split, split, Rising, rise-le, above, slots-rise}
use Rattle.capn_mismatch.proofs.OwnWords.{ok-one, rise-some, none-split, empty-extent, Inside, Below, Bounded, below}
use Rattle.capn_mismatch.proofs.OwnWords.{Owns, Placed, placed, owns-itself, one-part}

module _ (cs : List ℕ) (base k : ℕ) where
  abbrev m : List (List ℕ)
  m = cs ∷ []

  -- ---- a step down from an object

  module _ (d : ℕ) (at : Place) (v : List ℕ) (to : Place) (n : ℕ)
      (l : Descends m base d (Leads m base d) at v to n) where
    not-null : target m at ≡ Ok targets.Nil → ⊥
    not-null e =
        let z = ok-one l.found targets.Nil (sym l.names ∙ e) in
        none-split l.before l.slot l.behind (sym (ap slots_below z) ∙ l.slots)

    module _ (source start next : ℕ) (shape : Shape) (rest : List Met)
        (h : InPreorder cs (at ∷ []) (object source start shape ∷ rest))
        (g : Gapless next (object source start shape ∷ rest)) where
      are : slots 0 start shape ≡ l.before ++ l.slot ∷ l.behind
      are =
          let z = ok-one l.found (targets.Content 0 start shape 0) (sym l.names ∙ h.1) in
          sym (ap slots_below z) ∙ l.slots

      rises-there : Rising (start + above shape) (start + extent shape) (l.before ++ l.slot ∷ l.behind)
      rises-there =
          subst (λ (ps : List Place). Rising (start + above shape) (start + extent shape) ps) are
          (slots-rise source start shape g.1)

      not-empty : IsEmpty shape → ⊥
      not-empty e =
          let z = empty-extent shape e in
          let r = rise-some (start + above shape) (start + extent shape) l.before l.slot l.behind rises-there in
          omega arith

      begins : start ≡ next
      begins = g.0 not-empty

      rises : Rising (next + above shape) (next + extent shape) (l.before ++ l.slot ∷ l.behind)
      rises =
          subst (λ (s : ℕ). Rising (s + above shape) (s + extent shape) (l.before ++ l.slot ∷ l.behind)) begins
          rises-there

      stands : InPreorder cs (l.before ++ l.slot ∷ l.behind) rest
      stands = subst (λ (ps : List Place). InPreorder cs ps rest) (append-nil (slots 0 start shape) ∙ are) h.2

      below-object : Bounded cs k l.slot
          → Below cs k (next + above shape) (next + extent shape) rest (next + extent shape)
      below-object on =
          below cs k l.before l.slot l.behind rest (next + extent shape) (next + above shape) (next + extent shape)
          rises stands g.2 on

      not-both : (x : WordKind) → at.word < next → Placed cs k x at.word start next shape
          → Below cs k (next + above shape) (next + extent shape) rest (next + extent shape) → ⊥
      not-both kinds.Pointer lt o (inl u) = let a = u.0 in omega arith
      not-both kinds.Pointer lt o (inr u) = let a = u.0 in omega arith
      not-both kinds.Tag lt o (inl u) = let a = u.0 in let b = o.0 in let c = o.1 in omega arith
      not-both kinds.Tag lt o (inr u) = let a = u.0 in let b = o.0 in let c = o.2 in omega arith
      not-both kinds.LastWord lt o u = none-split l.before l.slot l.behind (sym o.0 ∙ are)

    through : Bounded cs k l.slot → Bounded cs k at
    through on [] next h g = absurd h
    through on (null ∷ rest) next h g = absurd (not-null h.0)
    through on (object p start shape ∷ rest) next h g = from (below-object p start next shape rest h g on)
      where
        from : Below cs k (next + above shape) (next + extent shape) rest (next + extent shape)
            → Inside cs k at (object p start shape ∷ rest) next
        from (inl u) = let a = u.0 in let b = u.1 in inr (omega arith, omega arith)
        from (inr u) = let a = u.0 in let b = u.1 in inr (omega arith, omega arith)

    not-here : (x : WordKind) (met : List Met) (next : ℕ) → at.word < next → InPreorder cs (at ∷ []) met
        → Gapless next met → Owns cs k x at → Bounded cs k l.slot → ⊥
    not-here x [] next lt h g o on = absurd h
    not-here x (null ∷ rest) next lt h g o on = not-null h.0
    not-here x (object p start shape ∷ rest) next lt h g o on =
        not-both p start next shape rest h g x lt (placed cs k x at start next shape o h.1 g.0)
        (below-object p start next shape rest h g on)

  bounded : (d : ℕ) (at : Place) (v : List ℕ) (to : Place) (n : ℕ) (x : WordKind) → Leads m base d at v to n
      → Owns cs k x to → Bounded cs k at
  bounded zero at [] to n x l o = owns-itself cs k x at (subst (Owns cs k x) l.0 o)
  bounded zero at (i ∷ v) to n x l o = absurd l
  bounded (suc d) at [] to n x l o = owns-itself cs k x at (subst (Owns cs k x) l.0 o)
  bounded (suc d) at (i ∷ v) to n x l o =
      through d at (i ∷ v) to n l (bounded d l.slot l.rest to l.later x l.onward o)

  -- ---- two slots

  apart : (p : Place) (ys : List Place) (q : Place) (vs : List Place) (met : List Met) (next lo hi : ℕ)
      → Rising lo hi (p ∷ (ys ++ q ∷ vs)) → hi ≤ next → InPreorder cs (p ∷ (ys ++ q ∷ vs)) met → Gapless next met
      → Bounded cs k p → Bounded cs k q → ⊥
  apart p ys q vs met next lo hi r le h g on other =
      let s = split cs met (p ∷ []) (ys ++ q ∷ vs) next h g in
      from s (on s.front next s.first s.one)
      (below cs k ys q vs s.back (next + total s.front) (suc p.word) hi r.1 s.second s.other other)
    where
      from : (s : Split cs (p ∷ []) (ys ++ q ∷ vs) met next) → Inside cs k p s.front next
          → Below cs k (suc p.word) hi s.back (next + total s.front) → ⊥
      from s (inl e) (inl u) = let a = u.0 in omega arith
      from s (inl e) (inr u) =
          let a = u.0 in
          let l = rise-le (suc p.word) hi (ys ++ q ∷ vs) r.1 in
          omega arith
      from s (inr w) (inl u) = let a = w.0 in let b = u.1 in omega arith
      from s (inr w) (inr u) = let a = w.1 in let b = u.0 in omega arith

  abbrev Joint : Place → Type 0 → Type 0
  Joint p C = (met : List Met) (next : ℕ) → p.word < next → InPreorder cs (p ∷ []) met → Gapless next met → C

  one-below : (C : Type 0) (xs ys : List Place) (p q : Place) (us vs : List Place) (met : List Met) (next lo hi : ℕ)
      → xs ++ p ∷ us ≡ ys ++ q ∷ vs → Rising lo hi (xs ++ p ∷ us) → hi ≤ next → InPreorder cs (xs ++ p ∷ us) met
      → Gapless next met → Bounded cs k p → Bounded cs k q → (p ≡ q → Joint p C) → (xs ≡ ys) × C
  one-below C [] [] p q us vs met next lo hi e r le h g on other both =
      let z : p ≡ q = cc in
      let s = split cs met (p ∷ []) us next h g in
      let l = rise-le (suc p.word) hi us r.1 in
      (refl, both z s.front next (omega arith) s.first s.one)
  one-below C [] (y ∷ ys) p q us vs met next lo hi e r le h g on other both =
      let z : us ≡ ys ++ q ∷ vs = cc in
      absurd (apart p ys q vs met next lo hi (subst (λ (ps : List Place). Rising lo hi (p ∷ ps)) z r) le
      (subst (λ (ps : List Place). InPreorder cs (p ∷ ps) met) z h) g on other)
  one-below C (x ∷ xs) [] p q us vs met next lo hi e r le h g on other both =
      let z : x ≡ q = cc in
      absurd (apart x xs p us met next lo hi r le h g (subst (Bounded cs k) (sym z) other) on)
  one-below C (x ∷ xs) (y ∷ ys) p q us vs met next lo hi e r le h g on other both =
      let z : x ≡ y = cc in
      let t : xs ++ p ∷ us ≡ ys ++ q ∷ vs = cc in
      let s = split cs met (x ∷ []) (xs ++ p ∷ us) next h g in
      let f = one-below C xs ys p q us vs s.back (next + total s.front) (suc x.word) hi t r.1 (omega arith) s.second
      s.other on other both in
      let w = f.0 in
      (cc, f.1)

  abbrev Alike : (n j : ℕ) → (x y : WordKind) → Type 0
  Alike n j x y = (n ≡ j) × (x ≡ y)

  module _ (d : ℕ) (at : Place) (v w : List ℕ) (to p : Place) (n j : ℕ) (x y : WordKind)
      (l : Descends m base d (Leads m base d) at v to n) (g : Descends m base d (Leads m base d) at w p j)
      (on : Bounded cs k l.slot) (other : Bounded cs k g.slot)
      (both : l.slot ≡ g.slot → Joint l.slot (Alike l.later g.later x y)) where
    one-step : (met : List Met) (next : ℕ) → at.word < next → InPreorder cs (at ∷ []) met → Gapless next met
        → Alike n j x y
    one-step [] next lt h e = absurd h
    one-step (null ∷ rest) next lt h e = absurd (not-null d at v to n l h.0)
    one-step (object q start shape ∷ rest) next lt h e =
        let same = sym (are d at v to n l q start next shape rest h e)
        ∙ are d at w p j g q start next shape rest h e in
        let f = one-below (Alike l.later g.later x y) l.before g.before l.slot g.slot l.behind g.behind rest
        (next + extent shape) (next + above shape) (next + extent shape) same
        (rises d at v to n l q start next shape rest h e) (omega arith)
        (stands d at v to n l q start next shape rest h e) e.2 on other both in
        let c = l.count in
        let b = g.count in
        let s = ap (λ (ps : List Place). length (visits_of m base d ps)) f.0 in
        let t = f.1.0 in
        (omega arith, f.1.1)

  one : (d : ℕ) (at : Place) (v w : List ℕ) (to p : Place) (n j : ℕ) (x y : WordKind) → Leads m base d at v to n
      → Leads m base d at w p j → Owns cs k x to → Owns cs k y p → Joint at (Alike n j x y)
  one zero at [] [] to p n j x y l g o q met next lt h e =
      (l.1 ∙ sym g.1, one-part cs k x y at met next lt h e (subst (Owns cs k x) l.0 o) (subst (Owns cs k y) g.0 q))
  one zero at (i ∷ v) w to p n j x y l g o q met next lt h e = absurd l
  one zero at [] (i ∷ w) to p n j x y l g o q met next lt h e = absurd g
  one (suc d) at [] [] to p n j x y l g o q met next lt h e =
      (l.1 ∙ sym g.1, one-part cs k x y at met next lt h e (subst (Owns cs k x) l.0 o) (subst (Owns cs k y) g.0 q))
  one (suc d) at [] (i ∷ w) to p n j x y l g o q met next lt h e =
      absurd (not-here d at (i ∷ w) p j g x met next lt h e (subst (Owns cs k x) l.0 o)
      (bounded d g.slot g.rest p g.later y g.onward q))
  one (suc d) at (i ∷ v) [] to p n j x y l g o q met next lt h e =
      absurd (not-here d at (i ∷ v) to n l y met next lt h e (subst (Owns cs k y) g.0 q)
      (bounded d l.slot l.rest to l.later x l.onward o))
  one (suc d) at (i ∷ v) (r ∷ w) to p n j x y l g o q met next lt h e =
      one-step d at (i ∷ v) (r ∷ w) to p n j x y l g (bounded d l.slot l.rest to l.later x l.onward o)
      (bounded d g.slot g.rest p g.later y g.onward q)
      (λ z. one d l.slot l.rest g.rest to p l.later g.later x y l.onward
      (subst (λ (s : Place). Leads m base d s g.rest p g.later) (sym z) g.onward) o q) met next lt h e

-- ---- the words of a page form

gapless : (cs : List ℕ) (met : List Met) (next : ℕ) → WithoutGaps cs next met → AllByRecursion IsWhole met
    → Gapless next met
gapless cs [] next h w = tt
gapless cs (null ∷ rest) next h w = gapless cs rest next h w.1
gapless cs (object p start shape ∷ rest) next h w = (h.0, w.0, gapless cs rest (next + extent shape) h.1 w.1)

-- Two paths that lead to owners of the same word are paths of the same visit, and the word has the same kind for both.
pub owners-are-one : (cs : List ℕ) (base depth k : ℕ) (v w : List ℕ) (to p : Place) (n j : ℕ) (x y : WordKind)
    → IsPageForm cs → Leads (cs ∷ []) base depth root v to n → Leads (cs ∷ []) base depth root w p j
    → Owns cs k x to → Owns cs k y p → (n ≡ j) × (x ≡ y)
owners-are-one cs base depth k v w to p n j x y f l g o q =
    one cs base k depth root v w to p n j x y l g o q f.pointers 1 (omega arith) f.preorder
    (gapless cs f.pointers 1 f.no_gap f.whole)
