-- The slot of a visit that is given by its number, and the slot at which a walk stops. (For `path_of_stop` and
-- `path_of_visit`.)
use Rattle.std.proofs.Common.{◌≡◌, inl, inr, ℕ, zero, suc, ◌+◌, ◌-◌, ◌≤◌, ◌==◌, List, [], ◌∷◌, ◌++◌, length, map}
use Rattle.std.proofs.Common.{Option, Some}
use Rattle.std.proofs.Common.{None, Result, Ok, Err, refl, ap, sym, ◌∙◌, arith}
use Rattle.std.proofs.lemmas.List.{length-map}
use Rattle.std.proofs.lemmas.Bool.Decides.{nat_tests}
use Rattle.capn_words.specs.declared.space.Place.{Place}
use Rattle.capn_words.proofs.shared.Choices.{pick}
use Rattle.capn_value.specs.Cost.{base}
use Rattle.capn_target.specs.declared.target.Target.{Target}
use Rattle.capn_target.specs.declared.target.Target.TheVariants as targets
use Rattle.capn_target.specs.declared.target.Fault.{Fault}
use Rattle.capn_target.specs.Target.{target}
use Rattle.capn_walk.specs.declared.walk_answer.Stopped.{Stopped}
use Rattle.capn_walk.specs.Visits.{Visit, pays, fails, visits}
use Rattle.capn_walk.specs.Index.{place_of}
use Rattle.capn_walk.specs.Limits.{Bounds}
use Rattle.capn_walk.specs.Accepted.{root, root_visits, visits_at_root, visits_within}
use Rattle.capn_walk.specs.Accepted.{IsStopHere, IsStop, IsWalkRefused}
use Rattle.capn_walk.proofs.shared.Walks.{visits-cap}
use Rattle.capn_path.specs.declared.visit.Numbered.{Numbered}
use Rattle.capn_path.specs.Finds.{IsPassed, IsFirstFind, IsWithoutFind}
use Rattle.capn_path.specs.Paths.{IsVisited, IsNotVisited, IsRefusedAt}
use Rattle.capn_path.specs.inner.Numbered.{found_at, one_less}

-- ---- visits are counted down

pub counted-here : (aim : Numbered) (at : Place) (named : Result Target Fault) → found_at aim at named ≡ None
    → aim.left ≡ 0 → ⊥
counted-here aim at named e z =
    pick (λ (o : Option Place). o ≡ None → ⊥) (aim.left == 0) (Some at) None
    (λ t f. absurd cc) (λ t f. absurd (grind (arith, nat_tests))) e

found-here : (aim : Numbered) (at : Place) (named : Result Target Fault) (x : Place) → found_at aim at named ≡ Some x
    → (aim.left ≡ 0) × (at ≡ x)
found-here aim at named x =
    pick (λ (o : Option Place). o ≡ Some x → (aim.left ≡ 0) × (at ≡ x)) (aim.left == 0) (Some at) None
    (λ t f. (grind (arith, nat_tests), cc)) (λ t f. absurd cc)

module _ (m : List (List ℕ)) where
  counted : (aim after : Numbered) (vs : List Visit) → IsPassed m found_at one_less aim vs after
      → length vs + after.left ≡ aim.left
  counted aim after [] h = let e = ap (λ (a : Numbered). a.left) h in omega arith
  counted aim after (v ∷ vs) h =
      let some = counted-here aim (place_of v) (target m (place_of v)) h.0 in
      let l = counted (one_less aim) after vs h.1 in
      let n : 1 ≤ aim.left = positive aim.left some in
      omega arith
    where
      positive : (n : ℕ) → (n ≡ 0 → ⊥) → 1 ≤ n
      positive zero h = absurd (h refl)
      positive (suc n) h = omega arith

-- ---- the walk visits the slots below the root, in the same order

module _ (m : List (List ℕ)) (b d : ℕ) where
  by-root : (found : Result Target Fault) → target m root ≡ found
      → map place_of (visits_at_root m b found (visits m b d root)) ≡ map place_of (visits m b d root)
  by-root (Ok (targets.Cap k)) e = ap (λ (vs : List Visit). map place_of vs) (sym (visits-cap m b root d k e))
  by-root (Ok targets.Nil) e = refl
  by-root (Ok (targets.Content s start shape pads)) e = refl
  by-root (Err f) e = refl

  root-places : map place_of (root_visits m b d) ≡ map place_of (visits m b d root)
  unfolding root_visits
  root-places = by-root (target m root) refl

-- `vs` has a visit of the slot at `at` after `number` other visits
record Matched (vs : List Visit) (number : ℕ) (at : Place) : Type 0 where
  before : List Visit
  here : Visit
  behind : List Visit
  is : vs ≡ before ++ here ∷ behind
  count : length before ≡ number
  place : place_of here ≡ at

matched : (vs before : List Visit) (x : Visit) (behind : List Visit)
    → map place_of vs ≡ map place_of (before ++ x ∷ behind) → Matched vs (length before) (place_of x)
matched [] [] x behind e = absurd (cc)
matched [] (y ∷ ys) x behind e = absurd (cc)
matched (v ∷ vs) [] x behind e =
    record { before = []; here = v; behind = vs; is = refl; count = refl; place = cc }
matched (v ∷ vs) (y ∷ ys) x behind e =
    let t : map place_of vs ≡ map place_of (ys ++ x ∷ behind) = cc in
    let r = matched vs ys x behind t in
    record {
      before = v ∷ r.before;
      here = r.here;
      behind = r.behind;
      is = ap (λ (l : List Visit). v ∷ l) r.is;
      count = ap suc r.count;
      place = r.place;
    }

module _ (m : List (List ℕ)) (limits : Bounds) (n : ℕ) where
  abbrev b : ℕ
  b = base limits.tariff

  -- the aim that finds the visit after `n` other visits
  abbrev aim : Numbered
  aim = record { left = n }

  pub visited : (path : List ℕ) (p : Place) → IsFirstFind m found_at one_less limits.depth root aim path p
      → IsVisited m limits n path p
  visited path p f =
      let h = f b in
      let r = matched (visits_within m limits) h.before h.here h.behind
      (root-places m b limits.depth ∙ ap (λ (vs : List Visit). map place_of vs) h.visits) in
      let l = counted m aim h.last h.before h.passed in
      let k = found-here h.last h.to (target m h.to) p h.found in
      let z = k.0 in
      let c : length h.before ≡ n = omega arith in
      record {
        before = r.before;
        here = r.here;
        behind = r.behind;
        is = r.is;
        count = r.count ∙ c;
        place = r.place ∙ h.place ∙ k.1;
        leads = rw (k.1, c) at h.leads;
      }

  pub not-visited : IsWithoutFind m found_at one_less limits.depth root aim → IsNotVisited m limits n
  not-visited f =
      let h = f b in
      let l = counted m aim h.0 (visits m b limits.depth root) h.1 in
      let e = sym (length-map (visits_within m limits) place_of) ∙ ap length (root-places m b limits.depth)
      ∙ length-map (visits m b limits.depth root) place_of in
      inr (omega arith)

same-at : (zs bs : List Visit) (x y : Visit) (cs ds : List Visit) → zs ++ x ∷ cs ≡ bs ++ y ∷ ds
    → length zs ≡ length bs → x ≡ y
same-at [] [] x y cs ds e l = cc
same-at [] (b ∷ bs) x y cs ds e l = absurd (omega arith)
same-at (a ∷ zs) [] x y cs ds e l = absurd (omega arith)
same-at (a ∷ zs) (b ∷ bs) x y cs ds e l =
    let t : zs ++ x ∷ cs ≡ bs ++ y ∷ ds = cc in
    same-at zs bs x y cs ds t (omega arith)

ends-at : (budget before : ℕ) (v : Visit) (at : Place) (fault : Fault) → IsStopHere budget before v at fault
    → place_of v ≡ at
ends-at budget before (fails p e) at fault h = h.0
ends-at budget before (pays p n) at fault h = h.0

module _ (m : List (List ℕ)) (limits : Bounds) (stopped : Stopped) (some : stopped.visits ≡ 0 → ⊥) where
  stop-place : (path : List ℕ) (p : Place)
      → IsStop limits.budget (visits_within m limits) stopped.fault stopped.place stopped.paid stopped.visits
      → IsVisited m limits (stopped.visits - 1) path p → p ≡ stopped.place
  stop-place path p s v =
      let n = s.number in
      let c = v.count in
      let same = same-at v.before s.before v.here s.stop v.behind s.after (sym v.is ∙ s.split) (omega arith) in
      sym v.place ∙ ap place_of same ∙ ends-at limits.budget _ s.stop stopped.place stopped.fault s.ends

  pub refused-at : (path : List ℕ) (p : Place)
      → IsWalkRefused m limits stopped.fault stopped.place stopped.paid stopped.visits
      → IsVisited m limits (stopped.visits - 1) path p → IsRefusedAt m limits stopped path
  refused-at path p (inl none) v = absurd (some none.4)
  refused-at path p (inr r) v = record {
    refused = inr r;
    leads = λ h. rw (sym (stop-place path p r.1 v)) v.leads;
    none = λ z. absurd (some z);
  }
