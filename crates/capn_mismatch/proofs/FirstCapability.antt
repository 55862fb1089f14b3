-- The search for the first capability of a message. (For `first_capability`.)
use Rattle.std.proofs.Common.{◌≡◌, ℕ, List, [], ◌∷◌, ◌++◌, length, Option, Some, None, Ok, Err, Result, refl, ap, ap₂}
use Rattle.std.proofs.Common.{sym, ◌∙◌}
use Rattle.std.specs.Option.{option_or}
use Rattle.capn_words.specs.declared.space.Place.{Place}
use Rattle.capn_value.specs.Tree.{Tree}
use Rattle.capn_value.specs.Cost.{base}
use Rattle.capn_value.specs.FirstCap.{first_cap}
use Rattle.capn_target.specs.declared.target.Target.{Target}
use Rattle.capn_target.specs.declared.target.Target.TheVariants as targets
use Rattle.capn_target.specs.declared.target.Fault.{Fault}
use Rattle.capn_target.specs.Target.{target}
use Rattle.capn_walk.specs.Visits.{Visit, pays, fails, visits}
use Rattle.capn_walk.specs.Index.{place_of}
use Rattle.capn_walk.specs.Limits.{Bounds}
use Rattle.capn_walk.specs.Accepted.{IsValueOf, AllPay, root}
use Rattle.capn_walk.specs.Surveyed.{cap_of, first_cap_of}
use Rattle.capn_walk.proofs.shared.CapsMet.{caps-at}
use Rattle.capn_walk.proofs.shared.Costs.{all-front}
use Rattle.capn_walk.proofs.shared.Fitting.{Root, root-of}
use Rattle.capn_path.specs.Finds.{IsPassed, IsFirstFind, IsWithoutFind}
use Rattle.capn_mismatch.specs.Capability.{IsFirstCapability}
use Rattle.capn_mismatch.specs.inner.Search.{capability, same}

names-cap : (r : Result Target Fault) (k : ℕ) → cap_of r ≡ Some k → r ≡ Ok (targets.Cap k)
names-cap (Ok targets.Nil) k e = absurd cc
names-cap (Ok (targets.Cap j)) k e = cc
names-cap (Ok (targets.Content s start shape pads)) k e = absurd cc
names-cap (Err f) k e = absurd cc

module _ {G : Type 0} (m : List (List ℕ)) where
  none-of : (aim after : G) (vs : List Visit) → AllPay vs → IsPassed m capability same aim vs after
      → first_cap_of m vs ≡ None
  none-of aim after [] all h = refl
  none-of aim after (pays at n ∷ vs) all h = ap₂ option_or h.0 (none-of aim after vs all h.1)
  none-of aim after (fails at e ∷ vs) all h = absurd all

  next-is : (aim last : G) (before : List Visit) (here : Visit) (behind : List Visit) (k : ℕ)
      → AllPay (before ++ here ∷ behind) → IsPassed m capability same aim before last
      → cap_of (target m (place_of here)) ≡ Some k → first_cap_of m (before ++ here ∷ behind) ≡ Some k
  next-is aim last [] (pays at n) behind k all h e = ap (λ (o : Option ℕ). option_or o (first_cap_of m behind)) e
  next-is aim last [] (fails at f) behind k all h e = absurd all
  next-is aim last (pays at n ∷ vs) here behind k all h e =
      ap₂ option_or h.0 (next-is aim last vs here behind k all h.1 e)
  next-is aim last (fails at f ∷ vs) here behind k all h e = absurd all

module _ {G : Type 0} (m : List (List ℕ)) (limits : Bounds) (aim : G) where
  abbrev b : ℕ
  b = base limits.tariff

  -- The visits of the walk of `m` from the root.
  abbrev all : List Visit
  all = visits m b limits.depth root

  at-root : (v : Tree) → IsValueOf m limits v → Root m b limits.depth v
  at-root v i = root-of m b limits.depth v i.is i.accepted.within.all

  caps-are : (v : Tree) → IsValueOf m limits v → first_cap_of m all ≡ first_cap v
  caps-are v i = caps-at m b v root limits.depth i.is (at-root v i).all

  pub some-found : (v : Tree) (k : ℕ) → IsValueOf m limits v → first_cap v ≡ Some k
      → IsWithoutFind m capability same limits.depth root aim → ⊥
  some-found v k i e f =
      let h = f b in
      let c = sym (caps-are v i) ∙ none-of m aim h.0 all (at-root v i).all h.1 in
      absurd cc

  module _ (path : List ℕ) (index : ℕ) (f : IsFirstFind m capability same limits.depth root aim path index) where
    pub index-is : (v : Tree) → IsValueOf m limits v → first_cap v ≡ Some index
    index-is v i =
        let g = f b in
        let r = (at-root v i).all in
        sym (caps-are v i) ∙ ap (first_cap_of m) g.visits
        ∙ next-is m aim g.last g.before g.here g.behind index (rw g.visits at r) g.passed
        (ap (λ (p : Place). cap_of (target m p)) g.place ∙ g.found)

    -- The capability that the search finds is the first that the walk visits.
    pub is-first : (v : Tree) → IsValueOf m limits v → IsFirstCapability m limits index path
    is-first v i =
        let g = f b in
        let r = at-root v i in
        let a = r.all in
        record {
          number = length g.before;
          at = g.to;
          visited = record {
            before = g.before;
            here = g.here;
            behind = g.behind;
            is = r.same ∙ g.visits;
            count = refl;
            place = g.place;
            leads = g.leads;
          };
          names = names-cap (target m g.to) index g.found;
          none = none-of m aim g.last g.before (all-front g.before (g.here ∷ g.behind) (rw g.visits at a)) g.passed;
        }
