-- Visits at which a search finds nothing. (For `Searches`, `Stopping`, `Unique` and capn_mismatch.)
use Rattle.std.proofs.Common.{◌≡◌, ℕ, zero, suc, List, [], ◌∷◌, ◌++◌, Option, None, Ok, Err, Result, refl, sym, subst}
use Rattle.std.proofs.Common.{arith}
use Rattle.capn_words.specs.declared.space.Place.{Place}
use Rattle.capn_target.specs.declared.target.Target.{Target}
use Rattle.capn_target.specs.declared.target.Target.TheVariants as targets
use Rattle.capn_target.specs.declared.target.Fault.{Fault}
use Rattle.capn_target.specs.Target.{target}
use Rattle.capn_walk.specs.Visits.{Visit, pays, fails, visits}
use Rattle.capn_walk.specs.Index.{place_of}
use Rattle.capn_walk.proofs.shared.Walks.{visits-null, visits-cap, visits-fault, visits-deep, visits-object}
use Rattle.capn_path.specs.Finds.{IsPassed}

module _ {G F : Type 0} (m : List (List ℕ)) (finds : G → Place → Result Target Fault → Option F) (next : G → G) where
  -- if a search finds nothing at the visits `xs`, nor after these at the visits `ys`, it finds nothing at `xs ++ ys`
  pub passed-append : (aim between after : G) (xs ys : List Visit) → IsPassed m finds next aim xs between
      → IsPassed m finds next between ys after → IsPassed m finds next aim (xs ++ ys) after
  passed-append aim between after [] ys h g = rw (← h) g
  passed-append aim between after (v ∷ xs) ys h g =
      (h.0, passed-append (next aim) between after xs ys h.1 g)

  -- a search finds nothing at the visits `xs`, nor after these at the visits `ys`
  pub record Both (aim after : G) (xs ys : List Visit) : Type 0 where
    pub between : G
    pub front : IsPassed m finds next aim xs between
    pub back : IsPassed m finds next between ys after

  pub passed-both : (aim after : G) (xs ys : List Visit) → IsPassed m finds next aim (xs ++ ys) after
      → Both aim after xs ys
  passed-both aim after [] ys h = record { between = aim; front = refl; back = h }
  passed-both aim after (v ∷ xs) ys h =
      let r = passed-both (next aim) after xs ys h.1 in
      record { between = r.between; front = (h.0, r.front); back = r.back }

  -- if `vs` has only the visit `v`, and nothing is found at the slot of `v`, then a search finds nothing at `vs`
  pub passed-alone : (aim after : G) (vs : List Visit) (v : Visit) (at : Place) → vs ≡ v ∷ [] → place_of v ≡ at
      → finds aim at (target m at) ≡ None → after ≡ next aim → IsPassed m finds next aim vs after
  passed-alone aim after vs v at e p none z =
      subst (λ (us : List Visit). IsPassed m finds next aim us after) (sym e)
      ((subst (λ (q : Place). finds aim q (target m q) ≡ None) (sym p) none, z))

module _ (m : List (List ℕ)) (base : ℕ) where
  -- the visits of the slot at `at` and of all slots below it begin with the visit of that slot
  pub record Begins (d : ℕ) (at : Place) : Type 0 where
    pub head : Visit
    pub rest : List Visit
    pub is : visits m base d at ≡ head ∷ rest
    pub place : place_of head ≡ at

  by-target : (d : ℕ) (at : Place) (r : Result Target Fault) → target m at ≡ r → Begins d at
  by-target d at (Ok targets.Nil) e =
      record { head = pays at 0; rest = []; is = visits-null m base at d e; place = refl }
  by-target d at (Ok (targets.Cap j)) e =
      record { head = pays at 0; rest = []; is = visits-cap m base at d j e; place = refl }
  by-target d at (Err f) e =
      record { head = fails at f; rest = []; is = visits-fault m base at d f e; place = refl }
  by-target zero at (Ok (targets.Content s start shape pads)) e =
      record { head = _; rest = []; is = visits-deep m base at s start pads shape e 0 refl; place = refl }
  by-target (suc d) at (Ok (targets.Content s start shape pads)) e = record {
    head = _;
    rest = _;
    is = visits-object m base at s start pads shape e (suc d) (omega arith);
    place = refl;
  }

  pub begins : (d : ℕ) (at : Place) → Begins d at
  begins d at = by-target d at (target m at) refl
