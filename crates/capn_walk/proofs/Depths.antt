-- The least depth limit with which a message is accepted. (For `survey_depth_counted`.)
use Rattle.std.proofs.Common.{◌≡◌, true, ℕ, zero, suc, ◌+◌, ◌-◌, ◌≤◌, List, [], ◌∷◌, ◌++◌, Result, Ok, Err, refl}
use Rattle.std.proofs.Common.{ap, ap₂, sym, ◌∙◌, arith}
use Rattle.capn_words.specs.declared.space.Place.{Place}
use Rattle.capn_value.specs.Cost.{base}
use Rattle.capn_target.specs.declared.target.Target.{Target}
use Rattle.capn_target.specs.declared.target.Target.TheVariants as targets
use Rattle.capn_target.specs.declared.target.Fault.{Fault}
use Rattle.capn_target.specs.Target.{target}
use Rattle.capn_walk.specs.Visits.{Visit, pays, price, slots, visits, visits_of}
use Rattle.capn_walk.specs.Accepted.{AllPay, IsAccepted, root, may_be_root, visits_within}
use Rattle.capn_walk.specs.Limits.{Bounds}
use Rattle.capn_walk.specs.Depth.{IsDepth, at_depth}
use Rattle.capn_walk.specs.inner.Reach.{reach, reach_of}
use Rattle.capn_walk.proofs.DeepVisits.{reach-zero, reach-null, reach-cap, reach-fault, reach-object}
use Rattle.capn_walk.proofs.RootWalks.{from-root}
use Rattle.capn_walk.proofs.shared.Costs.{all-front, all-back}
use Rattle.capn_walk.proofs.shared.Walks.{visits-null, visits-cap, visits-fault, visits-deep, visits-object}

module _ (m : List (List ℕ)) (base : ℕ) where
  -- ---- if all visits pay, the number of objects on a path is within the limit

  reach-slots : (d n : ℕ) (ps : List Place) → ((at : Place) → AllPay (visits m base n at) → reach m d at ≤ n)
      → AllPay (visits_of m base n ps) → reach_of m d ps ≤ n
  reach-slots d n [] each h = omega arith
  reach-slots d n (p ∷ ps) each h =
      let a = each p (all-front (visits m base n p) (visits_of m base n ps) h) in
      let b = reach-slots d n ps each (all-back (visits m base n p) (visits_of m base n ps) h) in
      omega arith

  module _ (d : ℕ) (at : Place)
      (each : (n : ℕ) (to : Place) → AllPay (visits m base n to) → reach m d to ≤ n) where
    reach-next : (r : Result Target Fault) → target m at ≡ r → (n : ℕ) → AllPay (visits m base n at)
        → reach m (suc d) at ≤ n
    reach-next (Ok targets.Nil) e n h = let z = reach-null m at (suc d) e in omega arith
    reach-next (Ok (targets.Cap k)) e n h = let z = reach-cap m at (suc d) k e in omega arith
    reach-next (Err f) e n h = let z = reach-fault m at (suc d) f e in omega arith
    reach-next (Ok (targets.Content s start shape pads)) e zero h =
        let f = rw (visits-deep m base at s start pads shape e 0 refl) at h in absurd f
    reach-next (Ok (targets.Content s start shape pads)) e (suc n) h =
        let o = visits-object m base at s start pads shape e (suc n) (omega arith) in
        let z : suc n - 1 ≡ n = omega arith in
        let y : suc d - 1 ≡ d = omega arith in
        let f = rw (o, z) at h in
        let r = rw y at (reach-object m at (suc d) s start pads shape e (omega arith)) in
        let b = reach-slots d n (slots s start shape) (each n) f in
        omega arith

  pub reach-within : (d n : ℕ) (at : Place) → AllPay (visits m base n at) → reach m d at ≤ n
  reach-within zero n at h = let z = reach-zero m at in omega arith
  reach-within (suc d) n at h = reach-next d at (λ k to g. reach-within d k to g) (target m at) refl n h

  -- ---- if the number of objects on a path is within another depth limit, the visits with that limit are the same

  same-slots : (d n : ℕ) (ps : List Place)
      → ((at : Place) → AllPay (visits m base d at) → reach m d at ≤ n → visits m base n at ≡ visits m base d at)
      → AllPay (visits_of m base d ps) → reach_of m d ps ≤ n → visits_of m base n ps ≡ visits_of m base d ps
  same-slots d n [] each h low = refl
  same-slots d n (p ∷ ps) each h low =
      let a = each p (all-front (visits m base d p) (visits_of m base d ps) h) (omega arith) in
      let b = same-slots d n ps each (all-back (visits m base d p) (visits_of m base d ps) h) (omega arith) in
      ap₂ (λ (xs ys : List Visit). xs ++ ys) a b

  same-zero : (at : Place) (n : ℕ) → AllPay (visits m base 0 at) → (r : Result Target Fault) → target m at ≡ r
      → visits m base n at ≡ visits m base 0 at
  same-zero at n h (Ok targets.Nil) e = visits-null m base at n e ∙ sym (visits-null m base at 0 e)
  same-zero at n h (Ok (targets.Cap k)) e = visits-cap m base at n k e ∙ sym (visits-cap m base at 0 k e)
  same-zero at n h (Err f) e = visits-fault m base at n f e ∙ sym (visits-fault m base at 0 f e)
  same-zero at n h (Ok (targets.Content s start shape pads)) e =
      let f = rw (visits-deep m base at s start pads shape e 0 refl) at h in absurd f

  module _ (d : ℕ) (at : Place) (h : AllPay (visits m base (suc d) at))
      (each : (n : ℕ) (to : Place) → AllPay (visits m base d to) → reach m d to ≤ n
      → visits m base n to ≡ visits m base d to) where
    same-next : (r : Result Target Fault) → target m at ≡ r → (n : ℕ) → reach m (suc d) at ≤ n
        → visits m base n at ≡ visits m base (suc d) at
    same-next (Ok targets.Nil) e n low = visits-null m base at n e ∙ sym (visits-null m base at (suc d) e)
    same-next (Ok (targets.Cap k)) e n low = visits-cap m base at n k e ∙ sym (visits-cap m base at (suc d) k e)
    same-next (Err f) e n low = visits-fault m base at n f e ∙ sym (visits-fault m base at (suc d) f e)
    same-next (Ok (targets.Content s start shape pads)) e zero low =
        let r = reach-object m at (suc d) s start pads shape e (omega arith) in absurd (omega arith)
    same-next (Ok (targets.Content s start shape pads)) e (suc n) low =
        let z : suc n - 1 ≡ n = omega arith in
        let y : suc d - 1 ≡ d = omega arith in
        let r = rw y at (reach-object m at (suc d) s start pads shape e (omega arith)) in
        let o = rw y at (visits-object m base at s start pads shape e (suc d) (omega arith)) in
        let f = rw o at h in
        let b = same-slots d n (slots s start shape) (each n) f (omega arith) in
        rw z at (visits-object m base at s start pads shape e (suc n) (omega arith))
        ∙ ap (λ (vs : List Visit). pays at (price base shape + pads) ∷ vs) b ∙ sym o

  pub same-visits : (d n : ℕ) (at : Place) → AllPay (visits m base d at) → reach m d at ≤ n
      → visits m base n at ≡ visits m base d at
  same-visits zero n at h low = same-zero at n h (target m at) refl
  same-visits (suc d) n at h low =
      same-next d at h (λ k to g l. same-visits d k to g l) (target m at) refl n low

-- ---- the claims for a message

module _ (m : List (List ℕ)) (limits : Bounds) (t : Target) (e : target m root ≡ Ok t)
    (kind : may_be_root t ≡ true) (is : IsAccepted m limits) where
  abbrev deep : ℕ
  deep = reach m limits.depth root

  all : AllPay (visits m (base limits.tariff) limits.depth root)
  all = rw (from-root m (base limits.tariff) limits.depth t e kind) at is.within.all

  same : visits_within m (at_depth limits deep) ≡ visits_within m limits
  same =
      from-root m (base limits.tariff) deep t e kind
      ∙ same-visits m (base limits.tariff) limits.depth deep root all (omega arith)
      ∙ sym (from-root m (base limits.tariff) limits.depth t e kind)

  pub depth-within : deep ≤ limits.depth
  depth-within = reach-within m (base limits.tariff) limits.depth limits.depth root all

  pub is-depth : IsDepth m limits deep
  is-depth = record {
    accepted = record { some = is.some; within = rw same is.within };
    least = λ n low other.
        let a = rw (from-root m (base limits.tariff) n t e kind) at other.within.all in
        let b = reach-within m (base limits.tariff) limits.depth n root a in
        omega arith;
  }
