-- The depth that a survey finds, given the levels found so far and the slots still to be visited. (For `survey_in_room`
-- and `survey_root`.)
use Rattle.std.proofs.Common.{◌≡◌, ℕ, zero, suc, ◌+◌, ◌-◌, ◌<◌, ◌≤◌, max, List, [], ◌∷◌, ◌++◌, Result, Ok, Err, Option}
use Rattle.std.proofs.Common.{refl, ap, sym, ◌∙◌, arith}
use Rattle.capn_words.specs.declared.space.Place.{Place}
use Rattle.capn_target.specs.declared.target.Target.{Target}
use Rattle.capn_target.specs.declared.target.Target.TheVariants as targets
use Rattle.capn_target.specs.declared.target.Shape.{Shape}
use Rattle.capn_target.specs.declared.target.Fault.{Fault}
use Rattle.capn_walk.specs.declared.slots_left.SlotsLeft.{SlotsLeft}
use Rattle.capn_walk.specs.declared.slots_left.Waiting.{Waiting}
use Rattle.capn_target.specs.Target.{target}
use Rattle.capn_walk.specs.Visits.{Visit, pays, slots, visits}
use Rattle.capn_walk.specs.Surveyed.{cap_of}
use Rattle.capn_walk.specs.inner.SlotsLeft.{places_of, owed, HasRows}
use Rattle.capn_walk.specs.inner.Reach.{below_of, level, reach, reach_of, reached, levels_at}
use Rattle.capn_walk.proofs.OwedSlots.{nothing-left}
use Rattle.capn_target.proofs.shared.NeverNull.{IsThere}
use Rattle.capn_walk.proofs.UnderWay.{IsKept, kept, dropped}
use Rattle.capn_walk.proofs.shared.Walks.{visits-deep, visits-fault}

-- ---- the depth of one slot

module _ (m : List (List ℕ)) (at : Place) where
  pub reach-zero : reach m 0 at ≡ 0
  unfolding reach
  reach-zero = refl

  pub reach-null : (d : ℕ) → target m at ≡ Ok targets.Nil → reach m d at ≡ 0
  unfolding reach
  reach-null zero e = refl
  reach-null (suc d) e = ap (reached (reach m d)) e

  pub reach-cap : (d k : ℕ) → target m at ≡ Ok (targets.Cap k) → reach m d at ≡ 0
  unfolding reach
  reach-cap zero k e = refl
  reach-cap (suc d) k e = ap (reached (reach m d)) e

  pub reach-fault : (d : ℕ) (f : Fault) → target m at ≡ Err f → reach m d at ≡ 0
  unfolding reach
  reach-fault zero f e = refl
  reach-fault (suc d) f e = ap (reached (reach m d)) e

  pub reach-object : (d s start pads : ℕ) (shape : Shape) → target m at ≡ Ok (targets.Content s start shape pads)
      → 0 < d → reach m d at ≡ 1 + reach_of m (d - 1) (slots s start shape)
  unfolding reach
  reach-object zero s start pads shape e z = absurd (omega arith)
  reach-object (suc d) s start pads shape e z =
      let f : suc d - 1 ≡ d = omega arith in
      ap (reached (reach m d)) e ∙ ap (λ (c : ℕ). 1 + reach_of m c (slots s start shape)) (sym f)

  pub reach-named : (d : ℕ) (t : Target) (ps : List Place) → 0 < d → target m at ≡ Ok t → below_of (target m at) ≡ ps
      → reach m d at ≡ level t + reach_of m (d - 1) ps
  reach-named d targets.Nil ps z e b = rw (reach-null d e, ← b, e) (omega arith)
  reach-named d (targets.Cap k) ps z e b = rw (reach-cap d k e, ← b, e) (omega arith)
  reach-named d (targets.Content s start shape pads) ps z e b =
      rw (← b, e) (reach-object d s start pads shape e z)

-- ---- levels, counted from the first object of a survey

-- the level of the deepest of `n` objects on a path that begins below `k` levels, or 0 if `n` is 0
abbrev pub raised : ℕ → ℕ → ℕ
raised k zero = 0
raised k (suc n) = k + suc n

pub raised-max : (k a b : ℕ) → raised k (max a b) ≡ max (raised k a) (raised k b)
raised-max k zero b = let e : max zero b ≡ b = omega arith in rw e (omega arith)
raised-max k (suc a) zero = let e : max (suc a) zero ≡ suc a = omega arith in rw e (omega arith)
raised-max k (suc a) (suc b) =
    let e : max (suc a) (suc b) ≡ suc (max a b) = omega arith in
    rw e (omega arith)

raised-more : (limit d n : ℕ) → 0 < d → d ≤ limit
    → raised (limit - d) (1 + n) ≡ max (limit + 1 - d) (raised (limit - (d - 1)) n)
raised-more limit d zero z h = omega arith
raised-more limit d (suc n) z h = let e : 1 + suc n ≡ suc (suc n) = omega arith in rw e (omega arith)

-- ---- the state of a survey

module _ (m : List (List ℕ)) (base limit : ℕ) where
  module _ (d : ℕ) (at : Place) (p : ℕ) (vs : List Visit) (k : Option ℕ) (ps : List Place) (low : d ≤ limit)
      (here : visits m base d at ≡ pays at p ∷ vs) where
    by-target : (r : Result Target Fault) → target m at ≡ r → IsThere r → cap_of r ≡ k → below_of r ≡ ps
        → raised (limit - d) (reach m d at)
        ≡ max (levels_at limit d k) (raised (limit - (d - 1)) (reach_of m (d - 1) ps))
    by-target (Ok targets.Nil) e t c b = absurd t
    by-target (Ok (targets.Cap j)) e t c b = rw (reach-cap m at d j e, ← c, ← b) (omega arith)
    by-target (Err f) e t c b = let x = sym (visits-fault m base at d f e) ∙ here in absurd cc
    by-target (Ok (targets.Content s start shape pads)) e t c b = rw (← c, ← b) (object d low here)
      where
        object : (d : ℕ) → d ≤ limit → visits m base d at ≡ pays at p ∷ vs → raised (limit - d) (reach m d at)
            ≡ max (limit + 1 - d) (raised (limit - (d - 1)) (reach_of m (d - 1) (slots s start shape)))
        object zero low here =
            let x = sym (visits-deep m base at s start pads shape e 0 refl) ∙ here in absurd cc
        object (suc d) low here =
            let o = reach-object m at (suc d) s start pads shape e (omega arith) in
            ap (raised (limit - suc d)) o
            ∙ raised-more limit (suc d) (reach_of m (suc d - 1) (slots s start shape)) (omega arith) low

    pub visited : IsThere (target m at) → cap_of (target m at) ≡ k → below_of (target m at) ≡ ps
        → raised (limit - d) (reach m d at)
        ≡ max (levels_at limit d k) (raised (limit - (d - 1)) (reach_of m (d - 1) ps))
    visited t c b = by-target (target m at) refl t c b

  -- the level of the deepest object below the remaining slots `f`, if `d` levels remain
  abbrev pub lowest : ℕ → SlotsLeft → ℕ
  lowest d f = raised (limit - d) (reach_of m d (places_of f))

  -- the level of the deepest object below the remaining slots of the objects of a stack
  abbrev pub lowest_waiting : List Waiting → ℕ
  lowest_waiting [] = 0
  lowest_waiting (w ∷ ws) = max (lowest w.depth w.frame) (lowest_waiting ws)

  waiting-push : (ws : List Waiting) (w : Waiting)
      → lowest_waiting (ws ++ w ∷ []) ≡ max (lowest w.depth w.frame) (lowest_waiting ws)
  waiting-push [] w = refl
  waiting-push (g ∷ ws) w = let e = waiting-push ws w in omega arith

  lowest-done : (d : ℕ) (f : SlotsLeft) → HasRows f → owed f ≡ 0 → lowest d f ≡ 0
  lowest-done d f h z = ap (λ (ps : List Place). raised (limit - d) (reach_of m d ps)) (nothing-left f h z)

  lowest-take : (d : ℕ) (f rest : SlotsLeft) (at : Place) → places_of f ≡ at ∷ places_of rest
      → lowest d f ≡ max (raised (limit - d) (reach m d at)) (lowest d rest)
  lowest-take d f rest at e =
      ap (λ (ps : List Place). raised (limit - d) (reach_of m d ps)) e
      ∙ raised-max (limit - d) (reach m d at) (reach_of m d (places_of rest))

  module _ (n : ℕ) where
    -- `n` is the greater of two numbers: the number of levels found so far, and the level of the deepest object below
    -- the remaining slots
    pub record IsDeep (least d : ℕ) (ws : List Waiting) (f : SlotsLeft) : Type 0 where
      pub is : n ≡ max (limit + 1 - least) (max (lowest d f) (lowest_waiting ws))

    pub deep-row : (least d : ℕ) (ws : List Waiting) (f row : SlotsLeft) → places_of row ≡ places_of f
        → IsDeep least d ws f → IsDeep least d ws row
    deep-row least d ws f row p i = record { is = rw p i.is }

    pub deep-popped : (least d : ℕ) (old ws : List Waiting) (f : SlotsLeft) (w : Waiting) → old ≡ ws ++ w ∷ []
        → HasRows f → owed f ≡ 0 → IsDeep least d old f → IsDeep least w.depth ws w.frame
    deep-popped least d old ws f w e h z i =
        let a = i.is in
        let b = ap lowest_waiting e ∙ waiting-push ws w in
        let c = lowest-done d f h z in
        record { is = omega arith }

    pub deep-null : (least d : ℕ) (ws : List Waiting) (f rest : SlotsLeft) (at : Place)
        → places_of f ≡ at ∷ places_of rest → target m at ≡ Ok targets.Nil → IsDeep least d ws f
        → IsDeep least d ws rest
    deep-null least d ws f rest at next none i =
        let a = i.is in
        let b = lowest-take d f rest at next in
        let c : raised (limit - d) (reach m d at) ≡ 0 = ap (raised (limit - d)) (reach-null m at d none) in
        record { is = omega arith }

    -- Case: the survey visits the slot at `at`.
    module _ (least less d : ℕ) (ws : List Waiting) (f rest below : SlotsLeft) (at : Place) (p : ℕ) (vs : List Visit)
        (k : Option ℕ) (i : IsDeep least d ws f) (low : d ≤ limit) (next : places_of f ≡ at ∷ places_of rest)
        (here : visits m base d at ≡ pays at p ∷ vs) (there : IsThere (target m at)) (c : cap_of (target m at) ≡ k)
        (b : below_of (target m at) ≡ places_of below)
        (fall : limit + 1 - less ≡ max (limit + 1 - least) (levels_at limit d k)) where
      deep-next : n ≡ max (limit + 1 - less) (max (lowest (d - 1) below) (max (lowest d rest) (lowest_waiting ws)))
      deep-next =
          let a = i.is in
          let t = lowest-take d f rest at next in
          let v = visited d at p vs k (places_of below) low here there c b in
          omega arith

      -- Case: no slot is below the slot at `at`, and the survey goes on with the slots `rest`.
      pub deep-passed : HasRows below → owed below ≡ 0 → IsDeep less d ws rest
      deep-passed h z =
          let a = deep-next in
          let e = lowest-done (d - 1) below h z in
          record { is = omega arith }

      -- Case: slots are below the slot at `at`, and the survey visits them next.
      pub deep-entered : (new : List Waiting) → HasRows rest → IsKept m base d ws rest new
          → IsDeep less (d - 1) new below
      deep-entered new h (dropped z e) =
          let a = deep-next in
          let t = lowest-done d rest h z in
          let w = ap lowest_waiting e in
          record { is = omega arith }
      deep-entered new h (kept e) =
          let a = deep-next in
          let w = ap lowest_waiting e ∙ waiting-push ws (record { frame = rest; depth = d }) in
          record { is = omega arith }

    -- Case: no slot remains, and `n` levels were found.
    pub deep-end : (least d : ℕ) (ws : List Waiting) (f : SlotsLeft) → ws ≡ [] → HasRows f → owed f ≡ 0
        → IsDeep least d ws f → limit + 1 - least ≡ n
    deep-end least d ws f e h z i =
        let a = i.is in
        let b = ap lowest_waiting e in
        let c = lowest-done d f h z in
        omega arith
