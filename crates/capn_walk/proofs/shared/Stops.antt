-- The computed verdict `judge` agrees with the definitions `IsWithin` and `IsStop`. (For `verdicts` and capn_canon.)
use Rattle.std.proofs.Common.{◌≡◌, ◌⊎◌, inl, inr, ℕ, suc, ◌+◌, ◌-◌, ◌≤◌, nat_lt, Bool, true, false, List, [], ◌∷◌}
use Rattle.std.proofs.Common.{length, refl, ap, ap₂, subst, ◌∙◌, arith}
use Rattle.std.proofs.lemmas.Bool.Decides.{nat_tests}
use Rattle.capn_words.specs.declared.space.Place.{Place}
use Rattle.capn_target.specs.declared.target.Fault.{Fault}
use Rattle.capn_target.specs.declared.target.Fault.TheVariants as faults
use Rattle.capn_walk.specs.Visits.{Visit, pays, fails}
use Rattle.capn_walk.specs.Accepted.{paid_of, AllPay, IsWithin, IsStop, IsStopHere}
use Rattle.capn_walk.specs.inner.Verdict.{accepted, refused, after, judge}
use Rattle.capn_walk.proofs.shared.Judge.{judge-pays, judge-over, judge-more}

-- visits that pay, with prices that sum to at most `b`, are accepted with that sum and with their number
pub within-accepted : (b : ℕ) (vs : List Visit) → AllPay vs → paid_of vs ≤ b
    → judge b vs ≡ accepted (paid_of vs) (length vs)
within-accepted b [] h l = refl
within-accepted b (fails at e ∷ vs) h l = absurd h
within-accepted b (pays at n ∷ vs) h l =
    let rest = within-accepted (b - n) vs h (omega arith) in
    let e : 1 + length vs ≡ suc (length vs) = omega arith in
    judge-pays b n at vs (omega arith) ∙ ap (after n 1) rest ∙ ap (accepted (n + paid_of vs)) e

ends-refused : (b p : ℕ) (v : Visit) (vs : List Visit) (at : Place) (e : Fault) → p ≤ b → IsStopHere b p v at e
    → judge (b - p) (v ∷ vs) ≡ refused e at 0 1
ends-refused b p (fails x f) vs at e l h = let a = h.0 in let c = h.1 in cc
ends-refused b p (pays x n) vs at e l h = let a = h.0 in let c = h.1 in let d =
    judge-over (b - p) n x vs (let o = h.2 in omega arith) in cc

-- if a walk with the visits `vs` has a stop, `vs` are refused at that stop
pub stop-refused : (b : ℕ) (vs : List Visit) (e : Fault) (at : Place) (p k : ℕ) → IsStop b vs e at p k
    → judge b vs ≡ refused e at p k
stop-refused b vs e at p k h =
    let one = within-accepted b h.before h.within.all h.within.paid in
    let two = judge-more b h.before (h.stop ∷ h.after) (paid_of h.before) (length h.before) one in
    let three = ends-refused b (paid_of h.before) h.stop h.after at e h.within.paid h.ends in
    let x : paid_of h.before + 0 ≡ p = let s = h.sum in omega arith in
    let y : length h.before + 1 ≡ k = let s = h.number in omega arith in
    ap (judge b) h.split ∙ two ∙ ap (after (paid_of h.before) (length h.before)) three ∙ ap₂ (refused e at) x y

one-more : (b n : ℕ) (at : Place) (vs : List Visit) → n ≤ b → IsWithin (b - n) vs → IsWithin b (pays at n ∷ vs)
one-more b n at vs l h = record { all = h.all; paid = let a = h.paid in omega arith }

stop-more : (b n : ℕ) (x : Place) (vs : List Visit) (e : Fault) (at : Place) (p k : ℕ) → n ≤ b
    → IsStop (b - n) vs e at p k → IsStop b (pays x n ∷ vs) e at (n + p) (1 + k)
stop-more b n x vs e at p k l h = record {
  before = pays x n ∷ h.before;
  stop = h.stop;
  after = h.after;
  split = ap (λ (r : List Visit). pays x n ∷ r) h.split;
  within = one-more b n x h.before l h.within;
  ends = later h.stop h.ends;
  sum = ap (λ (q : ℕ). n + q) h.sum;
  number = let a = h.number in omega arith;
}
  where
    later : (v : Visit) → IsStopHere (b - n) (paid_of h.before) v at e → IsStopHere b (n + paid_of h.before) v at e
    later (fails y f) g = g
    later (pays y m) g = (g.0, g.1, let a = g.2 in omega arith)

-- the visits `vs` are within the budget `b`, or one of them is a stop
pub decided : (b : ℕ) (vs : List Visit) → IsWithin b vs
    ⊎ ((e : Fault) × (at : Place) × (p k : ℕ) × IsStop b vs e at p k)
decided b [] = inl (record { all = tt; paid = omega arith })
decided b (fails x f ∷ vs) =
    inr (
      f,
      x,
      0,
      1,
      record {
        before = [];
        stop = fails x f;
        after = vs;
        split = refl;
        within =
            record { all = tt; paid = omega arith };
        ends = (refl, refl);
        sum = refl;
        number = refl;
      },
    )
decided b (pays x n ∷ vs) = fits (nat_lt b n) refl (decided (b - n) vs)
  where
    fits : (t : Bool) → nat_lt b n ≡ t → IsWithin (b - n) vs
        ⊎ ((e : Fault) × (at : Place) × (p k : ℕ) × IsStop (b - n) vs e at p k) →
        IsWithin b (pays x n ∷ vs) ⊎ ((e : Fault) × (at : Place) × (p k : ℕ) × IsStop b (pays x n ∷ vs) e at p k)
    fits true t r = inr (
      faults.OverBudget,
      x,
      0,
      1,
      record {
        before = [];
        stop = pays x n;
        after = vs;
        split = refl;
        within = record { all = tt; paid = omega arith };
        ends = (refl, refl, grind (arith, nat_tests));
        sum = refl;
        number = refl;
      },
    )
    fits false t (inl h) = inl (one-more b n x vs (grind (arith, nat_tests)) h)
    fits false t (inr (e, at, p, k, h)) =
        inr (e, at, n + p, 1 + k, stop-more b n x vs e at p k (grind (arith, nat_tests)) h)

-- ---- the meaning of a verdict

-- if the visits `vs` are accepted, then they are within the budget `b`, `p` is the sum of their prices, and `k` is
-- their number
pub accepted-within : (b : ℕ) (vs : List Visit) (p k : ℕ) → judge b vs ≡ accepted p k → IsWithin b vs × (p ≡ paid_of vs)
    × (k ≡ length vs)
accepted-within b vs p k h = from (decided b vs)
  where
    from : IsWithin b vs ⊎ ((e : Fault) × (at : Place) × (q j : ℕ) × IsStop b vs e at q j) → IsWithin b vs
        × (p ≡ paid_of vs) × (k ≡ length vs)
    from (inl w) = let is = within-accepted b vs w.all w.paid in (w, cc, cc)
    from (inr (e, at, q, j, s)) = let is = stop-refused b vs e at q j s in absurd cc

-- if the visits `vs` are refused, the walk with these visits stops at the refused visit
pub refused-stop : (b : ℕ) (vs : List Visit) (e : Fault) (at : Place) (p k : ℕ) → judge b vs ≡ refused e at p k
    → IsStop b vs e at p k
refused-stop b vs e at p k h = from (decided b vs)
  where
    from : IsWithin b vs ⊎ ((f : Fault) × (x : Place) × (q j : ℕ) × IsStop b vs f x q j) → IsStop b vs e at p k
    from (inl w) = let is = within-accepted b vs w.all w.paid in absurd cc
    from (inr (f, x, q, j, s)) =
        let is = stop-refused b vs f x q j s in
        let a : f ≡ e = cc in
        let c : x ≡ at = cc in
        let d : q ≡ p = cc in
        let l : j ≡ k = cc in
        subst (λ (y : Fault). IsStop b vs y at p k) a
        (subst (λ (y : Place). IsStop b vs f y p k) c
        (subst (λ (y : ℕ). IsStop b vs f x y k) d (subst (λ (y : ℕ). IsStop b vs f x q y) l s)))

-- visits within the budget `b` have no stop
pub never-both : (b : ℕ) (vs : List Visit) (e : Fault) (at : Place) (p k : ℕ) → IsWithin b vs → IsStop b vs e at p k → ⊥
never-both b vs e at p k w s =
    let is = within-accepted b vs w.all w.paid in
    let isnt = stop-refused b vs e at p k s in
    cc
