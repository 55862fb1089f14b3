-- A step of a view is one visit of a walk. (For `index_visits.rt`, `message_walk.rt`, `survey_loop.rt` and others.)
use Rattle.std.proofs.Common.{◌≡◌, ℕ, ◌+◌, ◌-◌, ◌<◌, ◌≤◌, ◌==◌, nat_lt, List, [], ◌∷◌, length, Result, Ok}
use Rattle.std.proofs.Common.{Err, None, refl, ap, sym, subst, ◌∙◌, arith, inr, true}
use Rattle.std.proofs.lemmas.Bool.Decides.{nat_tests}
use Rattle.capn_words.specs.declared.space.Place.{Place}
use Rattle.capn_words.proofs.shared.Choices.{pick}
use Rattle.capn_target.specs.declared.target.Target.{Target}
use Rattle.capn_target.specs.declared.target.Target.TheVariants as targets
use Rattle.capn_target.specs.declared.target.Shape.{Shape}
use Rattle.capn_target.specs.declared.target.Fault.{Fault}
use Rattle.capn_target.specs.declared.target.Fault.TheVariants as faults
use Rattle.capn_words.specs.Message.{segment_at}
use Rattle.capn_words.specs.declared.pointer.Pointer.{Pointer}
use Rattle.capn_words.specs.declared.pointer.Pointer.TheVariants.{Nil, Node, Many, Far, Cap, Reserved}
use Rattle.capn_words.specs.declared.pointer.Width.TheVariants.{W0, W1, W8, W16, W32, W64, Link, Rows}
use Rattle.capn_target.specs.Target.{target_from, target}
use Rattle.capn_target.specs.Ways.{Describes}
use Rattle.capn_target.proofs.shared.Ways.{Told, told-near}
use Rattle.capn_target.specs.Shapes.{AreNumbers}
use Rattle.capn_walk.specs.Surveyed.{cap_of}
use Rattle.std.specs.Bool.{⊤}
use Rattle.std.specs.Result.{IfOk, IfErr, MatchResult}
use Rattle.capn_walk.specs.Visits.{pays, price, slots, visits, visits_of}
use Rattle.capn_walk.specs.inner.Verdict.{judge, refused}
use Rattle.capn_walk.specs.inner.Reach.{below_of}
use Rattle.capn_walk.specs.View.{stepped, rooted, stepped_to_root, IsEntered, toll, slots_below}
use Rattle.capn_walk.specs.inner.Verdict.{Refuses}
use Rattle.capn_walk.specs.declared.walk_answer.Stopped.{Stopped}
use Rattle.capn_walk.specs.Accepted.{root, may_be_root}
use Rattle.capn_walk.proofs.shared.Judge.{judge-over}
use Rattle.capn_walk.proofs.shared.Walks.{visits-null, visits-cap, visits-fault, visits-deep, visits-object}

module _ (m : List (List ℕ)) (base : ℕ) (at : Place) (depth budget : ℕ) where
  -- the visit of the slot at `at` pays `toll base t`, which is within `budget`, and then the slots below `t` are
  -- visited
  pub record IsPaid (t : Target) : Type 0 where
    pub is : visits m base depth at ≡ pays at (toll base t) ∷ visits_of m base (depth - 1) (slots_below t)
    pub within : toll base t ≤ budget

  abbrev Stepped : Result Target Fault → Type 0
  Stepped (Ok t) = IsPaid t
  Stepped (Err e) = judge budget (visits m base depth at) ≡ refused e at 0 1

  answered : (r : Result Target Fault) → target m at ≡ r → Stepped (stepped base depth budget r)
  answered (Ok targets.Nil) e = record { is = visits-null m base at depth e; within = omega arith }
  answered (Ok (targets.Cap k)) e = record { is = visits-cap m base at depth k e; within = omega arith }
  answered (Err f) e = ap (judge budget) (visits-fault m base at depth f e)
  answered (Ok (targets.Content s start shape pads)) e =
      pick Stepped (depth == 0) _ _
      (λ z. ap (judge budget) (visits-deep m base at s start pads shape e depth (grind (arith, nat_tests))))
      (λ z.
      let deep : 0 < depth = grind (arith, nat_tests) in
      let o = visits-object m base at s start pads shape e depth deep in
      pick Stepped (nat_lt budget (price base shape + pads)) _ _
      (λ t. ap (judge budget) o ∙ judge-over budget (price base shape + pads) at _ (grind (arith, nat_tests)))
      (λ t. record { is = o; within = grind (arith, nat_tests) }))

  pub step-pays : (t : Target) → stepped base depth budget (target m at) ≡ Ok t → IsPaid t
  step-pays t h = let k = rw h at (answered (target m at) refl) in k

  pub step-stops : (e : Fault) → stepped base depth budget (target m at) ≡ Err e
      → judge budget (visits m base depth at) ≡ refused e at 0 1
  step-stops e h = let k = rw h at (answered (target m at) refl) in k

-- a step to a target never gives the fault `Memory`
pub stepped-memory : (base depth budget : ℕ) (t : Target) → stepped base depth budget (Ok t) ≡ Err faults.Memory → ⊥
stepped-memory base depth budget targets.Nil e = absurd cc
stepped-memory base depth budget (targets.Cap k) e = absurd cc
stepped-memory base depth budget (targets.Content s start shape pads) e =
    pick (λ (r : Result Target Fault). r ≡ Err faults.Memory → ⊥) (depth == 0) _ _ (λ z f. absurd cc)
    (λ z. pick (λ (r : Result Target Fault). r ≡ Err faults.Memory → ⊥) (nat_lt budget (price base shape + pads)) _ _
    (λ over f. absurd cc) (λ within f. absurd cc)) e

-- if a step to content gives that content, then `depth` is above 0, and the price is at most `budget`
pub content-taken : (base depth budget s start pads : ℕ) (shape : Shape) →
    stepped base depth budget (Ok (targets.Content s start shape pads)) ≡ Ok (targets.Content s start shape pads) →
    (0 < depth) × (price base shape + pads ≤ budget)
content-taken base depth budget s start pads shape =
    pick (λ (r : Result Target Fault). r ≡ Ok (targets.Content s start shape pads) → (0 < depth)
    × (price base shape + pads ≤ budget)) (depth == 0) _ _ (λ z e. absurd cc)
    (λ z. pick (λ (r : Result Target Fault). r ≡ Ok (targets.Content s start shape pads) → (0 < depth)
    × (price base shape + pads ≤ budget)) (nat_lt budget (price base shape + pads)) _ _ (λ over e. absurd cc)
    (λ within e. (grind (arith, nat_tests), grind (arith, nat_tests))))

-- if a step to the slot's target gives the fault `e`, then the visits of the slot are refused with `e`
pub step-refuses : (m : List (List ℕ)) (base : ℕ) (at : Place) (depth budget : ℕ) (t : Target) (e : Fault) (s : Stopped)
    → target m at ≡ Ok t
    → stepped base depth budget (Ok t) ≡ Err e → s ≡ record { fault = e; place = at; paid = 0; visits = 1 }
    → Refuses budget (visits m base depth at) 1 s
step-refuses m base at depth budget t e s is h k = rw k (record {
  is = inr (step-stops m base at depth budget e (ap (stepped base depth budget) is ∙ h));
  within = omega arith;
  few = omega arith;
})

-- if segment 0 has a word, and `may_be_root` is true of the root's target `t`, then a step to `t` gives the same result
-- as a step to the root
pub step-to-root : (m : List (List ℕ)) (base depth budget : ℕ) (t : Target) → 0 < length (segment_at m 0)
    → target m root ≡ Ok t → may_be_root t ≡ true
    → stepped base depth budget (Ok t) ≡ stepped_to_root m base depth budget
step-to-root m base depth budget t some is kind =
    let r : rooted (target m root) ≡ Ok t = rw (is, kind) refl in
    pick (λ (r : Result Target Fault). stepped base depth budget (Ok t) ≡ r) (length (segment_at m 0) == 0) _ _
    (λ z. absurd (grind (arith, nat_tests))) (λ z. ap (stepped base depth budget) (sym r))

pub entered-root : (m : List (List ℕ)) (b d l base depth budget : ℕ) (t : Target) → b ≡ base → d ≡ depth → l ≡ budget
    → 0 < length (segment_at m 0) → target m root ≡ Ok t → may_be_root t ≡ true
    → IsEntered (stepped b d l (Ok t)) → IsEntered (stepped_to_root m base depth budget)
entered-root m b d l base depth budget t e f g some is kind h =
    subst IsEntered (step-to-root m base depth budget t some is kind)
    (subst (λ (x : ℕ). IsEntered (stepped base depth x (Ok t))) g
    (subst (λ (x : ℕ). IsEntered (stepped base x l (Ok t))) f
    (subst (λ (x : ℕ). IsEntered (stepped x d l (Ok t))) e h)))

module _ (m : List (List ℕ)) where
  capless : (r : Result Target Fault) → Told m (λ s start shape pads. ⊤) (λ k. ⊥) r → cap_of r ≡ None
  capless (Ok targets.Nil) h = refl
  capless (Ok (targets.Cap k)) h = absurd h
  capless (Ok (targets.Content s start shape pads)) h = refl
  capless (Err e) h = refl

  pub capless-near : (at : Place) (p : Pointer) → target_from m at.segment at.word 0 p ≡ target m at
      → cap_of (target m at) ≡ None
  capless-near at p h = rw h at
      (capless (target_from m at.segment at.word 0 p) (told-near m _ _ at.segment at.word 0 p (λ start shape l d. tt)))

  number-slots : (p : Pointer) (s start : ℕ) (shape : Shape) → AreNumbers p → Describes m p s start shape
      → slots s start shape ≡ []
  number-slots (Many o W0 n) s start shape h d = rw d.0 refl
  number-slots (Many o W1 n) s start shape h d = rw d.0 refl
  number-slots (Many o W8 n) s start shape h d = rw d.0 refl
  number-slots (Many o W16 n) s start shape h d = rw d.0 refl
  number-slots (Many o W32 n) s start shape h d = rw d.0 refl
  number-slots (Many o W64 n) s start shape h d = rw d.0 refl
  number-slots (Many o Link n) s start shape h d = absurd h
  number-slots (Many o Rows n) s start shape h d = absurd h
  number-slots Nil s start shape h d = absurd h
  number-slots (Node o a b) s start shape h d = absurd h
  number-slots (Far f v t) s start shape h d = absurd h
  number-slots (Cap k) s start shape h d = absurd h
  number-slots (Reserved n) s start shape h d = absurd h

  pub numbers-below : (s w pads : ℕ) (p : Pointer) (t : Target) → AreNumbers p → target_from m s w pads p ≡ Ok t
      → slots_below t ≡ []
  numbers-below s w pads p targets.Nil h e = refl
  numbers-below s w pads p (targets.Cap k) h e = refl
  numbers-below s w pads p (targets.Content t start shape n) h e =
      let k = rw e at (told-near m (λ s start shape pads. slots s start shape ≡ []) (λ k. ⊤) s w pads p
      (λ start shape l d. number-slots p s start shape h d)) in k

  none-of : (at : Place) (p : Pointer) → AreNumbers p → (r : Result Target Fault)
      → target_from m at.segment at.word 0 p ≡ r
      → below_of r ≡ []
  none-of at p h (Ok t) e = numbers-below at.segment at.word 0 p t h e
  none-of at p h (Err f) e = refl

  pub numbers-none : (at : Place) (p : Pointer) → AreNumbers p → target_from m at.segment at.word 0 p ≡ target m at
      → below_of (target m at) ≡ []
  numbers-none at p h e = none-of at p h (target m at) e

  -- Case: the near pointer `p` of the slot at `at` names a list of numbers.
  module _ (base : ℕ) (at : Place) (depth left : ℕ) (p : Pointer) where
    pub numbers-paid : (t : Target) → AreNumbers p → target_from m at.segment at.word 0 p ≡ Ok t
        → target_from m at.segment at.word 0 p ≡ target m at →
        (r : Result ℕ Fault)
        → MatchResult r (λ n. stepped base depth left (Ok t) ≡ Ok t) (λ e. stepped base depth left (Ok t) ≡ Err e) →
        IfOk r (λ n. n ≡ toll base t) → IfOk r (λ n. visits m base depth at ≡ pays at n ∷ [])
    numbers-paid t k h e (Ok n) f x =
        let s = sym e ∙ h in
        let z = numbers-below at.segment at.word 0 p t k h in
        let w = (step-pays m base at depth left t (ap (stepped base depth left) s ∙ f)).is in
        let empty : visits_of m base (depth - 1) (slots_below t) ≡ [] = ap (visits_of m base (depth - 1)) z in
        rw (← x, empty) at w
    numbers-paid t k h e (Err n) f x = tt

    pub numbers-stop : (t : Target) → target_from m at.segment at.word 0 p ≡ Ok t
        → target_from m at.segment at.word 0 p ≡ target m at
        →
        (r : Result ℕ Fault)
        → MatchResult r (λ n. stepped base depth left (Ok t) ≡ Ok t) (λ e. stepped base depth left (Ok t) ≡ Err e) →
        IfErr r (λ e. judge left (visits m base depth at) ≡ refused e at 0 1)
    numbers-stop t h e (Ok n) f = tt
    numbers-stop t h e (Err n) f = step-stops m base at depth left n (ap (stepped base depth left) (sym e ∙ h) ∙ f)

    pub numbers-fault : (x : Fault) → target_from m at.segment at.word 0 p ≡ Err x
        → target_from m at.segment at.word 0 p ≡ target m at →
        judge left (visits m base depth at) ≡ refused x at 0 1
    numbers-fault x h e = ap (judge left) (visits-fault m base at depth x (sym e ∙ h))
