-- The words that visits cover are those that the slots cover, each before the slots below it, and they are at most as
-- many as the words that the visits pay.
use Rattle.std.proofs.Common.{◌≡◌, ℕ, zero, suc, ◌+◌, ◌≤◌, ◌==◌, List, [], ◌∷◌, ◌++◌, length}
use Rattle.std.proofs.Common.{Result, Ok, Err, refl, ap, ap₂, sym, ◌∙◌, arith, append_assoc, length-append}
use Rattle.std.specs.List.{flat_map}
use Rattle.capn_words.specs.declared.space.Place.{Place}
use Rattle.capn_words.specs.declared.pointer.Pointer.{Pointer}
use Rattle.capn_words.specs.declared.pointer.Pointer.TheVariants.{Nil, Node, Many, Far, Cap, Reserved}
use Rattle.capn_words.specs.declared.pointer.Width.TheVariants.{W0, W1, W8, W16, W32, W64, Link, Rows}
use Rattle.capn_words.proofs.shared.Choices.{pick}
use Rattle.capn_target.specs.declared.target.Target.{Target}
use Rattle.capn_target.specs.declared.target.Target.TheVariants as targets
use Rattle.capn_target.specs.declared.target.Shape.{Shape}
use Rattle.capn_target.specs.declared.target.Shape.TheVariants as shapes
use Rattle.capn_target.specs.declared.target.Fault.{Fault}
use Rattle.capn_target.specs.declared.target.Fault.TheVariants as faults
use Rattle.capn_target.specs.Target.{pointer_in, target}
use Rattle.capn_target.specs.Shapes.{extent, RowsFit}
use Rattle.capn_target.proofs.shared.Inside.{inside}
use Rattle.capn_walk.specs.Visits.{Visit, pays, fails, price, slots, visits, visit, last_visit}
use Rattle.capn_walk.specs.Accepted.{paid_of, AllPay, root, may_be_root, visits_at_root, root_visits}
use Rattle.capn_walk.proofs.shared.Costs.{all-front, all-back, paid-append}
use Rattle.capn_cover.specs.declared.covered.Role.TheVariants as roles
use Rattle.capn_cover.specs.Numbers.{number}
use Rattle.capn_cover.specs.Covers.{Covering, pad_run, content_run, covers, covered}
use Rattle.capn_cover.specs.inner.Laid.{below, cover_below}
use Rattle.capn_cover.proofs.Runs.{run-length, content-length}

-- the size of an object is at most its price
extent-price : (base : ℕ) (shape : Shape) → RowsFit shape → extent shape ≤ price base shape
extent-price base (shapes.Node a b) h = omega arith
extent-price base (shapes.Many W0 n) h = omega arith
extent-price base (shapes.Many W1 n) h = omega arith
extent-price base (shapes.Many W8 n) h = omega arith
extent-price base (shapes.Many W16 n) h = omega arith
extent-price base (shapes.Many W32 n) h = omega arith
extent-price base (shapes.Many W64 n) h = omega arith
extent-price base (shapes.Many Link n) h = omega arith
extent-price base (shapes.Many Rows n) h = absurd h
extent-price base (shapes.Rows n a b span) h =
    pick (λ (x : ℕ). 1 + span ≤ base + 1 + span + x) (a + b == 0) n 0 (λ _. omega arith) (λ _. omega arith)

module _ (m : List (List ℕ)) where
  covered-append : (xs ys : List Visit) → covered m (xs ++ ys) ≡ covered m xs ++ covered m ys
  covered-append [] ys = refl
  covered-append (pays at n ∷ xs) ys =
      ap (λ (cs : List Covering). covers m at (target m at) ++ cs) (covered-append xs ys)
      ∙ sym (append_assoc (covers m at (target m at)) (covered m xs) (covered m ys))
  covered-append (fails at e ∷ xs) ys = covered-append xs ys

  -- a landing pad has at most as many words as the target says
  pad-length : (slot pads : ℕ) (p : Pointer) → length (pad_run m slot pads p) ≤ pads
  pad-length slot pads (Far double word segment) =
      let e = run-length slot roles.Pad (number m (record { segment = segment; word = word })) pads in
      omega arith
  pad-length slot pads Nil = omega arith
  pad-length slot pads (Node o a b) = omega arith
  pad-length slot pads (Many o w n) = omega arith
  pad-length slot pads (Cap k) = omega arith
  pad-length slot pads (Reserved n) = omega arith

  module _ (base : ℕ) (f : Place → List Visit) (g : Place → List Covering) where
    module _ (same : (p : Place) → AllPay (f p) → g p ≡ covered m (f p)) where
      same-places : (ps : List Place) → AllPay (flat_map f ps) → flat_map g ps ≡ covered m (flat_map f ps)
      same-places [] h = refl
      same-places (p ∷ ps) h =
          ap₂ (λ (xs ys : List Covering). xs ++ ys) (same p (all-front (f p) (flat_map f ps) h))
          (same-places ps (all-back (f p) (flat_map f ps) h))
          ∙ sym (covered-append (f p) (flat_map f ps))

      same-target : (at : Place) (r : Result Target Fault) → target m at ≡ r → AllPay (visit m base f at r)
          → covers m at r ++ flat_map g (below r) ≡ covered m (visit m base f at r)
      same-target at (Ok targets.Nil) e h = rw e refl
      same-target at (Ok (targets.Cap k)) e h = rw e refl
      same-target at (Ok (targets.Content s start shape pads)) e h =
          ap₂ (λ (xs ys : List Covering). xs ++ ys) (ap (covers m at) (sym e))
          (same-places (slots s start shape) h)
      same-target at (Err x) e h = absurd h

    module _ (few : (p : Place) → length (g p) ≤ paid_of (f p)) where
      few-places : (ps : List Place) → length (flat_map g ps) ≤ paid_of (flat_map f ps)
      few-places [] = omega arith
      few-places (p ∷ ps) =
          let a = length-append (g p) (flat_map g ps) in
          let b = paid-append (f p) (flat_map f ps) in
          let c = few p in
          let d = few-places ps in
          omega arith

      few-target : (at : Place) (r : Result Target Fault) → target m at ≡ r
          → length (covers m at r ++ flat_map g (below r)) ≤ paid_of (visit m base f at r)
      few-target at (Ok targets.Nil) e = omega arith
      few-target at (Ok (targets.Cap k)) e = omega arith
      few-target at (Ok (targets.Content s start shape pads)) e =
          let slot : ℕ = number m at in
          let first : ℕ = number m (record { segment = s; word = start }) in
          let p : Pointer = pointer_in m at.segment at.word in
          let fits = (inside m at s start pads shape e).1 in
          let a = pad-length slot pads p in
          let b = content-length slot first shape fits in
          let c = extent-price base shape fits in
          let d = few-places (slots s start shape) in
          let x = length-append (pad_run m slot pads p) (content_run slot first shape) in
          let y =
          length-append (pad_run m slot pads p ++ content_run slot first shape) (flat_map g (slots s start shape)) in
          omega arith
      few-target at (Err x) e = omega arith

  module _ (base : ℕ) where
    -- if all visits of a slot pay, they cover the words that the slot and the slots below it cover
    pub same-covers : (d : ℕ) (at : Place) → AllPay (visits m base d at)
        → cover_below m d at ≡ covered m (visits m base d at)
    unfolding visits cover_below
    same-covers zero at h = none (target m at) refl h
      where
        none : (r : Result Target Fault) → target m at ≡ r → AllPay (last_visit m base at r)
            → [] ≡ covered m (last_visit m base at r)
        none (Ok targets.Nil) e h = rw e refl
        none (Ok (targets.Cap k)) e h = rw e refl
        none (Ok (targets.Content s start shape pads)) e h = absurd h
        none (Err x) e h = absurd h
    same-covers (suc d) at h =
        same-target base (visits m base d) (cover_below m d) (same-covers d) at (target m at) refl h

    -- a slot and the slots below it cover at most as many words as their visits pay
    pub few-covers : (d : ℕ) (at : Place) → length (cover_below m d at) ≤ paid_of (visits m base d at)
    unfolding visits cover_below
    few-covers zero at = omega arith
    few-covers (suc d) at = few-target base (visits m base d) (cover_below m d) (few-covers d) at (target m at) refl

    -- if all visits of the walk from the root pay, they are the visits of the root's slot
    root-same : (r : Result Target Fault) (vs : List Visit) → AllPay (visits_at_root m base r vs)
        → visits_at_root m base r vs ≡ vs
    root-same (Ok t) vs h = pick (λ (xs : List Visit). AllPay xs → xs ≡ vs) (may_be_root t) vs
        (fails root faults.RootKind ∷ []) (λ y k. refl) (λ n k. absurd k) h
    root-same (Err x) vs h = refl

    pub from-root : (d : ℕ) → AllPay (root_visits m base d) → root_visits m base d ≡ visits m base d root
    unfolding root_visits
    from-root d h = root-same (target m root) (visits m base d root) h
