-- If a path leads to a slot, `follow` gives that slot. (For `followed`, `held`, `holder_of` and `holders`.)
use Rattle.std.proofs.Common.{◌≡◌, ℕ, zero, suc, ◌+◌, ◌<◌, ◌≤◌, List, [], ◌∷◌, ◌++◌, length, Result, Ok, Err, refl, ap}
use Rattle.std.proofs.Common.{sym, ◌∙◌, arith, append_assoc, length-append, Option, Some, None}
use Rattle.std.proofs.lemmas.List.{append-nil}
use Rattle.std.specs.Prelude.{slice_index, IfSome, IfNone}
use Rattle.capn_words.specs.Message.{segment_at}
use Rattle.capn_words.specs.declared.space.Place.{Place}
use Rattle.capn_target.specs.declared.target.Target.{Target}
use Rattle.capn_target.specs.declared.target.Target.TheVariants as targets
use Rattle.capn_target.specs.declared.target.Shape.{Shape}
use Rattle.capn_target.specs.declared.target.Fault.{Fault}
use Rattle.capn_target.specs.Target.{target, target_of_pointer}
use Rattle.capn_words.specs.Pointers.{pointer_of}
use Rattle.capn_value.specs.Cost.{base}
use Rattle.capn_walk.specs.Visits.{visits_of}
use Rattle.capn_walk.specs.View.{slots_below}
use Rattle.capn_walk.specs.Accepted.{root}
use Rattle.capn_path.specs.declared.holder.Holder.{Holder}
use Rattle.capn_path.specs.declared.holder.Spot.{Spot}
use Rattle.capn_path.specs.Paths.{AreNumbersOf, Leads, Descends}
use Rattle.capn_path.specs.Holders.{IsHeldIn, Holds, IsHolder, IsHolderOrRoot}
use Rattle.capn_path.specs.Laws.{HoldersAreOne}
use Rattle.capn_path.specs.inner.Followed.{step_in, step_by, onward, follow, start, holder_at}
use Rattle.capn_path.proofs.Splits.{none-split}
use Rattle.capn_path.proofs.shared.Steps.{goes}
use Rattle.capn_path.proofs.Holding.{spot, told, Taken, taken, held-one}

module _ (m : List (List ℕ)) where
  at-end : (n : ℕ) (x : Spot) → follow m n x [] ≡ Some x
  at-end zero x = refl
  at-end (suc n) x = refl

  -- ---- a step

  record Step (from : Place) (found : Target) (numbers : List ℕ) (slot : Place) : Type 0 where
    some : 0 < length numbers
    holder : Holder
    held : IsHeldIn found numbers holder
    is : (rest : List ℕ) → step_by (target m from) (numbers ++ rest) ≡ Some (spot holder slot, rest)

  step : (from : Place) (found : Target) (before : List Place) (slot : Place) (behind : List Place)
      (numbers : List ℕ) → target m from ≡ Ok found → slots_below found ≡ before ++ slot ∷ behind
      → AreNumbersOf found (length before) numbers → Step from found numbers slot
  step from (targets.Content s start shape pads) before slot behind numbers names e h =
      let t = told s start pads shape before slot behind numbers e h in
      record {
        some = t.some;
        holder = t.holder;
        held = t.held;
        is = λ rest. ap (λ (found : Result Target Fault). step_by found (numbers ++ rest)) names ∙ t.is rest;
      }
  step from targets.Nil before slot behind numbers names e h = absurd (none-split before slot behind e)
  step from (targets.Cap k) before slot behind numbers names e h = absurd (none-split before slot behind e)

  on-step : (n : ℕ) (here x : Spot) (numbers rest : List ℕ) → 0 < length numbers
      → step_by (target m here.place) (numbers ++ rest) ≡ Some (x, rest)
      → follow m (suc n) here (numbers ++ rest) ≡ follow m n x rest
  on-step n here x [] rest h e = absurd (omega arith)
  on-step n here x (i ∷ numbers) rest h e = ap (onward (follow m n)) e

  -- ---- a loop over the steps

  pub record Onward (r : Option Spot) (x : Spot) (rest : List ℕ) : Type 0 where
    pub steps : ℕ
    pub enough : length rest ≤ steps
    pub same : follow m steps x rest ≡ r

  pub one-more : (n : ℕ) (x y : Spot) (path rest : List ℕ) (r : Option Spot) → follow m n x path ≡ r
      → length path ≤ n → 0 < length path → step_by (target m x.place) path ≡ Some (y, rest)
      → length rest < length path → Onward r y rest
  one-more zero x y path rest r e k some is less = absurd (omega arith)
  one-more (suc n) x y [] rest r e k some is less = absurd (omega arith)
  one-more (suc n) x y (i ∷ path) rest r e k some is less =
      record { steps = n; enough = omega arith; same = sym (ap (onward (follow m n)) is) ∙ e }

  -- ---- if a path leads to a slot, `follow` gives that slot

  record Follows (fuel : ℕ) (here : Spot) (path : List ℕ) (to : Place) (more : List ℕ) : Type 0 where
    x : Spot
    place : x.place ≡ to
    left : ℕ
    enough : length more ≤ left
    is : follow m fuel here (path ++ more) ≡ follow m left x more

  stays : (fuel : ℕ) (here : Spot) (to : Place) (more : List ℕ) → to ≡ here.place → length more ≤ fuel
      → Follows fuel here [] to more
  stays fuel here to more e h = record { x = here; place = sym e; left = fuel; enough = h; is = refl }

  module _ (base d : ℕ) (on : (here : Spot) (path : List ℕ) (to : Place) (n : ℕ) → Leads m base d here.place path to n
      → (fuel : ℕ) (more : List ℕ) → length (path ++ more) ≤ fuel → Follows fuel here path to more) where
    descends : (here : Spot) (path : List ℕ) (to : Place) (n : ℕ)
        → Descends m base d (Leads m base d) here.place path to n
        → (fuel : ℕ) (more : List ℕ) → length (path ++ more) ≤ fuel → 0 < length path → Follows fuel here path to more
    descends here path to n h zero more k some =
        let a = length-append path more in absurd (omega arith)
    descends here path to n h (suc fuel) more k some =
        let st = step here.place h.found h.before h.slot h.behind h.numbers h.names h.slots h.are in
        let parts = ap (λ (w : List ℕ). w ++ more) h.is ∙ append_assoc h.numbers h.rest more in
        let a = ap length parts in
        let b = length-append h.numbers (h.rest ++ more) in
        let c = st.some in
        let r = on (spot st.holder h.slot) h.rest to h.later h.onward fuel more (omega arith) in
        record {
          x = r.x;
          place = r.place;
          left = r.left;
          enough = r.enough;
          is = ap (follow m (suc fuel) here) parts
              ∙ on-step fuel here (spot st.holder h.slot) h.numbers (h.rest ++ more) st.some (st.is (h.rest ++ more))
              ∙ r.is;
        }

  led : (base d : ℕ) (here : Spot) (path : List ℕ) (to : Place) (n : ℕ) → Leads m base d here.place path to n
      → (fuel : ℕ) (more : List ℕ) → length (path ++ more) ≤ fuel → Follows fuel here path to more
  led base zero here [] to n h fuel more k = stays fuel here to more h.0 k
  led base zero here (i ∷ path) to n h fuel more k = absurd h
  led base (suc d) here [] to n h fuel more k = stays fuel here to more h.0 k
  led base (suc d) here (i ∷ path) to n h fuel more k =
      descends base d (λ x w p j l f r e. led base d x w p j l f r e) here (i ∷ path) to n h fuel more k (omega arith)

  last-step : (left : ℕ) (x : Spot) (numbers : List ℕ) (slot : Place) (holder : Holder) → 0 < length numbers
      → length numbers ≤ left
      → ((rest : List ℕ) → step_by (target m x.place) (numbers ++ rest) ≡ Some (spot holder slot, rest))
      → follow m left x numbers ≡ Some (spot holder slot)
  last-step zero x numbers slot holder some enough is = absurd (omega arith)
  last-step (suc left) x numbers slot holder some enough is =
      ap (follow m (suc left) x) (sym (append-nil numbers))
      ∙ on-step left x (spot holder slot) numbers [] some (is [])
      ∙ at-end left (spot holder slot)

  pub holds-followed : (fuel : ℕ) (here : Spot) (path : List ℕ) (to : Place) (holder : Holder)
      → Holds m here.place path to holder → length path ≤ fuel → follow m fuel here path ≡ Some (spot holder to)
  holds-followed fuel here path to holder h k =
      let f = led h.base h.depth here h.front h.from h.between h.leads fuel h.numbers (rw h.is at k) in
      let st = step f.x.place h.found h.before to h.behind h.numbers (rw (sym f.place) at h.names) h.slots h.are in
      let one = held-one h.found h.numbers st.holder holder st.held h.held in
      ap (follow m fuel here) h.is ∙ f.is
      ∙ last-step f.left f.x h.numbers to st.holder st.some f.enough st.is
      ∙ ap (λ (y : Holder). Some (spot y to)) one

  -- ---- if `follow` gives a slot, an object holds that slot

  record Held (here : Spot) (path : List ℕ) (y : Spot) : Type 0 where
    holder : Holder
    is : y.holder ≡ Some holder
    holds : Holds m here.place path y.place holder

  module _ (at : Place) (s from pads : ℕ) (shape : Shape) (names : target m at ≡ Ok (targets.Content s from shape pads))
      (path : List ℕ) (x : Spot) (rest : List ℕ) (t : Taken s from shape pads path x rest) where
    -- Case: the path has one step. This step determines the holder.
    alone : rest ≡ [] → Holds m at path x.place t.holder
    alone e = record {
      base = 0;
      depth = 0;
      front = [];
      from = at;
      between = 0;
      leads = (refl, refl);
      found = targets.Content s from shape pads;
      names = names;
      before = t.before;
      behind = t.behind;
      slots = t.there;
      numbers = t.numbers;
      are = t.are;
      is = t.is ∙ ap (λ (l : List ℕ). t.numbers ++ l) e ∙ append-nil t.numbers;
      held = t.held;
    }

    -- Case: the path has more than one step. The later steps determine the holder.
    before-others : (to : Place) (holder : Holder) → Holds m x.place rest to holder → Holds m at path to holder
    before-others to holder g =
        let between = 1 + length (visits_of m g.base g.depth t.before) + g.between in
        let some = t.some in
        let l = length-append t.numbers g.front in
        record {
          base = g.base;
          depth = suc g.depth;
          front = t.numbers ++ g.front;
          from = g.from;
          between = between;
          leads = goes m g.base g.depth at (t.numbers ++ g.front) g.from between (omega arith) (record {
            found = targets.Content s from shape pads;
            names = names;
            before = t.before;
            slot = x.place;
            behind = t.behind;
            slots = t.there;
            numbers = t.numbers;
            are = t.are;
            rest = g.front;
            is = refl;
            later = g.between;
            onward = g.leads;
            count = refl;
          });
          found = g.found;
          names = g.names;
          before = g.before;
          behind = g.behind;
          slots = g.slots;
          numbers = g.numbers;
          are = g.are;
          is = t.is ∙ ap (λ (l : List ℕ). t.numbers ++ l) g.is ∙ sym (append_assoc t.numbers g.front g.numbers);
          held = g.held;
        }

  some-one : {A : Type 0} (x y : A) → Some x ≡ Some y → x ≡ y
  some-one x y e = cc

  module _ (n : ℕ) (on : (here : Spot) (path : List ℕ) (y : Spot) → follow m n here path ≡ Some y → length path ≤ n
      → 0 < length path → Held here path y) (here : Spot) (path : List ℕ) (y : Spot) (k : length path ≤ suc n) where
    by-rest : (s from pads : ℕ) (shape : Shape) → target m here.place ≡ Ok (targets.Content s from shape pads)
        → (x : Spot) (rest : List ℕ) → Taken s from shape pads path x rest → follow m n x rest ≡ Some y
        → Held here path y
    by-rest s from pads shape names x [] t e =
        let same = some-one x y (sym (at-end n x) ∙ e) in
        record {
          holder = t.holder;
          is = ap (λ (z : Spot). z.holder) (sym same) ∙ t.holds;
          holds = rw (ap (λ (z : Spot). z.place) same)
              at (alone here.place s from pads shape names path x [] t refl);
        }
    by-rest s from pads shape names x (j ∷ rest) t e =
        let a = ap length t.is in
        let b = length-append t.numbers (j ∷ rest) in
        let c = t.some in
        let g = on x (j ∷ rest) y e (omega arith) (omega arith) in
        record {
          holder = g.holder;
          is = g.is;
          holds = before-others here.place s from pads shape names path x (j ∷ rest) t y.place g.holder g.holds;
        }

    by-step : (s from pads : ℕ) (shape : Shape) → target m here.place ≡ Ok (targets.Content s from shape pads)
        → (o : Option (Spot × List ℕ)) → step_in s from shape path ≡ o → onward (follow m n) o ≡ Some y
        → Held here path y
    by-step s from pads shape names None is e = absurd (cc)
    by-step s from pads shape names (Some p) is e =
        by-rest s from pads shape names p.0 p.1 (taken s from pads shape path p.0 p.1 is) e

    by-found : (found : Result Target Fault) → target m here.place ≡ found
        → onward (follow m n) (step_by found path) ≡ Some y → Held here path y
    by-found (Ok (targets.Content s from shape pads)) names e =
        by-step s from pads shape names (step_in s from shape path) refl e
    by-found (Ok targets.Nil) names e = absurd (cc)
    by-found (Ok (targets.Cap i)) names e = absurd (cc)
    by-found (Err f) names e = absurd (cc)

  followed-holds : (n : ℕ) (here : Spot) (path : List ℕ) (y : Spot) → follow m n here path ≡ Some y → length path ≤ n
      → 0 < length path → Held here path y
  followed-holds zero here path y e k some = absurd (omega arith)
  followed-holds (suc n) here [] y e k some = absurd (omega arith)
  followed-holds (suc n) here (i ∷ path) y e k some =
      by-found n (λ x w z f l h. followed-holds n x w z f l h) here (i ∷ path) y k (target m here.place) refl e

  -- ---- the result for a path from the root

  abbrev answer : List ℕ → Option Holder
  answer path = holder_at (follow m (length path) start path)

  by-answer : (path : List ℕ) (holder : Holder) (o : Option Spot) → follow m (length path) start path ≡ o
      → holder_at o ≡ Some holder → (to : Place) × IsHolder m path to holder
  by-answer [] holder o is e = absurd (let f = ap holder_at is ∙ e in cc)
  by-answer (i ∷ path) holder None is e = absurd (cc)
  by-answer (i ∷ path) holder (Some y) is e =
      let h = followed-holds (length (i ∷ path)) start (i ∷ path) y is (omega arith) (omega arith) in
      let same = some-one h.holder holder (sym h.is ∙ e) in
      (y.place, rw same at h.holds)

  pub some-holds : (path : List ℕ) (holder : Holder) → answer path ≡ Some holder
      → (to : Place) × IsHolder m path to holder
  some-holds path holder e = by-answer path holder (follow m (length path) start path) refl e

  pub none-holds : (path : List ℕ) → answer path ≡ None → (to : Place) (holder : Holder) → IsHolder m path to holder → ⊥
  none-holds path e to holder h =
      let f = ap holder_at (holds-followed (length path) start path to holder h (omega arith)) in cc

  pub leads-holds : (base d : ℕ) (path : List ℕ) (to : Place) (n : ℕ) → Leads m base d root path to n
      → (r : Option Holder) → answer path ≡ r → IsHolderOrRoot m path to r
  leads-holds base d [] to n h None e = refl
  leads-holds base d [] to n h (Some holder) e = absurd (cc)
  leads-holds base d (i ∷ path) to n h r e =
      let f = led base d start (i ∷ path) to n h (length (i ∷ path)) [] (rw (append-nil path) (omega arith)) in
      let there : follow m (length (i ∷ path)) start (i ∷ path) ≡ Some f.x =
      ap (follow m (length (i ∷ path)) start) (sym (append-nil (i ∷ path))) ∙ f.is ∙ at-end f.left f.x in
      let g = followed-holds (length (i ∷ path)) start (i ∷ path) f.x there (omega arith) (omega arith) in
      let is : r ≡ Some g.holder = sym e ∙ ap holder_at there ∙ g.is in
      rw is (rw f.place at g.holds)

  pub if-some : (path : List ℕ) (r : Option Holder) → r ≡ answer path
      → IfSome r (λ holder. (to : Place) × IsHolder m path to holder)
  if-some path (Some holder) e = some-holds path holder (sym e)
  if-some path None e = tt

  pub if-none : (path : List ℕ) (r : Option Holder) → r ≡ answer path
      → IfNone r ((to : Place) (holder : Holder) → IsHolder m path to holder → ⊥)
  if-none path (Some holder) e = tt
  if-none path None e = none-holds path (sym e)

  pub no-root : (path : List ℕ) (n : ℕ) → target m root ≡ Ok targets.Nil → holder_at (follow m n start path) ≡ None
  no-root path zero e = refl
  no-root [] (suc n) e = refl
  no-root (i ∷ path) (suc n) e =
      ap (λ (found : Result Target Fault). holder_at (onward (follow m n) (step_by found (i ∷ path)))) e

  -- at most one slot, and at most one holder of that slot, belong to `path` (`IsHolder`)
  pub one-holder : (path : List ℕ) (to at : Place) (holder other : Holder) → IsHolder m path to holder
      → IsHolder m path at other → (other ≡ holder) × (at ≡ to)
  one-holder path to at holder other h g =
      let k = length path in
      let same = some-one (spot holder to) (spot other at)
      (sym (holds-followed k start path to holder h (omega arith))
      ∙ holds-followed k start path at other g (omega arith)) in
      let held = ap (λ (x : Spot). x.holder) same in
      (some-one other holder (sym held), ap (λ (x : Spot). x.place) (sym same))

first-word : (ws : List ℕ) → length ws ≡ 0 → slice_index ws 0 ≡ 0
first-word [] e = refl
first-word (w ∷ ws) e = absurd (omega arith)

pub rootless : (m : List (List ℕ)) → length (segment_at m 0) ≡ 0 → target m root ≡ Ok targets.Nil
unfolding target pointer_of
rootless m e = ap (λ (w : ℕ). target_of_pointer m 0 0 (pointer_of w)) (first-word (segment_at m 0) e)

-- ---- the law

by-held : (m : List (List ℕ)) (path : List ℕ) (to : Place) (r : Option Holder) → IsHolderOrRoot m path to r
    → 0 < length path → (holder : Holder) × IsHolder m path to holder
by-held m path to None h some = let e = ap length h in absurd (omega arith)
by-held m path to (Some holder) h some = (holder, h)

pub holders-are-one : HoldersAreOne
holders-are-one m limits number path to h some =
    let x = by-held m path to (holder_at (follow m (length path) start path))
    (leads-holds m (base limits.tariff) limits.depth path to number h _ refl) some in
    (x.0, x.1, λ other at g. one-holder m path to at x.0 other x.1 g)
