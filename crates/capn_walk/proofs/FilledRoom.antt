-- The visits and the entries of slots that are indexed one after another. (For the cycle `index_slots`.)
use Rattle.std.proofs.Common.{◌≡◌, ◌≢◌, ◌⊎◌, inl, inr, ℕ, zero, suc, ◌+◌, ◌-◌, ◌<◌, ◌≤◌, List, [], ◌∷◌, ◌++◌, length}
use Rattle.std.proofs.Common.{set, Result, Ok, Err, refl, ap, ap₂, sym, ◌∙◌, arith, length-append}
use Rattle.std.specs.List.{flat_map}
use Rattle.std.proofs.lemmas.List.{set-set, set_comm}
use Rattle.capn_words.specs.declared.space.Place.{Place}
use Rattle.capn_walk.specs.declared.entry.Entry.{Entry}
use Rattle.capn_target.specs.declared.target.Target.{Target}
use Rattle.capn_target.specs.declared.target.Target.TheVariants as targets
use Rattle.capn_target.specs.declared.target.Shape.TheVariants as shapes
use Rattle.capn_target.specs.declared.target.Fault.{Fault}
use Rattle.capn_target.specs.declared.target.Fault.TheVariants as faults
use Rattle.capn_walk.specs.declared.walk_answer.Stopped.{Stopped}
use Rattle.capn_target.specs.Target.{target}
use Rattle.capn_walk.specs.Visits.{Visit, pays, slots, visits, visit, last_visit}
use Rattle.capn_walk.specs.inner.Verdict.{Gives, Refuses, accepted, refused, after, judge}
use Rattle.capn_walk.specs.View.{slots_below}
use Rattle.capn_walk.specs.Index.{entry_of, entered, entries_by, entries, entries_of}
use Rattle.capn_walk.specs.inner.IndexRoom.{laid, IsLaid}
use Rattle.capn_walk.proofs.shared.Judge.{judge-more, judge-stops, judge-pays, after-after}

-- ---- a room

pub laid-append : {A : Type 0} (f : Entry → A) (i : ℕ) (xs ys : List Entry) (room : List A)
    → laid f i (xs ++ ys) room ≡ laid f (i + length xs) ys (laid f i xs room)
laid-append f i [] ys room = let z : i + 0 ≡ i = omega arith in rw z refl
laid-append f i (x ∷ xs) ys room =
    let e : i + suc (length xs) ≡ suc i + length xs = omega arith in
    rw e (laid-append f (suc i) xs ys (set room i (f x)))

set-laid : {A : Type 0} (f : Entry → A) (es : List Entry) (i k : ℕ) (a : A) (room : List A) → k < i
    → set (laid f i es room) k a ≡ laid f i es (set room k a)
set-laid f [] i k a room h = refl
set-laid f (x ∷ es) i k a room h =
    let other : i ≢ k = omega arith in
    set-laid f es (suc i) k a (set room i (f x)) (omega arith)
    ∙ ap (laid f (suc i) es) (set_comm room i k (f x) a other)

respanned : (t : Target) (k n : ℕ) → record (entry_of t k) { span = n } ≡ entry_of t n
respanned targets.Nil k n = refl
respanned (targets.Cap c) k n = refl
respanned (targets.Content s start (shapes.Node a b) pads) k n = refl
respanned (targets.Content s start (shapes.Many width c) pads) k n = refl
respanned (targets.Content s start (shapes.Rows c a b span) pads) k n = refl

module _ {A : Type 0} (f : Entry → A) (es : List Entry) (i : ℕ) (room : List A) (x : A) where
  put-again : (y : A) → set (laid f (i + 1) es (set room i x)) i y ≡ laid f (suc i) es (set room i y)
  put-again y =
      let s : i + 1 ≡ suc i = omega arith in
      ap (λ (c : ℕ). set (laid f c es (set room i x)) i y) s
      ∙ set-laid f es (suc i) i y (set room i x) (omega arith)
      ∙ ap (laid f (suc i) es) (set-set room i x y)

  pub still-there : laid f (i + 1) es (set room i x) ≡ set (laid f (i + 1) es (set room i x)) i x
  still-there =
      let s : i + 1 ≡ suc i = omega arith in
      ap (λ (c : ℕ). laid f c es (set room i x)) s ∙ sym (put-again x)

-- ---- the entries of a slot, given its target

abbrev nothing : Place → List Entry
nothing p = []

none-of : (ps : List Place) → flat_map nothing ps ≡ []
none-of [] = refl
none-of (p ∷ ps) = none-of ps

module _ (m : List (List ℕ)) where
  pub entries-leaf : (d : ℕ) (at : Place) (t : Target) → target m at ≡ Ok t → slots_below t ≡ []
      → entries m d at ≡ entry_of t 1 ∷ []
  unfolding entries
  entries-leaf zero at t e z =
      ap (entries_by m nothing) e ∙ ap (λ (es : List Entry). entered t es) (none-of (slots_below t))
  entries-leaf (suc d) at t e z = ap (entries_by m (entries m d)) e
      ∙ ap (λ (ps : List Place). entered t (flat_map (entries m d) ps)) z

  pub entries-object : (d : ℕ) (at : Place) (t : Target) → target m at ≡ Ok t → 0 < d
      → entries m d at ≡ entered t (entries_of m (d - 1) (slots_below t))
  unfolding entries
  entries-object zero at t e h = absurd (omega arith)
  entries-object (suc d) at t e h =
      let f : suc d - 1 ≡ d = omega arith in
      ap (entries_by m (entries m d)) e ∙ ap (λ (c : ℕ). entered t (entries_of m c (slots_below t))) (sym f)

  -- ---- as many entries as visits

  same-lengths : (f : Place → List Entry) (g : Place → List Visit) → ((p : Place) → length (f p) ≡ length (g p))
      → (ps : List Place) → length (flat_map f ps) ≡ length (flat_map g ps)
  same-lengths f g h [] = refl
  same-lengths f g h (p ∷ ps) =
      length-append (f p) (flat_map f ps) ∙ ap₂ (λ (a b : ℕ). a + b) (h p) (same-lengths f g h ps)
      ∙ sym (length-append (g p) (flat_map g ps))

  module _ (base : ℕ) where
    one-last : (at : Place) (r : Result Target Fault)
        → length (entries_by m nothing r) ≡ length (last_visit m base at r)
    one-last at (Ok targets.Nil) = refl
    one-last at (Ok (targets.Cap k)) = refl
    one-last at (Ok (targets.Content s start shape pads)) =
        ap (λ (es : List Entry). suc (length es)) (none-of (slots s start shape))
    one-last at (Err e) = refl

    as-many-by : (f : Place → List Entry) (g : Place → List Visit) → ((p : Place) → length (f p) ≡ length (g p))
        → (at : Place) (r : Result Target Fault) → length (entries_by m f r) ≡ length (visit m base g at r)
    as-many-by f g h at (Ok targets.Nil) = refl
    as-many-by f g h at (Ok (targets.Cap k)) = refl
    as-many-by f g h at (Ok (targets.Content s start shape pads)) = ap suc (same-lengths f g h (slots s start shape))
    as-many-by f g h at (Err e) = refl

    pub as-many-entries : (d : ℕ) (at : Place) → length (entries m d at) ≡ length (visits m base d at)
    unfolding entries visits
    as-many-entries zero at = one-last at (target m at)
    as-many-entries (suc d) at = as-many-by (entries m d) (visits m base d) (as-many-entries d) at (target m at)

-- ---- a list of visits, of which some are made and the others are to come

module _ (left : ℕ) (vs : List Visit) (n : ℕ) where
  pub record IsOnWay (coming : List Visit) (owed paid visits : ℕ) : Type 0 where
    pub is : judge left vs ≡ after paid visits (judge (left - paid) coming)
    pub within : paid ≤ left
    pub few : visits + owed ≤ paid + n

  way-next : (here rest : List Visit) (o p k q j : ℕ) → IsOnWay (here ++ rest) (o + 1) p k
      → Gives (left - p) here 1 q j → IsOnWay rest o (p + q) (k + j)
  way-next here rest o p k q j u g =
      let z : left - p - q ≡ left - (p + q) = omega arith in
      record {
        is = u.is ∙ ap (after p k) (judge-more (left - p) here rest q j g.is)
            ∙ after-after p k q j (judge (left - p - q) rest)
            ∙ ap (λ (c : ℕ). after (p + q) (k + j) (judge c rest)) z;
        within = let a = u.within in let b = g.within in omega arith;
        few = let a = u.few in let b = g.few in omega arith;
      }

  pub way-takes : (whole here rest : List Visit) (owes o p k q j : ℕ) → whole ≡ here ++ rest → owes ≡ o + 1
      → IsOnWay whole owes p k → Gives (left - p) here 1 q j → IsOnWay rest o (p + q) (k + j)
  way-takes whole here rest owes o p k q j e f u g =
      let v = rw (e, f) at u in
      way-next here rest o p k q j v g

  way-stops : (here rest : List Visit) (o p k : ℕ) (t : Stopped) → IsOnWay (here ++ rest) (o + 1) p k
      → Refuses (left - p) here 1 t
      → Refuses left vs n (record { fault = t.fault; place = t.place; paid = p + t.paid; visits = k + t.visits })
  way-stops here rest o p k t u r = record {
    is = elim r.is as (λ _. (t.fault ≡ faults.Memory)
        ⊎ (judge left vs ≡ refused t.fault t.place (p + t.paid) (k + t.visits))) [
          | inl x ↦ inl x
          | inr is ↦ inr (u.is ∙ ap (after p k) (judge-stops (left - p) here rest t.fault t.place t.paid t.visits is))
        ];
    within = let a = u.within in let b = r.within in omega arith;
    few = let a = u.few in let b = r.few in omega arith;
  }

  pub way-refuses : (whole here rest : List Visit) (owes o p k : ℕ) (t : Stopped) → whole ≡ here ++ rest
      → owes ≡ o + 1 → IsOnWay whole owes p k → Refuses (left - p) here 1 t
      → Refuses left vs n (record { fault = t.fault; place = t.place; paid = p + t.paid; visits = k + t.visits })
  way-refuses whole here rest owes o p k t e f u r =
      let v = rw (e, f) at u in
      way-stops here rest o p k t v r

-- ---- an object

module _ (left p : ℕ) (at : Place) (vs : List Visit) (n : ℕ) (fits : p ≤ left) (few : n ≤ p) where
  pub object-gives : (q j : ℕ) → Gives (left - p) vs n q j → Gives left (pays at p ∷ vs) 1 (p + q) (1 + j)
  object-gives q j g = record {
    is = judge-pays left p at vs fits ∙ ap (after p 1) g.is;
    within = let a = g.within in omega arith;
    few = let a = g.few in omega arith;
  }

  pub object-refuses : (t : Stopped) → Refuses (left - p) vs n t
      → Refuses left (pays at p ∷ vs) 1 (record t { paid = p + t.paid; visits = 1 + t.visits })
  object-refuses t r = record {
    is = elim r.is as (λ _. (t.fault ≡ faults.Memory)
        ⊎ (judge left (pays at p ∷ vs) ≡ refused t.fault t.place (p + t.paid) (1 + t.visits))) [
          | inl x ↦ inl x
          | inr is ↦ inr (judge-pays left p at vs fits ∙ ap (after p 1) is)
        ];
    within = let a = r.within in omega arith;
    few = let a = r.few in omega arith;
  }

pub leaf-gives : (left p : ℕ) (at : Place) → p ≤ left → Gives left (pays at p ∷ []) 1 p 1
leaf-gives left p at fits =
    let z : p + 0 ≡ p = omega arith in
    record {
      is = judge-pays left p at [] fits ∙ ap (λ (c : ℕ). accepted c 1) z;
      within = fits;
      few = omega arith;
    }

-- ---- a list of entries: `here` are written, and `rest` are to come

module _ {A : Type 0} (f : Entry → A) (whole here rest : List Entry) (e : whole ≡ here ++ rest) (i k j : ℕ)
    (old new : List A) (h : IsLaid f here (i + k) old new j) where
  pub room-takes : laid f (i + k) whole old ≡ laid f (i + (k + j)) rest new
  room-takes =
      let c = h.count in
      let n : i + k + length here ≡ i + (k + j) = omega arith in
      ap (λ (es : List Entry). laid f (i + k) es old) e ∙ laid-append f (i + k) here rest old
      ∙ ap₂ (λ (x : ℕ) (r : List A). laid f x rest r) n (sym h.is)

  pub count-takes : (all : ℕ) → all ≡ k + length whole → all ≡ k + j + length rest
  count-takes all a =
      let c = h.count in
      let n = ap length e ∙ length-append here rest in
      omega arith

-- once an object's entry and the entries `below` are written, and the span of the object's entry is set, the entries
-- `es` are written
module _ {A : Type 0} (f : Entry → A) (es : List Entry) (t : Target) (below : List Entry) (e : es ≡ entered t below)
    (i j : ℕ) (old first mid new : List A) (q : first ≡ set old i (f (entry_of t 1)))
    (h : IsLaid f below (i + 1) first mid j)
    (p : (x : Entry) → mid ≡ set mid i (f x) → new ≡ set mid i (f (record x { span = 1 + j }))) where
  pub object-laid : IsLaid f es i old new (1 + j)
  object-laid =
      let c = h.count in
      let one = entry_of t 1 in
      let laid_there : mid ≡ laid f (i + 1) below (set old i (f one)) = h.is ∙ ap (laid f (i + 1) below) q in
      record {
        is = p one (rw laid_there (still-there f below i old (f one)))
            ∙ ap (λ (r : List A). set r i (f (record one { span = 1 + j }))) laid_there
            ∙ put-again f below i old (f one) (f (record one { span = 1 + j }))
            ∙ ap (λ (x : Entry). laid f i (x ∷ below) old) (respanned t 1 (1 + j))
            ∙ ap (λ (n : ℕ). laid f i (entry_of t (1 + n) ∷ below) old) (sym c)
            ∙ ap (λ (xs : List Entry). laid f i xs old) (sym e);
        count = let n : length es ≡ suc (length below) = ap length e in omega arith;
      }
