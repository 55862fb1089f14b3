-- The state of a survey between two visits. (For the cycle `index_slots` and `survey_in_room`.)
use Rattle.std.proofs.Common.{◌*◌, ◌≡◌, inr, ℕ, ◌+◌, ◌-◌, ◌<◌, ◌≤◌, List, [], ◌∷◌, ◌++◌, length, Option, Some, None}
use Rattle.std.proofs.Common.{Ok, refl, ap, sym, ◌∙◌, arith}
use Rattle.std.proofs.lemmas.List.{append-nil}
use Rattle.std.proofs.Common.{append_assoc, length-append}
use Rattle.std.specs.Option.{option_or}
use Rattle.capn_words.specs.declared.space.Place.{Place}
use Rattle.capn_target.specs.declared.target.Target.TheVariants as targets
use Rattle.capn_target.specs.declared.target.Fault.{Fault}
use Rattle.capn_walk.specs.declared.slots_left.SlotsLeft.{SlotsLeft}
use Rattle.capn_walk.specs.declared.slots_left.Waiting.{Waiting}
use Rattle.capn_words.specs.Message.{word_at}
use Rattle.capn_words.specs.Pointers.{pointer_of}
use Rattle.capn_words.specs.declared.pointer.Pointer.TheVariants.{Nil}
use Rattle.capn_walk.proofs.shared.Walks.{visits-null}
use Rattle.capn_target.specs.Target.{target_of_pointer, target}
use Rattle.capn_walk.specs.Visits.{Visit, pays, visits, visits_of}
use Rattle.capn_walk.specs.inner.Verdict.{refused, after, judge}
use Rattle.capn_walk.specs.inner.SlotsLeft.{places_of, owed, owed_by, Lies, AllLie, AreShallow, visits_left}
use Rattle.capn_walk.specs.Surveyed.{cap_of, first_cap_of}
use Rattle.capn_walk.specs.inner.Verdict.{Refuses}
use Rattle.capn_walk.specs.inner.SlotsLeft.{HasRows}
use Rattle.capn_walk.proofs.OwedSlots.{nothing-left}
use Rattle.capn_walk.proofs.shared.Judge.{judge-stops, judge-pays, after-after}

option_or-assoc : (a b c : Option ℕ) → option_or a (option_or b c) ≡ option_or (option_or a b) c
option_or-assoc None b c = refl
option_or-assoc (Some k) b c = refl

pub option_or-none : (a : Option ℕ) → option_or a None ≡ a
option_or-none None = refl
option_or-none (Some k) = refl

-- ---- a stack of objects that wait

module _ (m : List (List ℕ)) where
  pub all_lie-push : (ws : List Waiting) (w : Waiting) → AllLie m ws → Lies m w.frame → AllLie m (ws ++ w ∷ [])
  all_lie-push [] w a h = (h, tt)
  all_lie-push (g ∷ ws) w a h = (a.0, all_lie-push ws w a.1 h)

  pub all_lie-pop : (ws : List Waiting) (w : Waiting) → AllLie m (ws ++ w ∷ []) → AllLie m ws × Lies m w.frame
  all_lie-pop [] w a = (tt, a.0)
  all_lie-pop (g ∷ ws) w a = let r = all_lie-pop ws w a.1 in ((a.0, r.0), r.1)

  pub owed_by-push : (ws : List Waiting) (w : Waiting) → owed_by (ws ++ w ∷ []) ≡ owed w.frame + owed_by ws
  owed_by-push [] w = refl
  owed_by-push (g ∷ ws) w = let e = owed_by-push ws w in omega arith

  pub shallow-push : (limit : ℕ) (ws : List Waiting) (w : Waiting) → AreShallow limit ws → w.depth + length ws ≤ limit →
      AreShallow limit (ws ++ w ∷ [])
  shallow-push limit [] w a h = (omega arith, tt)
  shallow-push limit (g ∷ ws) w a h = (a.0, shallow-push (limit - 1) ws w a.1 (omega arith))

  pub shallow-pop : (limit : ℕ) (ws : List Waiting) (w : Waiting) → AreShallow limit (ws ++ w ∷ []) →
      AreShallow limit ws × (w.depth ≤ limit - length ws)
  shallow-pop limit [] w a = (tt, omega arith)
  shallow-pop limit (g ∷ ws) w a =
      let r = shallow-pop (limit - 1) ws w a.1 in
      let h = r.1 in
      ((a.0, r.0), omega arith)

  pub left-push : (base : ℕ) (ws : List Waiting) (w : Waiting) →
      visits_left m base (ws ++ w ∷ []) ≡ visits_of m base w.depth (places_of w.frame) ++ visits_left m base ws
  left-push base [] w = sym (append-nil (visits_of m base w.depth (places_of w.frame)))
  left-push base (g ∷ ws) w =
      ap (λ (vs : List Visit). vs ++ visits_of m base g.depth (places_of g.frame)) (left-push base ws w)
      ∙ rw append_assoc refl

-- ---- a survey makes the visits `vs`: some are made, and `coming` are to come

module _ (m : List (List ℕ)) (budget : ℕ) (vs : List Visit) (n : ℕ) where
  pub record IsUnderWay (coming : List Visit) (owed paid visits : ℕ) (cap : Option ℕ) : Type 0 where
    pub is : judge budget vs ≡ after paid visits (judge (budget - paid) coming)
    pub within : paid ≤ budget
    pub few : visits + owed ≤ paid + n
    pub first : first_cap_of m vs ≡ option_or cap (first_cap_of m coming)

  pub goes-on : (at : Place) (p : ℕ) (below rest : List Visit) (o b paid visits : ℕ) (cap k : Option ℕ) →
      IsUnderWay (pays at p ∷ (below ++ rest)) (o + 1) paid visits cap → p ≤ budget - paid → b ≤ p
      → cap_of (target m at) ≡ k →
      IsUnderWay (below ++ rest) (b + o) (paid + p) (visits + 1) (option_or cap k)
  goes-on at p below rest o b paid visits cap k u fits few e = record {
    is =
        let one = judge-pays (budget - paid) p at (below ++ rest) fits in
        let two = after-after paid visits p 1 (judge (budget - paid - p) (below ++ rest)) in
        let z : budget - paid - p ≡ budget - (paid + p) = omega arith in
        u.is ∙ ap (after paid visits) one ∙ two
        ∙ ap (λ (c : ℕ). after (paid + p) (visits + 1) (judge c (below ++ rest))) z;
    within = let a = u.within in omega arith;
    few = let a = u.few in omega arith;
    first = u.first ∙ ap (λ (x : Option ℕ). option_or cap (option_or x (first_cap_of m (below ++ rest)))) e
        ∙ option_or-assoc cap k (first_cap_of m (below ++ rest));
  }

  pub stops : (here rest : List Visit) (o paid visits : ℕ) (cap : Option ℕ) (e : Fault) (at : Place) →
      IsUnderWay (here ++ rest) o paid visits cap → judge (budget - paid) here ≡ refused e at 0 1 →
      judge budget vs ≡ refused e at paid (visits + 1)
  stops here rest o paid visits cap e at u h =
      let z : paid + 0 ≡ paid = omega arith in
      u.is ∙ ap (after paid visits) (judge-stops (budget - paid) here rest e at 0 1 h)
      ∙ ap (λ (c : ℕ). refused e at c (visits + 1)) z

-- ---- a survey with a current object, and a stack of objects that wait

abbrev pub no_frame : SlotsLeft
no_frame = record { segment = 0; next = 0; left = 0; rows = 0; words = 0; slots = 0 }

null_pointer : pointer_of 0 ≡ Nil
unfolding pointer_of
null_pointer = refl

pub null-target : (m : List (List ℕ)) (at : Place) → word_at m at ≡ 0 → target m at ≡ Ok targets.Nil
unfolding target
null-target m at h = ap (λ (w : ℕ). target_of_pointer m at.segment at.word (pointer_of w)) h
    ∙ ap (target_of_pointer m at.segment at.word) null_pointer

module _ (m : List (List ℕ)) (base : ℕ) where
  -- the visits to come: first those of the current object `f`, then those of the objects `ws` that wait
  abbrev pub coming : ℕ → List Waiting → SlotsLeft → List Visit
  coming d ws f = visits_of m base d (places_of f) ++ visits_left m base ws

  pub coming-done : (d : ℕ) (ws : List Waiting) (f : SlotsLeft) → HasRows f → owed f ≡ 0
      → coming d ws f ≡ visits_left m base ws
  coming-done d ws f h e = ap (λ (ps : List Place). visits_of m base d ps ++ visits_left m base ws) (nothing-left f h e)

  pub coming-take : (d : ℕ) (ws : List Waiting) (f rest below : SlotsLeft) (at : Place) (p : ℕ)
      → places_of f ≡ at ∷ places_of rest →
      visits m base d at ≡ pays at p ∷ visits_of m base (d - 1) (places_of below) →
      coming d ws f ≡ pays at p ∷ (visits_of m base (d - 1) (places_of below) ++ coming d ws rest)
  coming-take d ws f rest below at p h e = rw (h, e) (rw append_assoc refl)

  pub coming-stop : (d : ℕ) (ws : List Waiting) (f rest : SlotsLeft) (at : Place) → places_of f ≡ at ∷ places_of rest →
      coming d ws f ≡ visits m base d at ++ coming d ws rest
  coming-stop d ws f rest at h = rw h (rw append_assoc refl)

  pub coming-leaf : (d : ℕ) (ws : List Waiting) (rest below : SlotsLeft) → HasRows below → owed below ≡ 0 →
      visits_of m base (d - 1) (places_of below) ++ coming d ws rest ≡ coming d ws rest
  coming-leaf d ws rest below h e =
      ap (λ (ps : List Place). visits_of m base (d - 1) ps ++ coming d ws rest) (nothing-left below h e)

  -- `new` is the stack `ws` with the remaining slots `rest` of the current object pushed. If `rest` has no slots, `new`
  -- may also be `ws` itself.
  pub data IsKept (d : ℕ) (ws : List Waiting) (rest : SlotsLeft) (new : List Waiting) : Type 0 where
    dropped : owed rest ≡ 0 → new ≡ ws → IsKept d ws rest new
    kept : new ≡ ws ++ record { frame = rest; depth = d } ∷ [] → IsKept d ws rest new

  pub coming-kept : (d : ℕ) (ws : List Waiting) (rest below : SlotsLeft) (new : List Waiting) → HasRows rest
      → IsKept d ws rest new →
      visits_of m base (d - 1) (places_of below) ++ coming d ws rest ≡ coming (d - 1) new below
  coming-kept d ws rest below new h (dropped z e) =
      ap (λ (vs : List Visit). visits_of m base (d - 1) (places_of below) ++ vs) (coming-done d ws rest h z
      ∙ sym (ap (visits_left m base) e))
  coming-kept d ws rest below new h (kept e) =
      ap (λ (vs : List Visit). visits_of m base (d - 1) (places_of below) ++ vs)
      (sym (left-push m base ws (record { frame = rest; depth = d })) ∙ sym (ap (visits_left m base) e))

  owed-kept : (d : ℕ) (ws : List Waiting) (rest : SlotsLeft) (new : List Waiting) → IsKept d ws rest new
      → owed rest + owed_by ws ≡ owed_by new
  owed-kept d ws rest new (dropped z e) = let k = ap owed_by e in omega arith
  owed-kept d ws rest new (kept e) =
      sym (owed_by-push m ws (record { frame = rest; depth = d })) ∙ sym (ap owed_by e)

  lie-kept : (d : ℕ) (ws : List Waiting) (rest : SlotsLeft) (new : List Waiting) → IsKept d ws rest new → AllLie m ws
      → Lies m rest → AllLie m new
  lie-kept d ws rest new (dropped z e) a l = rw e a
  lie-kept d ws rest new (kept e) a l = rw e (all_lie-push m ws (record { frame = rest; depth = d }) a l)

  pub length-kept : (d : ℕ) (ws : List Waiting) (rest : SlotsLeft) (new : List Waiting) → IsKept d ws rest new
      → length new ≤ length ws + 1
  length-kept d ws rest new (dropped z e) = let k = ap length e in omega arith
  length-kept d ws rest new (kept e) =
      let k = ap length e ∙ length-append ws (record { frame = rest; depth = d } ∷ []) in omega arith

  pub length-popped : (old ws : List Waiting) (w : Waiting) → old ≡ ws ++ w ∷ [] → length old ≡ length ws + 1
  length-popped old ws w e = ap length e ∙ length-append ws (w ∷ [])

  shallow-kept : (limit d : ℕ) (ws : List Waiting) (rest : SlotsLeft) (new : List Waiting) → IsKept d ws rest new
      → AreShallow limit ws →
      d + length ws ≤ limit → AreShallow limit new × (length new ≤ length ws + 1)
  shallow-kept limit d ws rest new (dropped z e) a l = (rw e a, let k = ap length e in omega arith)
  shallow-kept limit d ws rest new (kept e) a l =
      let w : Waiting = record { frame = rest; depth = d } in
      let k = ap length e ∙ length-append ws (w ∷ []) in
      (rw e (shallow-push m limit ws w a l), omega arith)

  module _ (budget : ℕ) (vs : List Visit) (n limit : ℕ) where
    pub record Surveys (d : ℕ) (ws : List Waiting) (f : SlotsLeft) (paid visits : ℕ) (cap : Option ℕ) : Type 0 where
      pub under : IsUnderWay m budget vs n (coming d ws f) (owed f + owed_by ws) paid visits cap
      pub lies : Lies m f
      pub all : AllLie m ws
      pub shallow : AreShallow limit ws
      pub depth : d + length ws ≤ limit

    -- Case: the current object has no slot left, and the last object of the stack is popped.
    pub popped : (d : ℕ) (old ws : List Waiting) (f : SlotsLeft) (w : Waiting) (paid visits : ℕ) (cap : Option ℕ)
        → old ≡ ws ++ w ∷ [] → owed f ≡ 0 →
        Surveys d old f paid visits cap → Surveys w.depth ws w.frame paid visits cap
    popped d old ws f w paid visits cap e z s =
        let p : Surveys d (ws ++ w ∷ []) f paid visits cap = rw (← e) s in
        let a = all_lie-pop m ws w p.all in
        let b = shallow-pop m limit ws w p.shallow in
        let k = length-append ws (w ∷ []) in
        let h = p.depth in
        let low = b.1 in
        let o = owed_by-push m ws w in
        let c = coming-done d (ws ++ w ∷ []) f p.lies.rows z ∙ left-push m base ws w in
        let owes : owed f + owed_by (ws ++ w ∷ []) ≡ owed w.frame + owed_by ws = omega arith in
        record {
          under = rw (← c, ← owes) p.under;
          lies = a.1;
          all = a.0;
          shallow = b.0;
          depth = omega arith;
        }

    -- Case: the next row of the object becomes the current row.
    pub next-row : (d : ℕ) (ws : List Waiting) (f row : SlotsLeft) (paid visits : ℕ) (cap : Option ℕ)
        → places_of row ≡ places_of f → owed row ≡ owed f →
        Lies m row → Surveys d ws f paid visits cap → Surveys d ws row paid visits cap
    next-row d ws f row paid visits cap p o l s = record {
      under = rw (p, o) s.under;
      lies = l;
      all = s.all;
      shallow = s.shallow;
      depth = s.depth;
    }

    pub fewer-rows : (d : ℕ) (ws : List Waiting) (f row : SlotsLeft) → places_of row ≡ places_of f → f.left ≡ 0
        → 0 < row.left →
        3 * length (coming d ws row) + length ws + (1 - row.left) < 3 * length (coming d ws f) + length ws
        + (1 - f.left)
    fewer-rows d ws f row p z h =
        let n = ap (λ (ps : List Place). length (visits_of m base d ps ++ visits_left m base ws)) p in
        omega arith

    module _ (d : ℕ) (ws : List Waiting) (f rest : SlotsLeft) (at : Place) (paid made : ℕ) (cap : Option ℕ)
        (s : Surveys d ws f paid made cap) (next : places_of f ≡ at ∷ places_of rest) (less : owed f ≡ owed rest + 1)
      where
        module _ (below : SlotsLeft) (p : ℕ) (k : Option ℕ)
            (here : visits m base d at ≡ pays at p ∷ visits_of m base (d - 1) (places_of below))
            (fits : p ≤ budget - paid) (few : owed below ≤ p) (c : cap_of (target m at) ≡ k) where
          under-next : IsUnderWay m budget vs n (visits_of m base (d - 1) (places_of below) ++ coming d ws rest)
              (owed below + (owed rest + owed_by ws)) (paid + p) (made + 1) (option_or cap k)
          under-next =
              let t = coming-take d ws f rest below at p next here in
              let owes : owed f + owed_by ws ≡ owed rest + owed_by ws + 1 = omega arith in
              let u = rw (t, owes) at s.under in
              goes-on m budget vs n at p (visits_of m base (d - 1) (places_of below)) (coming d ws rest)
              (owed rest + owed_by ws) (owed below) paid made cap k u fits few c

          -- Case: the slot names an object with slots, which becomes the current object.
          pub entered : (new : List Waiting) → IsKept d ws rest new → Lies m rest → Lies m below → 0 < d →
              Surveys (d - 1) new below (paid + p) (made + 1) (option_or cap k)
          entered new e lr lb deep =
              let h = s.depth in
              let o = owed-kept d ws rest new e in
              let b = shallow-kept limit d ws rest new e s.shallow h in
              let l = b.1 in
              record {
                under = rw (← coming-kept d ws rest below new lr.rows e, ← o) under-next;
                lies = lb;
                all = lie-kept d ws rest new e s.all lr;
                shallow = b.0;
                depth = omega arith;
              }

          -- Case: the slot names no object with slots, and the survey goes on with the slots `rest`.
          pub passed : Lies m rest → HasRows below → owed below ≡ 0
              → Surveys d ws rest (paid + p) (made + 1) (option_or cap k)
          passed lr hb z =
              let owes : owed below + (owed rest + owed_by ws) ≡ owed rest + owed_by ws = omega arith in
              record {
                under = rw (← coming-leaf d ws rest below hb z, ← owes) under-next;
                lies = lr;
                all = s.all;
                shallow = s.shallow;
                depth = s.depth;
              }

        -- Case: the slot is refused, and so the survey is refused.
        pub refused-here : (e : Fault) → judge (budget - paid) (visits m base d at) ≡ refused e at 0 1 →
            Refuses budget vs n (record { fault = e; place = at; paid = paid; visits = made + 1 })
        refused-here e h =
            let u = rw (coming-stop d ws f rest at next) at s.under in
            record {
              is = inr (stops m budget vs n (visits m base d at) (coming d ws rest) (owed f + owed_by ws) paid made cap
                  e at u h);
              within = u.within;
              few = let w = u.few in omega arith;
            }

    -- ---- the number of visits to come decreases

    pub as-many : (d : ℕ) (old ws : List Waiting) (f : SlotsLeft) (w : Waiting) (paid made : ℕ) (cap : Option ℕ)
        → old ≡ ws ++ w ∷ [] → owed f ≡ 0 → f.left ≡ 0 →
        Surveys d old f paid made cap →
        3 * length (coming w.depth ws w.frame) + length ws + (1 - w.frame.left) < 3 * length (coming d old f)
        + length old + (1 - f.left)
    as-many d old ws f w paid made cap e z y s =
        let c = coming-done d old f s.lies.rows z in
        let l : length old ≡ length ws + 1 = ap length e ∙ length-append ws (w ∷ []) in
        let same : coming d old f ≡ coming w.depth ws w.frame = c ∙ ap (visits_left m base) e ∙ left-push m base ws w in
        let n = ap length same in
        omega arith

    module _ (d : ℕ) (ws : List Waiting) (f rest below : SlotsLeft) (at : Place) (p paid made : ℕ) (cap : Option ℕ)
        (s : Surveys d ws f paid made cap) (next : places_of f ≡ at ∷ places_of rest)
        (here : visits m base d at ≡ pays at p ∷ visits_of m base (d - 1) (places_of below)) where
      pub fewer-entered : (new : List Waiting) → HasRows rest → IsKept d ws rest new →
          3 * length (coming (d - 1) new below) + length new + (1 - below.left) < 3 * length (coming d ws f) + length ws
          + (1 - f.left)
      fewer-entered new hr e =
          let t = ap length (coming-take d ws f rest below at p next here) in
          let n = ap length (coming-kept d ws rest below new hr e) in
          let b = shallow-kept limit d ws rest new e s.shallow s.depth in
          let l = b.1 in
          omega arith

      pub fewer-passed : HasRows below → owed below ≡ 0 →
          3 * length (coming d ws rest) + length ws + (1 - rest.left) < 3 * length (coming d ws f) + length ws
          + (1 - f.left)
      fewer-passed hb z =
          let t = ap length (coming-take d ws f rest below at p next here) in
          let n = ap length (coming-leaf d ws rest below hb z) in
          omega arith

    -- Case: the slot is null, and the survey goes on with the slots `rest`.
    module _ (d : ℕ) (ws : List Waiting) (f rest : SlotsLeft) (at : Place) (paid made : ℕ) (cap : Option ℕ)
        (s : Surveys d ws f paid made cap) (next : places_of f ≡ at ∷ places_of rest)
        (none : target m at ≡ Ok targets.Nil) where
      pub passed-null : owed f ≡ owed rest + 1 → Lies m rest → Surveys d ws rest paid (made + 1) cap
      passed-null less lr =
          let z : paid + 0 ≡ paid = omega arith in
          rw (z, option_or-none cap) at
          (passed d ws f rest at paid made cap s next less no_frame 0 None (visits-null m base at d none) (omega arith)
          (omega arith) (ap cap_of none) lr (λ h. absurd (omega arith)) refl)

      pub fewer-null : 3 * length (coming d ws rest) + length ws + (1 - rest.left) < 3 * length (coming d ws f)
          + length ws + (1 - f.left)
      fewer-null = fewer-passed d ws f rest no_frame at 0 paid made cap s next (visits-null m base at d none)
          (λ h. absurd (omega arith)) refl
