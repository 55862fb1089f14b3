-- Two lists of slots are the same exactly if they are the same slot by slot, and the remaining slots of the longer list
-- are null. (For `are_same_slots`.)
use Rattle.std.proofs.Common.{◌≡◌, ◌↔◌, ◌⊎◌, inl, inr, ℕ, zero, suc, ◌+◌, ◌-◌, ◌<◌, ◌≤◌, min, List}
use Rattle.std.proofs.Common.{slice_index}
use Rattle.std.proofs.Common.{refl, ap, sym, subst, ◌∙◌, arith}
use Rattle.std.proofs.lemmas.Bool.{cases_lt}
use Rattle.capn_words.specs.Message.{segment_at}
use Rattle.capn_words.specs.declared.space.Place.{Place}
use Rattle.capn_value.specs.Tree.{Tree, nil, Trees, no_trees, tree, count, tree_at}
use Rattle.capn_value.specs.Same.{Same, SameSlots, SameEach, AllNull}
use Rattle.capn_value.specs.Cost.{height, greatest}
use Rattle.capn_walk.specs.ValueAt.{IsAt, AreAt}
use Rattle.capn_layout.specs.LayoutSteps.{past}
use Rattle.capn_layout.specs.Weight.{weight, weights}
use Rattle.capn_layout.proofs.shared.Shaped.{null-of}
use Rattle.capn_layout.proofs.shared.Nulls.{zero-target, other-than-nil}
use Rattle.capn_layout.specs.MessageSlots.{HasSlot}
use Rattle.capn_same.specs.inner.Runs.{AreZeros}
use Rattle.capn_same.specs.inner.Held.{HasValue, AreIn, HasValues}

module _ (m : List (List ℕ)) where
  pub slot-at : (s w : ℕ) (ts : Trees) (k : ℕ) → AreAt m s w ts → k < count ts
      → IsAt m (record { segment = s; word = w + k }) (tree_at ts k)
  slot-at s w no_trees k h lt = absurd (omega arith)
  slot-at s w (tree t ts) zero h lt =
      let z : w ≡ w + 0 = omega arith in
      subst (λ (j : ℕ). IsAt m (record { segment = s; word = j }) t) z h.0
  slot-at s w (tree t ts) (suc k) h lt =
      let z : suc w + k ≡ w + suc k = omega arith in
      subst (λ (j : ℕ). IsAt m (record { segment = s; word = j }) (tree_at ts k)) z
      (slot-at s (suc w) ts k h.1 (omega arith))

  pub slots-past : (s w : ℕ) (ts : Trees) (k : ℕ) → AreAt m s w ts → AreAt m s (w + k) (past k ts)
  slots-past s w ts zero h = let z : w ≡ w + 0 = omega arith in subst (λ (j : ℕ). AreAt m s j ts) z h
  slots-past s w no_trees (suc k) h = tt
  slots-past s w (tree t ts) (suc k) h =
      let z : suc w + k ≡ w + suc k = omega arith in
      subst (λ (j : ℕ). AreAt m s j (past k ts)) z (slots-past s (suc w) ts k h.1)

  null-word : (at : Place) (t : Tree) → IsAt m at t → t ≡ nil → slice_index (segment_at m at.segment) at.word ≡ 0
  null-word at t h e = other-than-nil m at (subst (λ (x : Tree). IsAt m at x) e h)

  pub zeros-of_null : (s w : ℕ) (ts : Trees) → AreAt m s w ts → AllNull ts → AreZeros (segment_at m s) w (count ts)
  zeros-of_null s w no_trees h a i lt = absurd (omega arith)
  zeros-of_null s w (tree t ts) h a zero lt =
      let z : w + 0 ≡ w = omega arith in
      ap (slice_index (segment_at m s)) z ∙ null-word (record { segment = s; word = w }) t h.0 a.0
  zeros-of_null s w (tree t ts) h a (suc i) lt =
      let z : w + suc i ≡ suc w + i = omega arith in
      ap (slice_index (segment_at m s)) z ∙ zeros-of_null s (suc w) ts h.1 a.1 i (omega arith)

  pub null-of_zeros : (s w : ℕ) (ts : Trees) → AreAt m s w ts → AreZeros (segment_at m s) w (count ts) → AllNull ts
  null-of_zeros s w no_trees h z = tt
  null-of_zeros s w (tree t ts) h z =
      let at : Place = record { segment = s; word = w } in
      let e : w ≡ w + 0 = omega arith in (
        null-of m at t (zero-target m at (ap (slice_index (segment_at m s)) e ∙ z 0 (omega arith))) h.0,
        null-of_zeros s (suc w) ts h.1 (λ i lt.
            let d : suc w + i ≡ w + suc i = omega arith in
            ap (slice_index (segment_at m s)) d ∙ z (suc i) (omega arith)),
      )

pub count-past : (ts : Trees) (k : ℕ) → k ≤ count ts → count (past k ts) + k ≡ count ts
count-past ts zero le = omega arith
count-past no_trees (suc k) le = absurd (omega arith)
count-past (tree t ts) (suc k) le = let r = count-past ts k (omega arith) in omega arith

pub low-at : (ts : Trees) (k : ℕ) → k < count ts → height (tree_at ts k) ≤ greatest ts
low-at no_trees k lt = absurd (omega arith)
low-at (tree t ts) zero lt = omega arith
low-at (tree t ts) (suc k) lt = let r = low-at ts k (omega arith) in omega arith

pub weights-past : (ts : Trees) (k : ℕ) → k < count ts
    → weights (past k ts) ≡ weight (tree_at ts k) + weights (past (suc k) ts)
weights-past no_trees k lt = absurd (omega arith)
weights-past (tree t ts) zero lt = refl
weights-past (tree t ts) (suc k) lt = weights-past ts k (omega arith)

pub same-step : (ss ts : Trees) (k : ℕ) → k < count ss → k < count ts
    → SameSlots (past k ss) (past k ts)
    ↔ (Same (tree_at ss k) (tree_at ts k) × SameSlots (past (suc k) ss) (past (suc k) ts))
same-step no_trees ts k l r = absurd (omega arith)
same-step (tree s ss) no_trees k l r = absurd (omega arith)
same-step (tree s ss) (tree t ts) zero l r = ((λ h. h), (λ h. h))
same-step (tree s ss) (tree t ts) (suc k) l r = same-step ss ts k (omega arith) (omega arith)

no-left : (ss ts : Trees) → count ss ≡ 0 → SameSlots ss ts ↔ (AllNull ss × AllNull ts)
no-left no_trees ts e = ((λ h. (tt, h)), (λ h. h.1))
no-left (tree s ss) ts e = absurd (omega arith)

no-right : (ss ts : Trees) → count ts ≡ 0 → SameSlots ss ts ↔ (AllNull ss × AllNull ts)
no-right no_trees no_trees e = ((λ h. (tt, tt)), (λ h. tt))
no-right (tree s ss) no_trees e =
    let r = no-right ss no_trees refl in
    ((λ h. ((h.0, (r.0 h.1).0), tt)), (λ h. (h.0.0, r.1 (h.0.1, tt))))
no-right ss (tree t ts) e = absurd (omega arith)

pub same-end : (ss ts : Trees) (k : ℕ) → k ≡ min (count ss) (count ts)
    → SameSlots (past k ss) (past k ts) ↔ (AllNull (past k ss) × AllNull (past k ts))
same-end ss ts k e = by (cases_lt (count ts) (count ss))
  where
    a : count (past k ss) + k ≡ count ss
    a = count-past ss k (omega arith)

    b : count (past k ts) + k ≡ count ts
    b = count-past ts k (omega arith)

    by : (count ts < count ss) ⊎ (count ss ≤ count ts)
        → SameSlots (past k ss) (past k ts) ↔ (AllNull (past k ss) × AllNull (past k ts))
    by (inl lt) = no-right (past k ss) (past k ts) (omega (arith, a, b))
    by (inr le) = no-left (past k ss) (past k ts) (omega (arith, a, b))

-- two lists of equally many slots are the same exactly if their values are the same, slot by slot
pub slots-each : (ss ts : Trees) → count ss ≡ count ts → SameSlots ss ts ↔ SameEach ss ts
slots-each no_trees no_trees e = ((λ h. tt), (λ h. tt))
slots-each no_trees (tree t ts) e = absurd (omega arith)
slots-each (tree s ss) no_trees e = absurd (omega arith)
slots-each (tree s ss) (tree t ts) e =
    let r = slots-each ss ts (omega arith) in ((λ h. (h.0, r.0 h.1)), (λ h. (h.0, r.1 h.1)))

pub same-next : (ss ts : Trees) (k j : ℕ) → j ≡ k + 1 → k < count ss → k < count ts
    → SameSlots (past k ss) (past k ts) ↔ (Same (tree_at ss k) (tree_at ts k) × SameSlots (past j ss) (past j ts))
same-next ss ts k j e l r =
    let z : suc k ≡ j = omega arith in
    subst (λ (x : ℕ). SameSlots (past k ss) (past k ts)
    ↔ (Same (tree_at ss k) (tree_at ts k) × SameSlots (past x ss) (past x ts))) z (same-step ss ts k l r)

pub weights-next : (ts : Trees) (k j : ℕ) → j ≡ k + 1 → k < count ts
    → weights (past k ts) ≡ weight (tree_at ts k) + weights (past j ts)
weights-next ts k j e lt =
    let z : suc k ≡ j = omega arith in
    subst (λ (x : ℕ). weights (past k ts) ≡ weight (tree_at ts k) + weights (past x ts)) z (weights-past ts k lt)

module _ (m : List (List ℕ)) (start : Place) (n : ℕ) where
  pub has-slot : (p : Place) (i : ℕ) (ts : Trees) → AreIn m start n ts → i < n
      → p ≡ record { segment = start.segment; word = start.word + i } → HasSlot m p.segment p.word (tree_at ts i)
  has-slot p i ts h lt e =
      let w = h.content.within in
      let k = h.number in
      subst (λ (x : Place). HasSlot m x.segment x.word (tree_at ts i)) (sym e)
      (record {
        message = h.message;
        exists = h.content.exists;
        place = omega arith;
        at = slot-at m start.segment start.word ts i h.are (omega arith);
      })

  pub has-value : (p : Place) (i depth : ℕ) → HasValues m start n depth → i < n
      → p ≡ record { segment = start.segment; word = start.word + i } → HasValue m p depth
  has-value p i depth h lt e =
      let k = h.are.number in
      let l = h.low in
      let o = low-at h.values i (omega arith) in
      record { value = tree_at h.values i; is = has-slot p i h.values h.are lt e; low = omega arith }

  pub rest-null : (i : ℕ) (ts : Trees) → AreIn m start n ts → i ≤ n
      → AllNull (past i ts) ↔ AreZeros (segment_at m start.segment) (start.word + i) (n - i)
  rest-null i ts h le =
      let k = h.number in
      let c = count-past ts i (omega arith) in
      let e : count (past i ts) ≡ n - i = omega arith in
      let a = slots-past m start.segment start.word ts i h.are in
      subst (λ (x : ℕ). AllNull (past i ts) ↔ AreZeros (segment_at m start.segment) (start.word + i) x) e (
        zeros-of_null m start.segment (start.word + i) (past i ts) a,
        null-of_zeros m start.segment (start.word + i) (past i ts) a,
      )

module _ (m k : List (List ℕ)) (start beside : Place) (n l s i : ℕ) (ss ts : Trees) (h : AreIn m start n ss)
    (g : AreIn k beside l ts) (es : s ≡ min n l) (ei : i ≡ s)
    (so : SameSlots ss ts ↔ SameSlots (past i ss) (past i ts)) where
  so-far : SameSlots ss ts ↔ (AllNull (past s ss) × AllNull (past s ts))
  so-far =
      let a = h.number in
      let b = g.number in
      let e = same-end ss ts s (omega arith) in
      let o = subst (λ (x : ℕ). SameSlots ss ts ↔ SameSlots (past x ss) (past x ts)) ei so in
      ((λ q. e.0 (o.0 q)), (λ q. o.1 (e.1 q)))

  pub left-zero : SameSlots ss ts → AreZeros (segment_at m start.segment) (start.word + s) (n - s)
  left-zero q = (rest-null m start n s ss h (omega arith)).0 (so-far.0 q).0

  pub right-zero : SameSlots ss ts → AreZeros (segment_at k beside.segment) (beside.word + s) (l - s)
  right-zero q = (rest-null k beside l s ts g (omega arith)).0 (so-far.0 q).1

  pub both-zero : AreZeros (segment_at m start.segment) (start.word + s) (n - s)
      → AreZeros (segment_at k beside.segment) (beside.word + s) (l - s) → SameSlots ss ts
  both-zero a b =
      so-far.1 ((rest-null m start n s ss h (omega arith)).1 a, (rest-null k beside l s ts g (omega arith)).1 b)
