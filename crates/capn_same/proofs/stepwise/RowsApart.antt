-- Two lists of rows are the same exactly if they are the same row by row. (For `are_same_rows`.)
use Rattle.std.proofs.Common.{◌≡◌, ◌↔◌, ℕ, zero, suc, ◌+◌, ◌*◌, ◌<◌, ◌≤◌, List, [], length, refl, ap, sym, subst}
use Rattle.std.proofs.Common.{◌∙◌, arith}
use Rattle.capn_value.specs.Tree.{Trees, Bodies, no_bodies, body, count, count_rows, row_words}
use Rattle.capn_words.specs.declared.space.Place.{Place}
use Rattle.capn_value.specs.Same.{SameWords, SameSlots, SameRows}
use Rattle.capn_value.specs.Cost.{greatest, greatest_in_rows}
use Rattle.capn_walk.specs.ValueAt.{AreAt, RowsAt, AreWordsAt}
use Rattle.capn_layout.specs.LayoutSteps.{rows_past, slots_at}
use Rattle.capn_layout.specs.Weight.{weights, weights_in_rows}
use Rattle.capn_layout.proofs.shared.Counted.{rows-words}
use Rattle.capn_same.specs.inner.Held.{IsRow, HasRow, AreRowsIn, HasRows}

-- the words of row `i` of the bodies, or no words if there is no row `i`
abbrev pub words_at : Bodies → ℕ → List ℕ
words_at no_bodies i = []
words_at (body ws ss bs) zero = ws
words_at (body ws ss bs) (suc i) = words_at bs i

-- the row at word `w` of segment `s` of `m` has the `a` words `ws`, and then `b` slots with the values `ss`
pub record IsRowAt (m : List (List ℕ)) (s w a b : ℕ) (ws : List ℕ) (ss : Trees) : Type 0 where
  pub long : length ws ≡ a
  pub number : count ss ≡ b
  pub own : AreWordsAt m s w ws
  pub below : AreAt m s (w + a) ss

pub row-at : (m : List (List ℕ)) (a b s w : ℕ) (bs : Bodies) (i : ℕ) → RowsAt m a b s w bs → i < count_rows bs
    → IsRowAt m s (w + i * (a + b)) a b (words_at bs i) (slots_at bs i)
row-at m a b s w no_bodies i h lt = absurd (omega arith)
row-at m a b s w (body ws ss bs) zero h lt =
    let z : w ≡ w + 0 * (a + b) = omega arith in
    subst (λ (j : ℕ). IsRowAt m s j a b ws ss) z (record { long = h.0; number = h.1; own = h.2; below = h.3 })
row-at m a b s w (body ws ss bs) (suc i) h lt =
    let d : suc i * (a + b) ≡ a + b + i * (a + b) = omega arith in
    let z : w + a + b + i * (a + b) ≡ w + suc i * (a + b) = omega arith in
    subst (λ (j : ℕ). IsRowAt m s j a b (words_at bs i) (slots_at bs i)) z
    (row-at m a b s (w + a + b) bs i h.4 (omega arith))

pub row-within : (n i a b : ℕ) → i < n → i * (a + b) + (a + b) ≤ n * (a + b)
row-within (suc n) zero a b h = let d : suc n * (a + b) ≡ a + b + n * (a + b) = omega arith in omega arith
row-within (suc n) (suc i) a b h =
    let r = row-within n i a b (omega arith) in
    let d : suc n * (a + b) ≡ a + b + n * (a + b) = omega arith in
    let e : suc i * (a + b) ≡ a + b + i * (a + b) = omega arith in
    omega arith
row-within zero i a b h = absurd (omega arith)

pub low-row : (bs : Bodies) (i : ℕ) → i < count_rows bs → greatest (slots_at bs i) ≤ greatest_in_rows bs
low-row no_bodies i lt = absurd (omega arith)
low-row (body ws ss bs) zero lt = omega arith
low-row (body ws ss bs) (suc i) lt = let r = low-row bs i (omega arith) in omega arith

pub weights-row : (bs : Bodies) (i : ℕ) → i < count_rows bs
    → weights_in_rows (rows_past i bs) ≡ weights (slots_at bs i) + weights_in_rows (rows_past (suc i) bs)
weights-row no_bodies i lt = absurd (omega arith)
weights-row (body ws ss bs) zero lt = refl
weights-row (body ws ss bs) (suc i) lt = weights-row bs i (omega arith)

pub row-step : (bs cs : Bodies) (i : ℕ) → i < count_rows bs → i < count_rows cs
    → SameRows (rows_past i bs) (rows_past i cs)
    ↔ ((SameWords (words_at bs i) (words_at cs i) × SameSlots (slots_at bs i) (slots_at cs i))
    × SameRows (rows_past (suc i) bs) (rows_past (suc i) cs))
row-step no_bodies cs i l r = absurd (omega arith)
row-step (body ws ss bs) no_bodies i l r = absurd (omega arith)
row-step (body ws ss bs) (body vs ts cs) zero l r = ((λ h. ((h.0, h.1), h.2)), (λ h. (h.0.0, h.0.1, h.1)))
row-step (body ws ss bs) (body vs ts cs) (suc i) l r = row-step bs cs i (omega arith) (omega arith)

pub rows-end : (bs cs : Bodies) (i : ℕ) → count_rows bs ≡ i → count_rows cs ≡ i
    → SameRows (rows_past i bs) (rows_past i cs)
rows-end no_bodies no_bodies zero e f = tt
rows-end no_bodies (body vs ts cs) zero e f = absurd (omega arith)
rows-end (body ws ss bs) cs zero e f = absurd (omega arith)
rows-end no_bodies cs (suc i) e f = absurd (omega arith)
rows-end (body ws ss bs) no_bodies (suc i) e f = absurd (omega arith)
rows-end (body ws ss bs) (body vs ts cs) (suc i) e f = rows-end bs cs i (omega arith) (omega arith)

pub row-next : (bs cs : Bodies) (i j : ℕ) → j ≡ i + 1 → i < count_rows bs → i < count_rows cs
    → SameRows (rows_past i bs) (rows_past i cs)
    ↔ ((SameWords (words_at bs i) (words_at cs i) × SameSlots (slots_at bs i) (slots_at cs i))
    × SameRows (rows_past j bs) (rows_past j cs))
row-next bs cs i j e l r =
    let z : suc i ≡ j = omega arith in
    subst (λ (x : ℕ). SameRows (rows_past i bs) (rows_past i cs)
    ↔ ((SameWords (words_at bs i) (words_at cs i) × SameSlots (slots_at bs i) (slots_at cs i))
    × SameRows (rows_past x bs) (rows_past x cs))) z (row-step bs cs i l r)

pub row-weights : (bs : Bodies) (i j : ℕ) → j ≡ i + 1 → i < count_rows bs
    → weights_in_rows (rows_past i bs) ≡ weights (slots_at bs i) + weights_in_rows (rows_past j bs)
row-weights bs i j e lt =
    let z : suc i ≡ j = omega arith in
    subst (λ (x : ℕ). weights_in_rows (rows_past i bs) ≡ weights (slots_at bs i) + weights_in_rows (rows_past x bs)) z
    (weights-row bs i lt)

module _ (m : List (List ℕ)) (start : Place) (n a b : ℕ) where
  pub is-row_in : (p : Place) (next i : ℕ) (bs : Bodies) → AreRowsIn m start n a b bs → i < n
      → next ≡ start.word + i * (a + b) → p ≡ record { segment = start.segment; word = next }
      → IsRow m p a b (words_at bs i) (slots_at bs i)
  is-row_in p next i bs h lt en e =
      let k = h.number in
      let r = row-at m a b start.segment start.word bs i h.rows (omega arith) in
      let w = row-within n i a b lt in
      let o = h.content.within in
      subst (λ (x : Place). IsRow m x a b (words_at bs i) (slots_at bs i)) (sym e)
      (subst (λ (x : ℕ). IsRow m (record { segment = start.segment; word = x }) a b (words_at bs i) (slots_at bs i))
      (sym en)
      (record {
        message = h.message;
        content = record { exists = h.content.exists; within = omega arith };
        long = r.long;
        number = r.number;
        own = r.own;
        below = r.below;
      }))

  pub has-row_in : (p : Place) (next i depth : ℕ) → HasRows m start n a b depth → i < n
      → next ≡ start.word + i * (a + b) → p ≡ record { segment = start.segment; word = next } → HasRow m p a b depth
  has-row_in p next i depth h lt en e =
      let k = h.are.number in
      let l = h.low in
      let o = low-row h.bodies i (omega arith) in
      record {
        words = words_at h.bodies i;
        slots = slots_at h.bodies i;
        is = is-row_in p next i h.bodies h.are lt en e;
        low = omega arith;
      }

  pub rows-so_far : (i : ℕ) → i < n → 12 * (i * (a + b)) + 12 * (a + b) ≤ 12 * (n * (a + b))
  rows-so_far i lt = let w = row-within n i a b lt in omega arith

  pub rows-count : (bs : Bodies) → AreRowsIn m start n a b bs → row_words bs ≡ n * (a + b)
  rows-count bs h =
      rows-words m bs a b start.segment start.word h.rows ∙ ap (λ (x : ℕ). x * (a + b)) h.number
