-- Lemmas on `kept_each` and `row_cells`, for consecutive rows of equal sizes. (For `kept.rt`, `message_slots.rt`,
-- `struct_list_words.rt` and capn_canon.)
use Rattle.std.proofs.Common.{◌≡◌, ℕ, zero, suc, ◌+◌, ◌-◌, ◌*◌, ◌<◌, ◌≤◌, max, List, ◌++◌, length, take, refl}
use Rattle.std.proofs.Common.{ap, ap₂, sym, subst, ◌∙◌, arith, append_assoc, append-nil, length-drop}
use Rattle.capn_words.specs.Message.{segment_at}
use Rattle.capn_value.specs.Tree.{Bodies, no_bodies, body, count_rows}
use Rattle.capn_value.specs.Trim.{kept_words, kept_words_of_rows, kept_slots_of_rows}
use Rattle.capn_walk.specs.ValueAt.{RowsAt, words_from}
use Rattle.capn_layout.specs.LayoutSteps.{AreRowsOver}
use Rattle.capn_layout.specs.Sound.{AreWide}
use Rattle.capn_layout.specs.RowWords.{kept_each, row_cells}
use Rattle.capn_layout.proofs.shared.Cut.{part-le, take-less}
use Rattle.std.proofs.lemmas.List.{drop-drop, length-take-le}
use Rattle.capn_layout.proofs.shared.Nulls.{kept-slots}
use Rattle.capn_layout.proofs.shared.Fronts.{take-plus}

max-zero : (a b n : ℕ) → n ≡ a → b ≡ n → max 0 a ≡ b
max-zero a b n e f = omega arith

max-more : (k w e j : ℕ) → j ≡ max k w → max j e ≡ max k (max w e)
max-more k w e j h = omega arith

module _ (m : List (List ℕ)) where
  pub kept_each-le : (s w size step n : ℕ) → kept_each m s w size step n ≤ size
  kept_each-le s w size step zero = omega arith
  kept_each-le s w size step (suc n) = let a = part-le size (words_from m s w) in let b =
      kept_each-le s (w + step) size step n in omega arith

  pub kept-begins : (s w size step n : ℕ) → max 0 (kept_each m s w size step (n - 0)) ≡ kept_each m s w size step n
  kept-begins s w size step n =
      let z : n - 0 ≡ n = omega arith in
      max-zero (kept_each m s w size step (n - 0)) (kept_each m s w size step n) (kept_each m s w size step (n - 0))
      refl (sym (ap (kept_each m s w size step) z))

  pub kept-more : (s next inset size step n i k j : ℕ) → i < n
      → j ≡ max k (kept_words (take size (words_from m s (next + inset)))) →
      max j (kept_each m s (next + step + inset) size step (n - (i + 1)))
      ≡ max k (kept_each m s (next + inset) size step (n - i))
  kept-more s next inset size step n i k j lt e =
      let a : suc (n - (i + 1)) ≡ n - i = omega arith in
      let b : next + step + inset ≡ next + inset + step = omega arith in
      ap (λ (x : ℕ). max j (kept_each m s x size step (n - (i + 1)))) b
      ∙ max-more k (kept_words (take size (words_from m s (next + inset))))
      (kept_each m s (next + inset + step) size step (n - (i + 1))) j e
      ∙ ap (λ (x : ℕ). max k (kept_each m s (next + inset) size step x)) a

  pub kept-full : (s w size step n k total : ℕ) → k ≡ size → max k (kept_each m s w size step n) ≡ total → k ≡ total
  kept-full s w size step n k total e h = let l = kept_each-le s w size step n in omega arith

  pub kept-ends : (s w size step n i k total : ℕ) → n ≤ i → max k (kept_each m s w size step (n - i)) ≡ total
      → k ≡ total
  kept-ends s w size step n i k total le h =
      let z : n - i ≡ 0 = omega arith in
      let e = ap (kept_each m s w size step) z in
      omega arith

  -- The cells of `n - 0` rows are the cells of `n` rows. (A loop over rows starts at row 0.)
  pub cells-begin : (s w step inset a b n : ℕ) (p : List ℕ)
      → p ++ row_cells m s w step inset a b (n - 0) ≡ p ++ row_cells m s w step inset a b n
  cells-begin s w step inset a b n p = let z : n - 0 ≡ n = omega arith in
      ap (λ (x : ℕ). p ++ row_cells m s w step inset a b x) z

  pub cells-more : (s w step inset a b n i : ℕ) (p q : List ℕ) → i < n
      → q ≡ (p ++ take a (words_from m s w)) ++ take b (words_from m s (w + inset)) →
      q ++ row_cells m s (w + step) step inset a b (n - (i + 1)) ≡ p ++ row_cells m s w step inset a b (n - i)
  cells-more s w step inset a b n i p q lt eq =
      let k : suc (n - (i + 1)) ≡ n - i = omega arith in
      let rest = row_cells m s (w + step) step inset a b (n - (i + 1)) in
      let own = take a (words_from m s w) in
      let slots = take b (words_from m s (w + inset)) in
      ap (λ (x : List ℕ). x ++ rest) eq
      ∙ append_assoc (p ++ own) slots rest
      ∙ append_assoc p own (slots ++ rest)
      ∙ ap (λ (x : ℕ). p ++ row_cells m s w step inset a b x) k

  pub cells-end : (s w step inset a b n i : ℕ) (p q : List ℕ) → n ≤ i
      → p ++ row_cells m s w step inset a b (n - i) ≡ q → p ≡ q
  cells-end s w step inset a b n i p q le h =
      let z : n - i ≡ 0 = omega arith in
      sym (append-nil p) ∙ ap (λ (x : ℕ). p ++ row_cells m s w step inset a b x) (sym z) ∙ h

  -- `kept_words_of_rows bs` is `kept_each` of the rows' words in the message.
  pub kept-rows-words : (bs : Bodies) (a b s w n : ℕ) → RowsAt m a b s w bs → count_rows bs ≡ n
      → kept_words_of_rows bs ≡ kept_each m s w a (a + b) n
  kept-rows-words no_bodies a b s w zero h e = refl
  kept-rows-words no_bodies a b s w (suc n) h e = absurd (omega arith)
  kept-rows-words (body ws ss bs) a b s w zero h e = absurd (omega arith)
  kept-rows-words (body ws ss bs) a b s w (suc n) h e =
      let z : w + a + b ≡ w + (a + b) = omega arith in
      let own : take a (words_from m s w) ≡ ws = subst (λ (x : ℕ). take x (words_from m s w) ≡ ws) h.0 h.2 in
      ap₂ max (ap kept_words (sym own)) (kept-rows-words bs a b s (w + a + b) n h.4 (omega arith)
      ∙ ap (λ (x : ℕ). kept_each m s x a (a + b) n) z)

  pub kept-rows-slots : (bs : Bodies) (a b s w n : ℕ) → RowsAt m a b s w bs → count_rows bs ≡ n
      → w + n * (a + b) ≤ length (segment_at m s) → kept_slots_of_rows bs ≡ kept_each m s (w + a) b (a + b) n
  kept-rows-slots no_bodies a b s w zero h e le = refl
  kept-rows-slots no_bodies a b s w (suc n) h e le = absurd (omega arith)
  kept-rows-slots (body ws ss bs) a b s w zero h e le = absurd (omega arith)
  kept-rows-slots (body ws ss bs) a b s w (suc n) h e le =
      let z : w + a + b + a ≡ w + a + (a + b) = omega arith in
      let d : suc n * (a + b) ≡ a + b + n * (a + b) = omega arith in
      let l = h.1 in
      ap₂ max (kept-slots m ss s (w + a) h.3 (omega arith)
      ∙ ap (λ (x : ℕ). kept_words (take x (words_from m s (w + a)))) l)
      (kept-rows-slots bs a b s (w + a + b) n h.4 (omega arith) (omega arith)
      ∙ ap (λ (x : ℕ). kept_each m s x b (a + b) n) z)

  -- If each row of `bs` has at least `x` words and `y` slots, `row_cells` has, for each row, the row's first `x` words
  -- and then some `y` words (`AreRowsOver`).
  pub cells-over : (bs : Bodies) (a b s w n x y : ℕ) → RowsAt m a b s w bs → count_rows bs ≡ n → AreWide x y bs
      → w + n * (a + b) ≤ length (segment_at m s) → AreRowsOver x y bs (row_cells m s w (a + b) a x y n)
  cells-over no_bodies a b s w zero x y h e wide i = refl
  cells-over no_bodies a b s w (suc n) x y h e wide i = absurd (omega arith)
  cells-over (body ws ss bs) a b s w zero x y h e wide i = absurd (omega arith)
  cells-over (body ws ss bs) a b s w (suc n) x y h e wide i =
      let z : w + (a + b) ≡ w + a + b = omega arith in
      let d : suc n * (a + b) ≡ a + b + n * (a + b) = omega arith in
      let own : take a (words_from m s w) ≡ ws = subst (λ (k : ℕ). take k (words_from m s w) ≡ ws) h.0 h.2 in
      let lx = wide.0 in
      let ly = wide.1 in
      let la = h.0 in
      let lb = h.1 in
      let cut : take x (words_from m s w) ≡ take x ws =
      sym (take-less x a (words_from m s w) (omega arith)) ∙ ap (take x) own in
      let hs = take y (words_from m s (w + a)) in
      let rest = row_cells m s (w + (a + b)) (a + b) a x y n in
      let below = length-drop (w + a) (segment_at m s) in
      let long : length hs ≡ y = length-take-le y (words_from m s (w + a)) (omega arith) in
      let after : RowsAt m a b s (w + (a + b)) bs = subst (λ (k : ℕ). RowsAt m a b s k bs) (sym z) h.4 in (
        hs,
        rest,
        ap (λ (u : List ℕ). u ++ (hs ++ rest)) cut,
        long,
        cells-over bs a b s (w + (a + b)) n x y after (omega arith) wide.2 (omega arith),
      )

  pub wide-part : (bs : Bodies) (a b s w x y : ℕ) → RowsAt m a b s w bs → 0 < count_rows bs → AreWide x y bs
      → (x ≤ a) × (y ≤ b)
  wide-part no_bodies a b s w x y h lt wide = absurd (omega arith)
  wide-part (body ws ss bs) a b s w x y h lt wide =
      let lx = wide.0 in
      let ly = wide.1 in
      let la = h.0 in
      let lb = h.1 in
      (omega arith, omega arith)

-- If `row_cells` has all `a` words and `b` slots of `n` rows, the cells are consecutive words of the message.
pub cells-whole : (m : List (List ℕ)) (s w a b n : ℕ)
    → row_cells m s w (a + b) a a b n ≡ take (n * (a + b)) (words_from m s w)
cells-whole m s w a b zero = let z : 0 * (a + b) ≡ 0 = omega arith in
    ap (λ (k : ℕ). take k (words_from m s w)) (sym z)
cells-whole m s w a b (suc n) =
    let z : a + b + n * (a + b) ≡ suc n * (a + b) = omega arith in
    let own = take a (words_from m s w) in
    let slots = take b (words_from m s (w + a)) in
    let step = a + b in
    let both : own ++ slots ≡ take step (words_from m s w) =
    ap (λ (xs : List ℕ). own ++ take b xs) (sym (drop-drop a w (segment_at m s)))
    ∙ sym (take-plus a b (words_from m s w)) in
    ap (λ (x : List ℕ). own ++ (slots ++ x)) (cells-whole m s (w + step) a b n)
    ∙ sym (append_assoc own slots (take (n * step) (words_from m s (w + step))))
    ∙ ap (λ (xs : List ℕ). xs ++ take (n * step) (words_from m s (w + step))) both
    ∙ ap (λ (xs : List ℕ). take step (words_from m s w) ++ take (n * step) xs) (sym (drop-drop step w (segment_at m s)))
    ∙ sym (take-plus step (n * step) (words_from m s w))
    ∙ ap (λ (k : ℕ). take k (words_from m s w)) z

pub cells-piece : (m : List (List ℕ)) (s w step inset a b n : ℕ) (p q : List ℕ)
    → (0 < n → (a ≡ inset) × (a + b ≡ step)) → q ≡ p ++ take (n * step) (words_from m s w)
    → q ≡ p ++ row_cells m s w step inset a b n
cells-piece m s w step inset a b zero p q h e =
    let z : 0 * step ≡ 0 = omega arith in
    e ∙ ap (λ (k : ℕ). p ++ take k (words_from m s w)) z
cells-piece m s w step inset a b (suc n) p q h e =
    let k = h (omega arith) in
    e ∙ ap (λ (x : ℕ). p ++ take (suc n * x) (words_from m s w)) (sym k.1)
    ∙ ap (λ (x : List ℕ). p ++ x) (sym (cells-whole m s w a b (suc n)))
    ∙ ap₂ (λ (x y : ℕ). p ++ row_cells m s w x y a b (suc n)) k.1 k.0

-- If a row has exactly `a` words before its slots, its first `a + b` words are these `a` words and its first `b` slots.
-- Appending them at once gives the same list as appending the words and then the slots.
pub copy-parts : (m : List (List ℕ)) (s w a b size : ℕ) (p q : List ℕ) → a ≡ size
    → q ≡ p ++ take (a + b) (words_from m s w)
    → q ≡ (p ++ take a (words_from m s w)) ++ take b (words_from m s (w + size))
copy-parts m s w a b size p q ea e =
    let xs = words_from m s w in
    e ∙ ap (λ (ys : List ℕ). p ++ ys) (take-plus a b xs
    ∙ ap (λ (ys : List ℕ). take a xs ++ take b ys) (drop-drop a w (segment_at m s)))
    ∙ sym (append_assoc p (take a xs) (take b (words_from m s (w + a))))
    ∙ ap (λ (k : ℕ). (p ++ take a xs) ++ take b (words_from m s (w + k))) ea
