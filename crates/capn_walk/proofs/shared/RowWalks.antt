-- A walk over `n` consecutive rows, of which the first `i` have been visited. (For the cycle `walk`, capn_canon,
-- capn_mismatch and other crates.)
use Rattle.std.proofs.Common.{◌≡◌, ◌⊎◌, inl, inr, ℕ, zero, suc, ◌+◌, ◌-◌, ◌*◌, ◌<◌, ◌≤◌, List, [], ◌∷◌, ◌++◌, length}
use Rattle.std.proofs.Common.{take, refl, ap, sym, subst, ◌∙◌, arith, append_assoc}
use Rattle.std.specs.List.{flat_map}
use Rattle.std.proofs.lemmas.Grind.{flat_map-append}
use Rattle.std.proofs.lemmas.List.{append-nil}
use Rattle.capn_words.specs.declared.space.Place.{Place}
use Rattle.capn_value.specs.Tree.{count, count_rows}
use Rattle.capn_value.specs.TreeOf.{trees_of, rows_of}
use Rattle.capn_value.specs.declared.value.Body.{Body}
use Rattle.capn_target.specs.declared.target.Fault.{Fault}
use Rattle.capn_target.specs.declared.target.Fault.TheVariants as faults
use Rattle.capn_walk.specs.declared.walk_answer.Stopped.{Stopped}
use Rattle.capn_walk.specs.Visits.{Visit, places, row_places}
use Rattle.capn_walk.specs.inner.Verdict.{accepted, refused, after, judge}
use Rattle.capn_walk.specs.ValueAt.{AreAt, RowsAt, AreWordsAt, words_from}
use Rattle.capn_walk.specs.inner.Verdict.{Gives, Refuses}
use Rattle.capn_walk.proofs.shared.Judge.{judge-more, judge-stops}

pub one-more : (i n k : ℕ) → i < n → i * k + k ≤ n * k
one-more i n k h = let e : n ≡ suc i + (n - suc i) = omega arith in
    let m : (suc i + (n - suc i)) * k ≡ i * k + k + (n - suc i) * k = omega arith in rw e (omega arith)

-- if `n` rows of `k` words end within `len` words, row `i` of these rows ends within `len` words
pub row-inside : (w n i k next len : ℕ) → i < n → next ≡ w + i * k → w + n * k ≤ len → next + k ≤ len
row-inside w n i k next len h e l = let m = one-more i n k h in omega arith

-- the places of `i + n` rows are the places of the first `i` rows and of the `n` rows after them
pub row_places-add : (s w a b i n : ℕ)
    → row_places s w a b (i + n) ≡ row_places s w a b i ++ row_places s (w + i * (a + b)) a b n
row_places-add s w a b zero n = let x : 0 + n ≡ n = omega arith in let y : w + 0 * (a + b) ≡ w = omega arith in
    rw (x, y) refl
row_places-add s w a b (suc i) n =
    let x : suc i + n ≡ suc (i + n) = omega arith in
    let m : suc i * (a + b) ≡ a + b + i * (a + b) = omega arith in
    let y : w + a + b + i * (a + b) ≡ w + suc i * (a + b) = omega arith in
    ap (row_places s w a b) x
    ∙ ap (λ (r : List Place). places s (w + a) b ++ r) (row_places-add s (w + a + b) a b i n
    ∙ ap (λ (q : ℕ). row_places s (w + a + b) a b i ++ row_places s q a b n) y)
    ∙ sym (append_assoc (places s (w + a) b) (row_places s (w + a + b) a b i)
    (row_places s (w + suc i * (a + b)) a b n))

module _ (f : Place → List Visit) (s w a b : ℕ) where
  -- the visits that `f` gives for the slots of the first `n` rows
  abbrev pub all_rows : ℕ → List Visit
  all_rows n = flat_map f (row_places s w a b n)

  rows-split : (i n : ℕ) → i < n
      → all_rows n ≡ all_rows i
      ++ (flat_map f (places s (w + i * (a + b) + a) b)
      ++ flat_map f (row_places s (w + i * (a + b) + a + b) a b (n - suc i)))
  rows-split i n h =
      let e : n ≡ i + suc (n - suc i) = omega arith in
      ap (λ (k : ℕ). flat_map f (row_places s w a b k)) e
      ∙ ap (flat_map f) (row_places-add s w a b i (suc (n - suc i)))
      ∙ flat_map-append f (row_places s w a b i) (row_places s (w + i * (a + b)) a b (suc (n - suc i)))
      ∙ ap (λ (r : List Visit). all_rows i ++ r)
      (flat_map-append f (places s (w + i * (a + b) + a) b)
      (row_places s (w + i * (a + b) + a + b) a b (n - suc i)))

  rows-next : (i : ℕ) → all_rows (i + 1) ≡ all_rows i ++ flat_map f (places s (w + i * (a + b) + a) b)
  rows-next i =
      let e : i + 1 - suc i ≡ 0 = omega arith in
      rows-split i (i + 1) (omega arith)
      ∙ ap (λ (k : ℕ). all_rows i
      ++ (flat_map f (places s (w + i * (a + b) + a) b)
      ++ flat_map f (row_places s (w + i * (a + b) + a + b) a b k))) e
      ∙ ap (λ (r : List Visit). all_rows i ++ r) (append-nil (flat_map f (places s (w + i * (a + b) + a) b)))

  pub rows-give : (left i p k q j : ℕ) → Gives left (all_rows i) (i * b) p k
      → Gives (left - p) (flat_map f (places s (w + i * (a + b) + a) b)) b q j →
      Gives left (all_rows (i + 1)) ((i + 1) * b) (p + q) (k + j)
  rows-give left i p k q j g h = record {
    is = ap (judge left) (rows-next i)
        ∙ judge-more left (all_rows i) (flat_map f (places s (w + i * (a + b) + a) b)) p k g.is ∙ ap (after p k) h.is;
    within = let x = g.within in let y = h.within in omega arith;
    few = let x = g.few in let y = h.few in let m : (i + 1) * b ≡ i * b + b = omega arith in omega arith;
  }

  rows-stop : (left i n p k : ℕ) (e : Fault) (at : Place) (q j : ℕ) → i < n → judge left (all_rows i) ≡ accepted p k →
      judge (left - p) (flat_map f (places s (w + i * (a + b) + a) b)) ≡ refused e at q j
      → judge left (all_rows n) ≡ refused e at (p + q) (k + j)
  rows-stop left i n p k e at q j h g r =
      let here = flat_map f (places s (w + i * (a + b) + a) b) in
      let rest = flat_map f (row_places s (w + i * (a + b) + a + b) a b (n - suc i)) in
      ap (judge left) (rows-split i n h)
      ∙ judge-more left (all_rows i) (here ++ rest) p k g
      ∙ ap (after p k) (judge-stops (left - p) here rest e at q j r)

  pub rows-refuse : (left i n p k : ℕ) (t : Stopped) → i < n → Gives left (all_rows i) (i * b) p k
      → Refuses (left - p) (flat_map f (places s (w + i * (a + b) + a) b)) b t →
      Refuses left (all_rows n) (n * b)
      (record { fault = t.fault; place = t.place; paid = p + t.paid; visits = k + t.visits })
  rows-refuse left i n p k t h g r = record {
    is = elim r.is as (λ _. (t.fault ≡ faults.Memory)
        ⊎ (judge left (all_rows n) ≡ refused t.fault t.place (p + t.paid) (k + t.visits))) [
          | inl m ↦ inl m
          | inr is ↦ inr (rows-stop left i n p k t.fault t.place t.paid t.visits h g.is is)
        ];
    within = let x = g.within in let y = r.within in omega arith;
    few = let x = g.few in let y = r.few in let z = one-more i n b h in omega arith;
  }

module _ (m : List (List ℕ)) where
  -- the rows are `bs ++ c ∷ []`, if `bs` are the first rows, and `c` is the next row
  pub rows_at-next : {A : Type 0} (a b s w : ℕ) (bs : List (Body A)) (c : Body A) → RowsAt m a b s w (rows_of bs)
      → length c.words ≡ a → count (trees_of c.slots) ≡ b →
      AreWordsAt m s (w + count_rows (rows_of bs) * (a + b)) c.words
      → AreAt m s (w + count_rows (rows_of bs) * (a + b) + a) (trees_of c.slots) →
      RowsAt m a b s w (rows_of (bs ++ c ∷ []))
  rows_at-next a b s w [] c h la lb ws ss =
      let e : w + 0 * (a + b) ≡ w = omega arith in
      let f : w + 0 * (a + b) + a ≡ w + a = omega arith in
      (la, lb, rw e at ws, rw f at ss, tt)
  rows_at-next a b s w (d ∷ bs) c h la lb ws ss =
      let n = count_rows (rows_of bs) in
      let x : suc n * (a + b) ≡ a + b + n * (a + b) = omega arith in
      let e : w + suc n * (a + b) ≡ w + a + b + n * (a + b) = omega arith in
      let f : w + suc n * (a + b) + a ≡ w + a + b + n * (a + b) + a = omega arith in
      (h.0, h.1, h.2, h.3, rows_at-next a b s (w + a + b) bs c h.4 la lb (rw e at ws) (rw f at ss))

  -- a row `c` appended to `bs` adds one to the number of rows
  pub count_rows-next : {A : Type 0} (bs : List (Body A)) (c : Body A)
      → count_rows (rows_of (bs ++ c ∷ [])) ≡ count_rows (rows_of bs) + 1
  count_rows-next [] c = refl
  count_rows-next (d ∷ bs) c = let e = count_rows-next bs c in omega arith

  pub rows_at-step : {A : Type 0} (a b s w next n : ℕ) (bs : List (Body A)) (c : Body A) → RowsAt m a b s w (rows_of bs)
      → count_rows (rows_of bs) ≡ n → next ≡ w + n * (a + b) →
      length c.words ≡ a → take a (words_from m s next) ≡ c.words → count (trees_of c.slots) ≡ b
      → AreAt m s (next + a) (trees_of c.slots) → RowsAt m a b s w (rows_of (bs ++ c ∷ []))
  rows_at-step a b s w next n bs c h l e la ws lb ss =
      let p : next ≡ w + count_rows (rows_of bs) * (a + b) = e ∙ ap (λ (k : ℕ). w + k * (a + b)) (sym l) in
      let words : AreWordsAt m s next c.words = ap (λ (k : ℕ). take k (words_from m s next)) la ∙ ws in
      rows_at-next a b s w bs c h la lb (subst (λ (q : ℕ). AreWordsAt m s q c.words) p words)
      (subst (λ (q : ℕ). AreAt m s q (trees_of c.slots)) (ap (λ (q : ℕ). q + a) p) ss)
