-- The words that are covered from a slot on, and from slots one after another, of which the first `i` have been
-- visited.
use Rattle.std.proofs.Common.{◌≡◌, ℕ, zero, suc, ◌+◌, ◌-◌, ◌*◌, ◌<◌, ◌≢◌, List, [], ◌∷◌, ◌++◌}
use Rattle.std.proofs.Common.{Result, Ok, Err, refl, ap, ◌∙◌, arith}
use Rattle.std.proofs.lemmas.Grind.{flat_map-append}
use Rattle.std.proofs.lemmas.List.{append-nil}
use Rattle.capn_words.specs.Message.{word_at}
use Rattle.capn_words.specs.Pointers.{pointer_of}
use Rattle.capn_words.specs.declared.space.Place.{Place}
use Rattle.capn_words.specs.declared.pointer.Pointer.{Pointer}
use Rattle.capn_words.specs.declared.pointer.Pointer.TheVariants.{Nil}
use Rattle.capn_target.specs.declared.target.Target.{Target}
use Rattle.capn_target.specs.declared.target.Fault.{Fault}
use Rattle.capn_target.specs.Target.{pointer_in, target, target_of_pointer}
use Rattle.capn_walk.specs.Visits.{places, row_places}
use Rattle.capn_walk.specs.View.{slots_below}
use Rattle.capn_walk.proofs.shared.Walks.{slot, places-split, places-add}
use Rattle.capn_walk.proofs.shared.RowWalks.{row_places-add}
use Rattle.capn_cover.specs.Covers.{Covering, covers}
use Rattle.capn_cover.specs.inner.Laid.{below, cover_below, cover_of}

module _ (m : List (List ℕ)) (d s w : ℕ) where
  abbrev pub slots_to : ℕ → List Covering
  slots_to n = cover_of m d (places s w n)

  pub slots-split : (i n : ℕ) → i < n
      → slots_to n ≡ slots_to i
      ++ (cover_below m d (slot s (w + i)) ++ cover_of m d (places s (w + i + 1) (n - suc i)))
  slots-split i n h = ap (cover_of m d) (places-split s w i n h)
      ∙ flat_map-append (cover_below m d) (places s w i) (slot s (w + i) ∷ places s (w + i + 1) (n - suc i))

  pub slots-next : (i : ℕ) → slots_to (i + 1) ≡ slots_to i ++ cover_below m d (slot s (w + i))
  slots-next i =
      ap (cover_of m d) (places-add s w i 1)
      ∙ flat_map-append (cover_below m d) (places s w i) (slot s (w + i) ∷ [])
      ∙ ap (λ (cs : List Covering). slots_to i ++ cs) (append-nil (cover_below m d (slot s (w + i))))

  module _ (a b : ℕ) where
    abbrev pub rows_to : ℕ → List Covering
    rows_to n = cover_of m d (row_places s w a b n)

    -- the slots of row `i`
    abbrev pub row_slots : ℕ → List Covering
    row_slots i = cover_of m d (places s (w + i * (a + b) + a) b)

    pub rows-split : (i n : ℕ) → i < n
        → rows_to n ≡ rows_to i
        ++ (row_slots i ++ cover_of m d (row_places s (w + i * (a + b) + a + b) a b (n - suc i)))
    rows-split i n h =
        let e : n ≡ i + suc (n - suc i) = omega arith in
        ap (λ (k : ℕ). cover_of m d (row_places s w a b k)) e
        ∙ ap (cover_of m d) (row_places-add s w a b i (suc (n - suc i)))
        ∙ flat_map-append (cover_below m d) (row_places s w a b i)
        (row_places s (w + i * (a + b)) a b (suc (n - suc i)))
        ∙ ap (λ (cs : List Covering). rows_to i ++ cs)
        (flat_map-append (cover_below m d) (places s (w + i * (a + b) + a) b)
        (row_places s (w + i * (a + b) + a + b) a b (n - suc i)))

    pub rows-next : (i : ℕ) → rows_to (i + 1) ≡ rows_to i ++ row_slots i
    rows-next i =
        let e : i + 1 - suc i ≡ 0 = omega arith in
        rows-split i (i + 1) (omega arith)
        ∙ ap (λ (k : ℕ). rows_to i
        ++ (row_slots i ++ cover_of m d (row_places s (w + i * (a + b) + a + b) a b k))) e
        ∙ ap (λ (cs : List Covering). rows_to i ++ cs) (append-nil (row_slots i))

module _ (m : List (List ℕ)) (at : Place) where
  -- with no depth, nothing is covered
  pub below-zero : (d : ℕ) → d ≡ 0 → cover_below m d at ≡ []
  unfolding cover_below
  below-zero zero e = refl
  below-zero (suc d) e = absurd (omega arith)

  -- a visit covers its own words, and then the visits below it cover theirs
  pub below-target : (d : ℕ) (t : Target) → target m at ≡ Ok t → d ≢ 0
      → cover_below m d at ≡ covers m at (Ok t) ++ cover_of m (d - 1) (slots_below t)
  unfolding cover_below
  below-target zero t e h = absurd (h refl)
  below-target (suc d) t e h =
      let f : d ≡ suc d - 1 = omega arith in
      ap (λ (r : Result Target Fault). covers m at r ++ cover_of m d (below r)) e
      ∙ ap (λ (k : ℕ). covers m at (Ok t) ++ cover_of m k (slots_below t)) f

  -- a slot with a fault covers nothing
  pub below-fault : (d : ℕ) (x : Fault) → target m at ≡ Err x → cover_below m d at ≡ []
  unfolding cover_below
  below-fault zero x e = refl
  below-fault (suc d) x e = ap (λ (r : Result Target Fault). covers m at r ++ cover_of m d (below r)) e

  -- a null slot covers nothing
  pub below-null : (d : ℕ) → word_at m at ≡ 0 → cover_below m d at ≡ []
  unfolding cover_below target pointer_of
  below-null zero e = refl
  below-null (suc d) e =
      let p : pointer_in m at.segment at.word ≡ Nil = ap pointer_of e in
      ap (λ (q : Pointer). covers m at (target_of_pointer m at.segment at.word q)
      ++ cover_of m d (below (target_of_pointer m at.segment at.word q))) p
