-- The words of each slot that is followed are known together, before and after each visit.
use Rattle.std.proofs.Common.{◌≡◌, ◌⊎◌, inl, inr, ℕ, ◌<◌, ◌≤◌, nat_lt, Bool, true, false, ◌&&◌, List}
use Rattle.std.proofs.Common.{[], ◌∷◌, length, get_or, set}
use Rattle.std.proofs.Common.{replicate, Some, refl, ap, sym, ◌∙◌, arith}
use Rattle.std.proofs.lemmas.Bool.{cases_eq, cases_lt}
use Rattle.std.proofs.lemmas.Bool.Decides.{nat_tests}
use Rattle.std.proofs.lemmas.List.{get_or-set_same, get_or-set_other, get_or_past, get_or-replicate, length-replicate}
use Rattle.std.proofs.lemmas.List.{length-set}
use Rattle.capn_words.specs.Message.{IsPlace}
use Rattle.capn_words.specs.declared.space.Place.{Place}
use Rattle.capn_target.specs.Target.{target}
use Rattle.capn_cover.specs.declared.covered.Covered.{Covered}
use Rattle.capn_cover.specs.Numbers.{number, place_from}
use Rattle.capn_cover.specs.Covers.{Covering, covers, unreached, whole}
use Rattle.capn_cover.specs.inner.Known.{AreKnown, AreKnownTogether, is_repeated}
use Rattle.capn_cover.specs.inner.Laid.{once_more, followed, followed_in, touched, laid, IsFollowed}
use Rattle.capn_cover.proofs.Following.{once-followed}
use Rattle.capn_cover.proofs.KnownWords.{all-stay, all-known}
use Rattle.capn_cover.proofs.PlaceOf.{place-of-number}
use Rattle.capn_cover.proofs.SlotPlaces.{AllSlots, slots-covers}

-- two places with one number are one place
pub one-place : (m : List (List ℕ)) (at by : Place) → IsPlace m at → IsPlace m by → number m by ≡ number m at → by ≡ at
one-place m at by h k e =
    let same : Some by ≡ Some at = sym (place-of-number m by k) ∙ ap (place_from 0 m) e ∙ place-of-number m at h in
    cc

module _ (m : List (List ℕ)) where
  -- an item is followed before a change of one item, if it is after it and the change adds no mark
  set-followed : (k : ℕ) (y : Covered) (cells : List Covered) (w : ℕ)
      → (y.is_followed ≡ true → IsFollowed k cells) → IsFollowed w (set cells k y) → IsFollowed w cells
  set-followed k y cells w g h = elim (cases_eq w k) [
    | inl e ↦
        let here : IsFollowed k (set cells k y) = rw e at h in
        rw e (by-length here (cases_lt k (length cells)))
    | inr n ↦ ap (λ (x : Covered). x.is_followed) (sym (get_or-set_other cells k w y unreached n)) ∙ h
  ]
    where
      by-length : IsFollowed k (set cells k y) → (k < length cells) ⊎ (length cells ≤ k) → IsFollowed k cells
      by-length here (inl l) =
          g (ap (λ (x : Covered). x.is_followed) (sym (get_or-set_same cells k y unreached l)) ∙ here)
      by-length here (inr l) =
          let n = length-set cells k y in
          let e = get_or_past (set cells k y) k unreached (omega arith) in
          let no : false ≡ true = ap (λ (x : Covered). x.is_followed) (sym e) ∙ here in
          absurd cc

  -- a covering marks the slot of its visit alone
  touched-followed : (c : Covering) (cells : List Covered) (w : ℕ) → IsFollowed w (touched m c cells)
      → IsFollowed w cells ⊎ (w ≡ c.slot)
  touched-followed c cells w h = elim (cases_eq w c.slot) [
    | inl e ↦ inr e
    | inr n ↦
        let done : List Covered = followed_in c.slot cells in
        let x : Covered = get_or done c.word unreached in
        let now = set-followed c.word (once_more m c.slot c.role x) done w
        (λ f. sym (once-followed m c.slot c.role x) ∙ f) h in
        inl (ap (λ (y : Covered). y.is_followed)
        (sym (get_or-set_other cells c.slot w (followed (get_or cells c.slot unreached)) unreached n)) ∙ now)
  ]

  -- coverings by the visit of one slot mark that slot alone
  laid-followed : (slot : ℕ) (cs : List Covering) (cells : List Covered) (w : ℕ) → AllSlots (λ k. k ≡ slot) cs
      → IsFollowed w (laid m cs cells) → IsFollowed w cells ⊎ (w ≡ slot)
  laid-followed slot [] cells w a h = inl h
  laid-followed slot (c ∷ cs) cells w a h = elim (laid-followed slot cs (touched m c cells) w a.1 h) [
    | inl f ↦ elim (touched-followed c cells w f) [
      | inl g ↦ inl g
      | inr e ↦ inr (e ∙ a.0)
    ]
    | inr e ↦ inr e
  ]

  -- the visit of a slot keeps the words of each slot known together
  pub visit-together : (at : Place) (cells new : List Covered) → IsPlace m at
      → new ≡ laid m (covers m at (target m at)) cells → AreKnownTogether m cells → AreKnownTogether m new
  visit-together at cells new h e t =
      rw e (record {
        each = λ by k low f. by-mark by k low (laid-followed (number m at) cs cells (number m by)
            (slots-covers (λ i. i ≡ number m at) m at (target m at) refl) f);
      })
    where
      cs : List Covering
      cs = covers m at (target m at)

      by-mark : (by : Place) → IsPlace m by → 0 < number m by
          → IsFollowed (number m by) cells ⊎ (number m by ≡ number m at)
          → AreKnown m (covers m by (target m by)) (laid m cs cells)
      by-mark by k low (inl f) = all-stay m (covers m by (target m by)) cs cells (t.each by k low f)
      by-mark by k low (inr s) = rw (one-place m at by h k s) (all-known m cs cells)

  -- before the first visit, only the root's slot is followed
  pub fresh-together : (n : ℕ) → AreKnownTogether m (touched m whole (replicate n unreached))
  fresh-together n = record {
    each = λ by k low f. absurd (none by low (touched-followed whole (replicate n unreached) (number m by) f));
  }
    where
      fresh : (w : ℕ) → (get_or (replicate n unreached) w unreached).is_followed ≡ false
      fresh w = elim (cases_lt w n) [
        | inl l ↦ ap (λ (x : Covered). x.is_followed) (get_or-replicate n w unreached unreached l)
        | inr l ↦
            let c = length-replicate n unreached in
            ap (λ (x : Covered). x.is_followed) (get_or_past (replicate n unreached) w unreached (omega arith))
      ]

      none : (by : Place) → 0 < number m by
          → IsFollowed (number m by) (replicate n unreached) ⊎ (number m by ≡ whole.slot) → ⊥
      none by low (inl g) =
          let no : false ≡ true = sym (fresh (number m by)) ∙ g in
          cc
      none by low (inr e) = let z : whole.slot ≡ 0 = refl in omega arith

both : (a b : Bool) → (a && b) ≡ true → (a ≡ true) × (b ≡ true)
both true true h = (refl, refl)
both true false h = absurd cc
both false b h = absurd cc

-- a slot that is visited again has a number above 0, and is followed
pub repeated : (slot : ℕ) (cells : List Covered) → is_repeated slot cells ≡ true → (0 < slot) × IsFollowed slot cells
repeated slot cells h =
    let b = both (nat_lt 0 slot) (get_or cells slot unreached).is_followed h in
    let t = b.0 in
    let low : 0 < slot = grind (arith, nat_tests) in
    (low, b.1)
