-- Each word belongs to the visit of a word of the message that is followed, and so is marked by the object of that
-- slot.
use Rattle.std.proofs.Common.{◌≡◌, ℕ, suc, ◌+◌, ◌*◌, ◌<◌, ◌==◌, Bool, true, false, ◌&&◌, ◌||◌, if◌then◌else◌}
use Rattle.std.proofs.Common.{List, [], ◌∷◌, length, get_or, replicate, Option, Some, None, Result, Ok, Err}
use Rattle.std.proofs.Common.{refl, ap, ap₂, sym, ◌∙◌, arith}
use Rattle.std.proofs.lemmas.List.{length-replicate}
use Rattle.std.proofs.lemmas.List.Sums.{sum_by-cons}
use Rattle.capn_words.specs.Message.{IsPlace, total}
use Rattle.capn_words.specs.declared.space.Place.{Place}
use Rattle.capn_words.proofs.shared.Choices.{same-yes}
use Rattle.capn_target.specs.declared.target.Target.TheVariants as targets
use Rattle.capn_target.specs.declared.target.Target.{Target}
use Rattle.capn_target.specs.declared.target.Shape.TheVariants as shapes
use Rattle.capn_target.specs.declared.target.Fault.{Fault}
use Rattle.capn_target.specs.Target.{target}
use Rattle.capn_walk.specs.Accepted.{root}
use Rattle.capn_cover.specs.declared.covered.Covered.{Covered}
use Rattle.capn_cover.specs.declared.covered.Role.TheVariants as roles
use Rattle.capn_cover.specs.Numbers.{number, place_from}
use Rattle.capn_cover.specs.Cuts.{is_in, is_cut, is_cut_at, is_cut_of}
use Rattle.capn_cover.specs.Covers.{Covering, belonging, belongs_at, cover_at, holder, is_followed, unreached, whole}
use Rattle.capn_cover.specs.Cover.{all_times}
use Rattle.capn_cover.specs.inner.Laid.{cover_below, laid, uncut}
use Rattle.capn_cover.specs.inner.Marked.{marked, AreMarked, AreUnmarked}
use Rattle.capn_cover.proofs.CoverAt.{all-laid}
use Rattle.capn_cover.proofs.LaidItems.{laid-length}
use Rattle.capn_cover.proofs.SlotPlaces.{AllSlots, all-slots, below-total, slots-more}

-- ---- the marks of words

and-false : (a : Bool) → (a && false) ≡ false
and-false true = refl
and-false false = refl

module _ (m : List (List ℕ)) where
  none-of : (r : Result Target Fault) (v : ℕ) → is_cut_of m r roles.Unreached v ≡ false
  none-of (Ok (targets.Content s start (shapes.Node a b) pads)) v =
      and-false (is_in (number m (record { segment = s; word = start })) (1 * (a + b)) v)
  none-of (Ok (targets.Content s start (shapes.Many w n) pads)) v = refl
  none-of (Ok (targets.Content s start (shapes.Rows n a b span) pads)) v =
      and-false (is_in (number m (record { segment = s; word = start + 1 })) (n * (a + b)) v)
  none-of (Ok targets.Nil) v = refl
  none-of (Ok (targets.Cap k)) v = refl
  none-of (Err e) v = refl

  none-at : (p : Option Place) (v : ℕ) → is_cut_at m p roles.Unreached v ≡ false
  none-at (Some at) v = none-of (target m at) v
  none-at None v = refl

  -- canonical bytes leave out no word that nothing covers
  not-cut : (slot v : ℕ) → is_cut m slot roles.Unreached v ≡ false
  unfolding is_cut
  not-cut slot v = none-at (place_from 0 m slot) v

  -- the mark of a word is that of its cover
  pub marked-cover : (cs : List Covering) (w : ℕ) → marked m w (uncut (cover_at m cs w)) ≡ cover_at m cs w
  marked-cover cs w =
      ap (λ (x : Covered). record x { holder = holder cs 0 w; is_followed = is_followed cs w }) (same cs)
    where
      same : (ds : List Covering) → marked m w (uncut (belongs_at m ds w)) ≡ belongs_at m ds w
      same [] = ap (λ (b : Bool). record unreached { cut = b }) (not-cut 0 w)
      same (c ∷ ds) = by (c.word == w) (same ds)
        where
          by : (b : Bool) → marked m w (uncut (belongs_at m ds w)) ≡ belongs_at m ds w
              → marked m w (uncut (if b then belonging m c ds w else belongs_at m ds w))
              ≡ (if b then belonging m c ds w else belongs_at m ds w)
          by true rest = refl
          by false rest = rest

-- ---- the slots to whose visits words belong

-- the slot of each covering is followed
all-followed : (cs : List Covering) → AllSlots (λ k. is_followed cs k ≡ true) cs
all-followed [] = tt
all-followed (c ∷ cs) = (
  ap (λ (b : Bool). b || is_followed cs c.slot) (same-yes c.slot c.slot refl),
  slots-more (λ k. is_followed cs k ≡ true) (λ k. is_followed (c ∷ cs) k ≡ true)
      (λ k e. or-right (c.slot == k) (is_followed cs k) e) cs (all-followed cs),
)
  where
    or-right : (a b : Bool) → b ≡ true → (a || b) ≡ true
    or-right true b e = refl
    or-right false b e = e

module _ (m : List (List ℕ)) where
  -- a statement that holds of the slots of all coverings, and of the root's, holds of the slot of each word
  module _ (P : ℕ → Type 0) (first : P 0) where
    of-word : (cs : List Covering) → AllSlots P cs → (w : ℕ) → P (belongs_at m cs w).slot
    of-word [] h w = first
    of-word (c ∷ cs) h w = by (c.word == w) (of-word cs h.1 w)
      where
        by : (b : Bool) → P (belongs_at m cs w).slot → P (if b then belonging m c cs w else belongs_at m cs w).slot
        by true rest = h.0
        by false rest = rest

  module _ (d : ℕ) (place : IsPlace m root) where
    abbrev cs : List Covering
    cs = whole ∷ cover_below m d root

    abbrev items : List Covered
    items = laid m cs (replicate (total m) unreached)

    item : (w : ℕ) → w < total m → get_or items w unreached ≡ uncut (cover_at m cs w)
    item w h = let n = length-replicate (total m) unreached in all-laid m cs (total m) w h (omega arith)

    -- the words that are covered are not marked, and belong to the visits of words that are followed
    pub unmarked : AreUnmarked items
    unmarked =
        let l = laid-length m cs (replicate (total m) unreached) in
        let n = length-replicate (total m) unreached in
        record {
          uncut = λ v h. ap (λ (x : Covered). x.cut) (item v (omega arith));
          slots = λ v h. let k : ℕ = (cover_at m cs v).slot in
              let inside = of-word (λ k. k < total m) (below-total m root place) cs
              (below-total m root place, all-slots m (λ k. k < total m) (below-total m) d root place) v in
              let same = ap (λ (x : Covered). x.slot) (item v (omega arith)) in
              ap (λ (j : ℕ). (get_or items j unreached).is_followed) same
              ∙ ap (λ (x : Covered). x.is_followed) (item k inside)
              ∙ of-word (λ k. is_followed cs k ≡ true) refl cs (all-followed cs) v;
        }

-- ---- the times of words that are marked

abbrev times_of : Covered → ℕ
times_of c = c.times

same-times : (xs ys : List Covered) → length xs ≡ length ys
    → ((w : ℕ) → w < length ys → (get_or xs w unreached).times ≡ (get_or ys w unreached).times)
    → all_times xs ≡ all_times ys
same-times [] [] e h = refl
same-times [] (y ∷ ys) e h = absurd (omega arith)
same-times (x ∷ xs) [] e h = absurd (omega arith)
same-times (x ∷ xs) (y ∷ ys) e h =
    let a : x.times ≡ y.times = h 0 (omega arith) in
    let b = same-times xs ys (omega arith) (λ w l. h (suc w) (omega arith)) in
    sum_by-cons times_of x xs ∙ ap₂ (λ (i j : ℕ). i + j) a b ∙ sym (sum_by-cons times_of y ys)

pub marked-times : (m : List (List ℕ)) (old new : List Covered) → AreMarked m old new → all_times new ≡ all_times old
marked-times m old new h = same-times new old h.count (λ w l. ap (λ (x : Covered). x.times) (h.each w l))
