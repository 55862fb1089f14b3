-- Each covering is by the visit of a slot of the message.
use Rattle.std.proofs.Common.{◌≡◌, ◌⊎◌, inl, inr, ℕ, zero, suc, ◌+◌, ◌-◌, ◌*◌, ◌<◌, ◌≤◌, List, [], ◌∷◌, ◌++◌}
use Rattle.std.proofs.Common.{length, Result, Ok, Err, refl, ap, arith}
use Rattle.std.specs.Prelude.{⊤}
use Rattle.std.specs.List.{flat_map}
use Rattle.std.proofs.lemmas.Bool.{cases_lt}
use Rattle.std.proofs.lemmas.List.{get_or_past}
use Rattle.capn_words.specs.Message.{IsPlace, segment_at, total}
use Rattle.capn_words.specs.declared.space.Place.{Place}
use Rattle.capn_words.specs.declared.pointer.Pointer.{Pointer}
use Rattle.capn_words.specs.declared.pointer.Pointer.TheVariants.{Nil, Node, Many, Far, Cap, Reserved}
use Rattle.capn_words.specs.declared.pointer.Width.TheVariants.{W0, W1, W8, W16, W32, W64, Link, Rows}
use Rattle.capn_target.specs.declared.target.Target.{Target}
use Rattle.capn_target.specs.declared.target.Target.TheVariants as targets
use Rattle.capn_target.specs.declared.target.Shape.{Shape}
use Rattle.capn_target.specs.declared.target.Shape.TheVariants as shapes
use Rattle.capn_target.specs.declared.target.Fault.{Fault}
use Rattle.capn_target.specs.Target.{content_words, pointer_in, target}
use Rattle.capn_target.specs.Shapes.{RowsFit, extent}
use Rattle.capn_target.proofs.shared.Inside.{found-inside}
use Rattle.capn_walk.specs.Visits.{places, row_places, slots}
use Rattle.capn_cover.specs.declared.covered.Role.{Role}
use Rattle.capn_cover.specs.declared.covered.Role.TheVariants as roles
use Rattle.capn_cover.specs.Numbers.{number}
use Rattle.capn_cover.specs.Covers.{Covering, run, rows_run, content_run, pad_run, covers}
use Rattle.capn_cover.specs.inner.Laid.{below, cover_below}
use Rattle.capn_cover.proofs.Before.{within}

-- ---- places

-- each of the places is in the message
abbrev pub ArePlaces : List (List ℕ) → List Place → Type 0
ArePlaces m [] = ⊤
ArePlaces m (p ∷ ps) = IsPlace m p × ArePlaces m ps

module _ (m : List (List ℕ)) where
  places-both : (ps qs : List Place) → ArePlaces m ps → ArePlaces m qs → ArePlaces m (ps ++ qs)
  places-both [] qs g h = h
  places-both (p ∷ ps) qs g h = (g.0, places-both ps qs g.1 h)

  -- `n` slots one after another
  places-run : (s w n : ℕ) → w + n ≤ length (segment_at m s) → ArePlaces m (places s w n)
  places-run s w zero h = tt
  places-run s w (suc n) h = (omega arith, places-run s (w + 1) n (omega arith))

  -- the slots of rows
  places-rows : (s w a b n : ℕ) → w + n * (a + b) ≤ length (segment_at m s) → ArePlaces m (row_places s w a b n)
  places-rows s w a b zero h = tt
  places-rows s w a b (suc n) h =
      let k : suc n * (a + b) ≡ a + b + n * (a + b) = omega arith in
      places-both (places s (w + a) b) (row_places s (w + a + b) a b n) (places-run s (w + a) b (omega arith))
      (places-rows s (w + a + b) a b n (omega arith))

  -- the slots of an object
  places-content : (s start : ℕ) (shape : Shape) → RowsFit shape → start + extent shape ≤ length (segment_at m s)
      → ArePlaces m (slots s start shape)
  places-content s start (shapes.Node a b) f h = places-run s (start + a) b (omega arith)
  places-content s start (shapes.Many W0 n) f h = tt
  places-content s start (shapes.Many W1 n) f h = tt
  places-content s start (shapes.Many W8 n) f h = tt
  places-content s start (shapes.Many W16 n) f h = tt
  places-content s start (shapes.Many W32 n) f h = tt
  places-content s start (shapes.Many W64 n) f h = tt
  places-content s start (shapes.Many Link n) f h = places-run s start n h
  places-content s start (shapes.Many Rows n) f h = tt
  places-content s start (shapes.Rows n a b span) f h = places-rows s (start + 1) a b n (omega arith)

  -- the slots below a target
  places-below : (at : Place) (r : Result Target Fault) → IsPlace m at → target m at ≡ r → ArePlaces m (below r)
  places-below at (Ok (targets.Content s start shape pads)) h e =
      let i = found-inside m at (targets.Content s start shape pads) h e in
      places-content s start shape i.1 i.0.within
  places-below at (Ok targets.Nil) h e = tt
  places-below at (Ok (targets.Cap k)) h e = tt
  places-below at (Err x) h e = tt

-- the number of a place is below the number of words
pub below-total : (m : List (List ℕ)) (p : Place) → IsPlace m p → number m p < total m
below-total m p h = by (cases_lt p.segment (length m))
  where
    by : (p.segment < length m) ⊎ (length m ≤ p.segment) → number m p < total m
    by (inl l) = let w = within m p.segment l in omega arith
    by (inr past) =
        let e = get_or_past m p.segment [] past in
        let z = ap (λ (ws : List ℕ). length ws) e in
        absurd (omega arith)

-- ---- the slots by whose visits coverings are

-- the statement holds of the slot of each covering
abbrev pub AllSlots : (ℕ → Type 0) → List Covering → Type 0
AllSlots P [] = ⊤
AllSlots P (c ∷ cs) = P c.slot × AllSlots P cs

pub slots-more : (P Q : ℕ → Type 0) → ((k : ℕ) → P k → Q k) → (cs : List Covering) → AllSlots P cs → AllSlots Q cs
slots-more P Q f [] h = tt
slots-more P Q f (c ∷ cs) h = (f c.slot h.0, slots-more P Q f cs h.1)

module _ (P : ℕ → Type 0) where
  slots-both : (xs ys : List Covering) → AllSlots P xs → AllSlots P ys → AllSlots P (xs ++ ys)
  slots-both [] ys g h = h
  slots-both (x ∷ xs) ys g h = (g.0, slots-both xs ys g.1 h)

  module _ (slot : ℕ) (is : P slot) where
    slots-run : (role : Role) (first n : ℕ) → AllSlots P (run slot role first n)
    slots-run role first zero = tt
    slots-run role first (suc n) = (is, slots-run role (first + 1) n)

    slots-row : (a b first : ℕ) → AllSlots P (run slot roles.Data first a ++ run slot roles.Slot (first + a) b)
    slots-row a b first =
        slots-both (run slot roles.Data first a) (run slot roles.Slot (first + a) b) (slots-run roles.Data first a)
        (slots-run roles.Slot (first + a) b)

    slots-rows : (a b first n : ℕ) → AllSlots P (rows_run slot first a b n)
    slots-rows a b first zero = tt
    slots-rows a b first (suc n) =
        slots-both (run slot roles.Data first a ++ run slot roles.Slot (first + a) b)
        (rows_run slot (first + (a + b)) a b n) (slots-row a b first) (slots-rows a b (first + (a + b)) n)

    slots-content : (first : ℕ) (shape : Shape) → AllSlots P (content_run slot first shape)
    slots-content first (shapes.Node a b) = slots-row a b first
    slots-content first (shapes.Many W0 n) = slots-run roles.Numbers first (content_words W0 n)
    slots-content first (shapes.Many W1 n) = slots-run roles.Numbers first (content_words W1 n)
    slots-content first (shapes.Many W8 n) = slots-run roles.Numbers first (content_words W8 n)
    slots-content first (shapes.Many W16 n) = slots-run roles.Numbers first (content_words W16 n)
    slots-content first (shapes.Many W32 n) = slots-run roles.Numbers first (content_words W32 n)
    slots-content first (shapes.Many W64 n) = slots-run roles.Numbers first (content_words W64 n)
    slots-content first (shapes.Many Link n) = slots-run roles.Slot first n
    slots-content first (shapes.Many Rows n) = slots-run roles.Numbers first (content_words Rows n)
    slots-content first (shapes.Rows n a b span) =
        slots-both (run slot roles.Tag first 1)
        (rows_run slot (first + 1) a b n ++ run slot roles.Slack (first + 1 + n * (a + b)) (span - n * (a + b)))
        (slots-run roles.Tag first 1)
        (slots-both (rows_run slot (first + 1) a b n)
        (run slot roles.Slack (first + 1 + n * (a + b)) (span - n * (a + b))) (slots-rows a b (first + 1) n)
        (slots-run roles.Slack (first + 1 + n * (a + b)) (span - n * (a + b))))

    slots-pad : (m : List (List ℕ)) (pads : ℕ) (p : Pointer) → AllSlots P (pad_run m slot pads p)
    slots-pad m pads (Far double word segment) =
        slots-run roles.Pad (number m (record { segment = segment; word = word })) pads
    slots-pad m pads Nil = tt
    slots-pad m pads (Node o a b) = tt
    slots-pad m pads (Many o w n) = tt
    slots-pad m pads (Cap k) = tt
    slots-pad m pads (Reserved n) = tt

  pub slots-covers : (m : List (List ℕ)) (at : Place) (r : Result Target Fault) → P (number m at)
      → AllSlots P (covers m at r)
  slots-covers m at (Ok (targets.Content s start shape pads)) is =
      slots-both (pad_run m (number m at) pads (pointer_in m at.segment at.word))
      (content_run (number m at) (number m (record { segment = s; word = start })) shape)
      (slots-pad (number m at) is m pads (pointer_in m at.segment at.word))
      (slots-content (number m at) is (number m (record { segment = s; word = start })) shape)
  slots-covers m at (Ok targets.Nil) is = tt
  slots-covers m at (Ok (targets.Cap k)) is = tt
  slots-covers m at (Err e) is = tt

module _ (m : List (List ℕ)) (P : ℕ → Type 0) (is : (p : Place) → IsPlace m p → P (number m p)) where
  -- the statement holds of the slots whose visits cover words, at most `d` objects deep, if it holds of each slot of
  -- the message
  go-places : (g : Place → List Covering) → ((p : Place) → IsPlace m p → AllSlots P (g p)) → (ps : List Place)
      → ArePlaces m ps → AllSlots P (flat_map g ps)
  go-places g goes [] h = tt
  go-places g goes (p ∷ ps) h = slots-both P (g p) (flat_map g ps) (goes p h.0) (go-places g goes ps h.1)

  pub all-slots : (d : ℕ) (at : Place) → IsPlace m at → AllSlots P (cover_below m d at)
  unfolding cover_below
  all-slots zero at h = tt
  all-slots (suc d) at h =
      slots-both P (covers m at (target m at)) (flat_map (cover_below m d) (below (target m at)))
      (slots-covers P m at (target m at) (is at h))
      (go-places (cover_below m d) (all-slots d) (below (target m at)) (places-below m at (target m at) h refl))
