-- Lemmas for `slot_lines` and `text_of_holder`. A path leads to a slot in range, and the object that holds the slot
-- begins at a place in range.
use Rattle.std.proofs.Common.{◌≡◌, inl, inr, ℕ, zero, suc, ◌+◌, ◌*◌, ◌<◌, ◌≤◌, List, [], ◌∷◌, ◌++◌, length}
use Rattle.std.proofs.Common.{◌-◌, Ok, refl, ap, sym, subst, arith, length-append}
use Rattle.std.proofs.lemmas.Nat.{row_fits, row_below_turned, div-mul-add}
use Rattle.std.specs.Bool.{⊤}
use Rattle.capn_words.specs.Message.{segment_at, IsPlace}
use Rattle.capn_words.specs.declared.space.Place.{Place}
use Rattle.capn_words.specs.declared.pointer.Width.TheVariants.{W0, W1, W8, W16, W32, W64, Link, Rows}
use Rattle.capn_target.specs.declared.target.Target.{Target}
use Rattle.capn_target.specs.declared.target.Target.TheVariants as targets
use Rattle.capn_target.specs.declared.target.Shape.TheVariants as shapes
use Rattle.capn_target.specs.Target.{target}
use Rattle.capn_target.specs.Shapes.{IsInMessage}
use Rattle.capn_target.proofs.shared.Inside.{found-inside}
use Rattle.capn_walk.specs.Visits.{places, row_places}
use Rattle.capn_walk.specs.View.{slots_below}
use Rattle.capn_value.specs.Cost.{base}
use Rattle.capn_walk.specs.Accepted.{root, IsWalkRefused}
use Rattle.capn_walk.specs.Limits.{Bounds}
use Rattle.capn_walk.specs.declared.walk_answer.Stopped.{Stopped}
use Rattle.capn_path.specs.declared.holder.Holder.{Holder}
use Rattle.capn_path.specs.Paths.{AreNumbersOf, Leads, IsPathTo, IsRefusedAt}
use Rattle.capn_path.specs.Holders.{row_start, IsHeldIn, IsHolder}
use Rattle.capn_diagnostics.specs.Refusal.{beginning}

-- ---- numbers of slots

places-length : (s w n : ℕ) → length (places s w n) ≡ n
places-length s w zero = refl
places-length s w (suc n) = ap suc (places-length s (w + 1) n)

rows-length : (s w a b n : ℕ) → length (row_places s w a b n) ≡ n * b
rows-length s w a b zero = omega arith
rows-length s w a b (suc n) =
    let l = length-append (places s (w + a) b) (row_places s (w + a + b) a b n) in
    let one = places-length s (w + a) b in
    let more = rows-length s (w + a + b) a b n in
    omega arith

some-of : (ps before : List Place) (p : Place) (behind : List Place) → ps ≡ before ++ p ∷ behind → 0 < length ps
some-of ps before p behind e = let l = length-append before (p ∷ behind) in let n = ap length e in omega arith

no-slot : (before : List Place) (p : Place) (behind : List Place) → [] ≡ before ++ p ∷ behind → ⊥
no-slot before p behind e = let n = some-of [] before p behind e in omega arith

low-row : (row slot b n : ℕ) → slot < b → row * b + slot < n * b → row < n
low-row row slot b n h k =
    let q = row_below_turned (row * b + slot) b n b k (omega arith) in rw (div-mul-add row b slot h) at q.1

some-visit : (n : ℕ) → (n ≡ 0 → ⊥) → 0 < n
some-visit zero h = absurd (h refl)
some-visit (suc n) h = omega arith

module _ (m : List (List ℕ)) where
  -- ---- the slots of an object

  abbrev AllPlaces : List Place → Type 0
  AllPlaces [] = ⊤
  AllPlaces (p ∷ ps) = IsPlace m p × AllPlaces ps

  all-append : (ps qs : List Place) → AllPlaces ps → AllPlaces qs → AllPlaces (ps ++ qs)
  all-append [] qs a b = b
  all-append (p ∷ ps) qs a b = (a.0, all-append ps qs a.1 b)

  one-of : (before : List Place) (p : Place) (behind : List Place) → AllPlaces (before ++ p ∷ behind) → IsPlace m p
  one-of [] p behind h = h.0
  one-of (q ∷ before) p behind h = one-of before p behind h.1

  in-places : (s w n : ℕ) → w + n ≤ length (segment_at m s) → AllPlaces (places s w n)
  in-places s w zero h = tt
  in-places s w (suc n) h = (omega arith, in-places s (w + 1) n (omega arith))

  in-rows : (s w a b n : ℕ) → w + n * (a + b) ≤ length (segment_at m s) → AllPlaces (row_places s w a b n)
  in-rows s w a b zero h = tt
  in-rows s w a b (suc n) h =
      let e : suc n * (a + b) ≡ a + b + n * (a + b) = omega arith in
      all-append (places s (w + a) b) (row_places s (w + a + b) a b n) (in-places s (w + a) b (omega arith))
      (in-rows s (w + a + b) a b n (omega arith))

  in-slots : (t : Target) → IsInMessage m t → AllPlaces (slots_below t)
  in-slots targets.Nil h = tt
  in-slots (targets.Cap k) h = tt
  in-slots (targets.Content s start (shapes.Node a b) pads) h =
      let i = h.0.within in in-places s (start + a) b (omega arith)
  in-slots (targets.Content s start (shapes.Many W0 n) pads) h = tt
  in-slots (targets.Content s start (shapes.Many W1 n) pads) h = tt
  in-slots (targets.Content s start (shapes.Many W8 n) pads) h = tt
  in-slots (targets.Content s start (shapes.Many W16 n) pads) h = tt
  in-slots (targets.Content s start (shapes.Many W32 n) pads) h = tt
  in-slots (targets.Content s start (shapes.Many W64 n) pads) h = tt
  in-slots (targets.Content s start (shapes.Many Link n) pads) h =
      let i = h.0.within in in-places s start n (omega arith)
  in-slots (targets.Content s start (shapes.Many Rows n) pads) h = tt
  in-slots (targets.Content s start (shapes.Rows n a b span) pads) h =
      let i = h.0.within in
      let j = h.1 in
      in-rows s (start + 1) a b n (omega arith)

  -- If the place `at` is in range, each slot `p` below its target `t` is in range.
  slot-in : (at : Place) (t : Target) (before : List Place) (p : Place) (behind : List Place) → IsPlace m at
      → target m at ≡ Ok t → slots_below t ≡ before ++ p ∷ behind → IsPlace m p
  slot-in at t before p behind h e s =
      one-of before p behind (subst AllPlaces s (in-slots t (found-inside m at t h e)))

  -- ---- a path

  -- If the place `from` is in range, the place `to`, to which `path` leads from `from`, is in range.
  led-in : (base d : ℕ) (from : Place) (path : List ℕ) (to : Place) (n : ℕ) → IsPlace m from
      → Leads m base d from path to n → IsPlace m to
  led-in base zero from [] to n h l = subst (IsPlace m) (sym l.0) h
  led-in base zero from (i ∷ path) to n h l = absurd l
  led-in base (suc d) from [] to n h l = subst (IsPlace m) (sym l.0) h
  led-in base (suc d) from (i ∷ path) to n h l =
      led-in base d l.slot l.rest to l.later (slot-in from l.found l.before l.slot l.behind h l.names l.slots) l.onward

  -- ---- the object that holds a slot

  -- If the target `t` is in the message, the object `holder`, which holds a slot below `t`, begins at a place in range.
  held-in : (t : Target) (numbers : List ℕ) (before : List Place) (p : Place) (behind : List Place)
      (holder : Holder) → IsInMessage m t → slots_below t ≡ before ++ p ∷ behind
      → AreNumbersOf t (length before) numbers → IsHeldIn t numbers holder → IsPlace m (beginning holder)
  held-in targets.Nil numbers before p behind holder h e a held = absurd held
  held-in (targets.Cap k) numbers before p behind holder h e a held = absurd held
  held-in (targets.Content s start (shapes.Node x y) pads) numbers before p behind holder h e a held =
      let i = h.0.within in
      let some = some-of (places s (start + x) y) before p behind e in
      let n = places-length s (start + x) y in
      let there : start < length (segment_at m s) = omega arith in
      subst (λ (o : Holder). IsPlace m (beginning o)) (sym held) there
  held-in (targets.Content s start (shapes.Many Link n) pads) numbers before p behind holder h e a held =
      let i = h.0.within in
      let some = some-of (places s start n) before p behind e in
      let l = places-length s start n in
      let there : start < length (segment_at m s) = omega arith in
      subst (λ (o : Holder). IsPlace m (beginning o)) (sym held) there
  held-in (targets.Content s start (shapes.Many W0 n) pads) numbers before p behind holder h e a held =
      absurd (no-slot before p behind e)
  held-in (targets.Content s start (shapes.Many W1 n) pads) numbers before p behind holder h e a held =
      absurd (no-slot before p behind e)
  held-in (targets.Content s start (shapes.Many W8 n) pads) numbers before p behind holder h e a held =
      absurd (no-slot before p behind e)
  held-in (targets.Content s start (shapes.Many W16 n) pads) numbers before p behind holder h e a held =
      absurd (no-slot before p behind e)
  held-in (targets.Content s start (shapes.Many W32 n) pads) numbers before p behind holder h e a held =
      absurd (no-slot before p behind e)
  held-in (targets.Content s start (shapes.Many W64 n) pads) numbers before p behind holder h e a held =
      absurd (no-slot before p behind e)
  held-in (targets.Content s start (shapes.Many Rows n) pads) numbers before p behind holder h e a held =
      absurd (no-slot before p behind e)
  held-in (targets.Content s start (shapes.Rows n x y span) pads) (row ∷ slot ∷ []) before p behind holder h e a held =
      let i = h.0.within in
      let room = h.1 in
      let small = a.0 in
      let number = a.1 in
      let all = ap length e in
      let front = length-append before (p ∷ behind) in
      let l = rows-length s (start + 1) x y n in
      let low = low-row row slot y n small (omega arith) in
      let fits = row_fits row (x + y) n (x + y) low (omega arith) in
      let there : row_start start x y row < length (segment_at m s) = omega arith in
      subst (λ (o : Holder). IsPlace m (beginning o)) (sym held) there
  held-in (targets.Content s start (shapes.Rows n x y span) pads) [] before p behind holder h e a held = absurd held
  held-in (targets.Content s start (shapes.Rows n x y span) pads) (row ∷ []) before p behind holder h e a held =
      absurd held
  held-in (targets.Content s start (shapes.Rows n x y span) pads) (row ∷ slot ∷ k ∷ ks) ps p qs holder h e a held =
      absurd held

  -- If the root is in range, the object `holder`, which holds the slot at `to`, begins at a place in range. `path`
  -- leads to this slot.
  pub holder-in : (path : List ℕ) (to : Place) (holder : Holder) → IsPlace m root → IsHolder m path to holder
      → IsPlace m (beginning holder)
  holder-in path to holder h x =
      let from = led-in x.base x.depth root x.front x.from x.between h x.leads in
      held-in x.found x.numbers x.before to x.behind holder (found-inside m x.from x.found from x.names) x.slots x.are
      x.held

  -- ---- the place where a walk stops

  module _ (limits : Bounds) (stopped : Stopped) where
    -- If a refused walk made a visit, the message has a root.
    rooted : IsWalkRefused m limits stopped.fault stopped.place stopped.paid stopped.visits
        → (stopped.visits ≡ 0 → ⊥) → 0 < length (segment_at m 0)
    rooted (inl h) some = absurd (some h.4)
    rooted (inr h) some = h.0

    -- If a refused walk made no visit, the message has no root.
    rootless : IsWalkRefused m limits stopped.fault stopped.place stopped.paid stopped.visits
        → stopped.visits ≡ 0 → length (segment_at m 0) ≡ 0
    rootless (inl h) none = h.0
    rootless (inr h) none = let k = h.1.number in absurd (omega arith)

    module _ (path : List ℕ) (h : IsRefusedAt m limits stopped path) where
      pub no-root : stopped.visits ≡ 0 → length (segment_at m 0) ≡ 0
      no-root none = rootless h.refused none

      module _ (some : stopped.visits ≡ 0 → ⊥) where
        pub has-root : 0 < length (segment_at m 0)
        has-root = rooted h.refused some

        pub path-there : IsPathTo m limits (stopped.visits - 1) path stopped.place
        path-there = h.leads (some-visit stopped.visits some)

        -- The walk stopped at a place in range.
        pub stopped-in : IsPlace m stopped.place
        stopped-in =
            led-in (base limits.tariff) limits.depth root path stopped.place (stopped.visits - 1) has-root path-there
