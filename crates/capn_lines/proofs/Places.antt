-- The place of a slot, the object to which it leads, and the words that lie in this object.
use Rattle.std.proofs.Common.{◌≡◌, inl, inr, ℕ, zero, suc, ◌+◌, ◌-◌, ◌==◌, ◌<◌, ◌≤◌, nat_lt}
use Rattle.std.proofs.Common.{true, false, List, [], ◌∷◌, length, take, Result, Ok, Err, Option}
use Rattle.std.proofs.Common.{Some, None, refl, sym, ◌∙◌, ap, subst, arith}
use Rattle.std.proofs.Common.{slice_index}
use Rattle.std.proofs.Math.ListN.{get_or-eq_default}
use Rattle.std.proofs.lemmas.Bool.{cases_lt}
use Rattle.std.proofs.lemmas.Bool.Decides.{nat_tests}
use Rattle.std.proofs.lemmas.List.Sums.{sum_by-cons}
use Rattle.capn_words.specs.Message.{segment_at, total, IsPlace}
use Rattle.capn_words.specs.Pointers.{pointer_of}
use Rattle.capn_words.specs.declared.space.Place.{Place}
use Rattle.capn_words.specs.declared.pointer.Pointer.{Pointer}
use Rattle.capn_words.specs.declared.pointer.Pointer.TheVariants.{Nil, Node, Many, Far, Cap, Reserved}
use Rattle.capn_words.proofs.shared.Choices.{pick}
use Rattle.capn_target.specs.declared.target.Target.{Target}
use Rattle.capn_target.specs.declared.target.Target.TheVariants as targets
use Rattle.capn_target.specs.declared.target.Shape.{Shape}
use Rattle.capn_target.specs.declared.target.Fault.{Fault}
use Rattle.capn_target.specs.Target.{pointer_in, target}
use Rattle.capn_walk.specs.Visits.{Visit, pays, fails}
use Rattle.capn_walk.specs.Accepted.{visits_within}
use Rattle.capn_walk.specs.Limits.{Bounds}
use Rattle.capn_cover.specs.declared.covered.Covered.{Covered}
use Rattle.capn_cover.specs.declared.covered.Role.{Role}
use Rattle.capn_cover.specs.declared.covered.Role.TheVariants as roles
use Rattle.capn_cover.specs.declared.part.Part.TheVariants as parts
use Rattle.capn_cover.specs.Numbers.{number, place_from}
use Rattle.capn_cover.specs.Parts.{object_of, pad_of, part, part_at, same_part}
use Rattle.capn_cover.specs.Covers.{Covering, run, content_run, pad_run, covers, covered, coverings}
use Rattle.capn_cover.specs.Covers.{belonging, belongs_at}
use Rattle.capn_lines.proofs.Objects.{size_of, of-content, Each, each-append, is_object, IsOf, content-of}
use Rattle.capn_lines.proofs.Objects.{each-within, each-both}

-- ---- the place of a slot, by its number

pub place-of-number : (m : List (List ℕ)) (s k w : ℕ) → w < length (segment_at m k)
    → place_from s m (number m (record { segment = k; word = w })) ≡ Some (record { segment = s + k; word = w })
place-of-number [] s k w h = let e : length (segment_at [] k) ≡ 0 = refl in absurd (omega arith)
place-of-number (ws ∷ m) s zero w h =
    let e : 0 + w ≡ w = omega arith in
    let x : s + 0 ≡ s = omega arith in
    rw (e, x) (pick (λ (o : Option Place). o ≡ Some (record { segment = s; word = w })) (nat_lt w (length ws))
    (Some (record { segment = s; word = w })) (place_from (suc s) m (w - length ws)) (λ t. refl)
    (λ f. let no : length ws ≤ w = grind (arith, nat_tests) in absurd (omega arith)))
place-of-number (ws ∷ m) s (suc k) w h =
    let c : total (take (suc k) (ws ∷ m)) ≡ length ws + total (take k m) = sum_by-cons length ws (take k m) in
    let n = length ws + total (take k m) + w in
    let i = place-of-number m (suc s) k w h in
    let x : s + suc k ≡ suc s + k = omega arith in
    let y : n - length ws ≡ total (take k m) + w = omega arith in
    rw (c, x) (pick (λ (o : Option Place). o ≡ Some (record { segment = suc s + k; word = w })) (nat_lt n (length ws))
    (Some (record { segment = s; word = n })) (place_from (suc s) m (n - length ws))
    (λ t. let no : n < length ws = grind (arith, nat_tests) in absurd (omega arith))
    (λ f. rw y i))

module _ (m : List (List ℕ)) where
  pub place-at : (at : Place) → IsPlace m at → place_from 0 m (number m at) ≡ Some at
  place-at at h =
      let e : 0 + at.segment ≡ at.segment = omega arith in
      let p = place-of-number m 0 at.segment at.word h in
      rw e at p

  -- ---- the part that covers a word of an object

  -- the object at a word of a segment, or no object
  abbrev pub Covers : (slot : ℕ) → (s start : ℕ) → Shape → Type 0
  Covers slot s start shape = part m slot roles.Data ≡ parts.Object s start shape

  pub part-role : (o : Option Place) (role : Role) → is_object role ≡ true → part_at m o role ≡ part_at m o roles.Data
  part-role None role e = refl
  part-role (Some at) roles.Tag e = refl
  part-role (Some at) roles.Data e = refl
  part-role (Some at) roles.Slot e = refl
  part-role (Some at) roles.Numbers e = refl
  part-role (Some at) roles.Slack e = refl
  part-role (Some at) roles.Root e = absurd cc
  part-role (Some at) roles.Pad e = absurd cc
  part-role (Some at) roles.Unreached e = absurd cc

  pub pad-other : (s start : ℕ) (shape : Shape) (p : Pointer)
      → same_part (parts.Object s start shape) (pad_of p) ≡ false
  pad-other s start shape (Far double word segment) = refl
  pad-other s start shape Nil = refl
  pad-other s start shape (Node o a b) = refl
  pad-other s start shape (Many o w n) = refl
  pad-other s start shape (Cap k) = refl
  pad-other s start shape (Reserved n) = refl

  pub pad-part : (s start : ℕ) (shape : Shape) (o : Option Place)
      → same_part (parts.Object s start shape) (part_at m o roles.Pad) ≡ false
  pad-part s start shape None = refl
  pad-part s start shape (Some at) = pad-other s start shape (pointer_in m at.segment at.word)

  pub root-part : (s start : ℕ) (shape : Shape) (o : Option Place)
      → same_part (parts.Object s start shape) (part_at m o roles.Root) ≡ false
  root-part s start shape None = refl
  root-part s start shape (Some at) = refl

  pub nil-zero : pointer_of 0 ≡ Nil
  unfolding pointer_of
  nil-zero = refl

  pub nil-target : (at : Place) → slice_index (segment_at m at.segment) at.word ≡ 0 → target m at ≡ Ok targets.Nil
  unfolding target
  nil-target at e = rw (e, nil-zero) refl

  -- a slot that leads to content has a place
  pub content-place : (at : Place) (s start pads : ℕ) (shape : Shape)
      → target m at ≡ Ok (targets.Content s start shape pads) → IsPlace m at
  content-place at s start pads shape e = elim (cases_lt at.word (length (segment_at m at.segment))) [
    | inl l ↦ l
    | inr l ↦ let n = nil-target at (get_or-eq_default (segment_at m at.segment) 0 l) in
        let x : Ok targets.Nil ≡ Ok (targets.Content s start shape pads) = sym n ∙ e in
        absurd cc
  ]

  -- the object to which a slot leads has the word with the number `w`
  pub record Lies (slot w : ℕ) : Type 0 where
    pub s : ℕ
    pub start : ℕ
    pub shape : Shape
    pub is : part m slot roles.Data ≡ parts.Object s start shape
    pub low : number m (record { segment = s; word = start }) ≤ w
    pub high : w < number m (record { segment = s; word = start }) + size_of shape

  abbrev pub Good : Covering → Type 0
  Good c = is_object c.role ≡ true → Lies c.slot c.word

  pub slot-part : (at : Place) (s start pads : ℕ) (shape : Shape)
      → target m at ≡ Ok (targets.Content s start shape pads)
      → part m (number m at) roles.Data ≡ parts.Object s start shape
  slot-part at s start pads shape e =
      ap (λ (o : Option Place). part_at m o roles.Data) (place-at at (content-place at s start pads shape e))
      ∙ ap object_of e

  pub pad-good : (slot first n : ℕ) → Each Good (run slot roles.Pad first n)
  pad-good slot first zero = tt
  pad-good slot first (suc n) = ((λ e. absurd cc), pad-good slot (first + 1) n)

  pub pads-good : (slot pads : ℕ) (p : Pointer) → Each Good (pad_run m slot pads p)
  pads-good slot pads (Far double word segment) =
      pad-good slot (number m (record { segment = segment; word = word })) pads
  pads-good slot pads Nil = tt
  pads-good slot pads (Node o a b) = tt
  pads-good slot pads (Many o w n) = tt
  pads-good slot pads (Cap k) = tt
  pads-good slot pads (Reserved n) = tt

  pub covers-good : (at : Place) (t : Result Target Fault) → target m at ≡ t → Each Good (covers m at t)
  covers-good at (Ok (targets.Content s start shape pads)) e =
      let n = number m at in
      let f = number m (record { segment = s; word = start }) in
      let r = of-content n f shape in
      let p = slot-part at s start pads shape e in
      let many = r.many in
      each-append Good (pad_run m n pads (pointer_in m at.segment at.word)) (content_run n f shape)
      (pads-good n pads (pointer_in m at.segment at.word))
      (each-both (IsOf n) (λ c. (f ≤ c.word) × (c.word < f + size_of shape)) Good (content_run n f shape)
      (λ c a b o. subst (λ (k : ℕ). Lies k c.word) (sym a.same)
      (record { s = s; start = start; shape = shape; is = p; low = b.0; high = b.1 }))
      (content-of n f shape)
      (each-within f (f + size_of shape) f (content_run n f shape) r.follow (omega arith) (omega arith)))
  covers-good at (Ok targets.Nil) e = tt
  covers-good at (Ok (targets.Cap k)) e = tt
  covers-good at (Err x) e = tt

  pub covered-good : (vs : List Visit) → Each Good (covered m vs)
  covered-good [] = tt
  covered-good (pays at n ∷ vs) =
      each-append Good (covers m at (target m at)) (covered m vs) (covers-good at (target m at) refl) (covered-good vs)
  covered-good (fails at e ∷ vs) = covered-good vs

  pub coverings-good : (limits : Bounds) → Each Good (coverings m limits)
  coverings-good limits = ((λ e. absurd cc), covered-good (visits_within m limits))

  -- a word of an object lies in the object of its slot
  pub cover-good : (cs : List Covering) (w : ℕ) → Each Good cs → is_object (belongs_at m cs w).role ≡ true
      → Lies (belongs_at m cs w).slot w
  cover-good [] w h o = absurd cc
  cover-good (c ∷ cs) w h o =
      pick (λ (x : Covered). is_object x.role ≡ true → Lies x.slot w) (c.word == w) (belonging m c cs w)
      (belongs_at m cs w)
      (λ t k. let e : c.word ≡ w = grind (arith, nat_tests) in subst (λ (v : ℕ). Lies c.slot v) e (h.0 k))
      (λ f k. cover-good cs w h.1 k) o
