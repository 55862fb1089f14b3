-- Words of a cover: a word that is an overlap is covered twice or more, and a word that is covered is not unreached.
use Rattle.std.proofs.Common.{◌≡◌, ◌⊎◌, inl, inr, ℕ, zero, suc, ◌+◌, ◌-◌, ◌*◌, ◌==◌, ◌<◌, ◌||◌, Bool, true, false}
use Rattle.std.proofs.Common.{List, [], ◌∷◌, ◌++◌, Result, Ok, Err, refl, arith}
use Rattle.std.proofs.Common.{if◌then◌else◌}
use Rattle.capn_words.specs.declared.space.Place.{Place}
use Rattle.capn_words.specs.declared.pointer.Pointer.{Pointer}
use Rattle.capn_words.specs.declared.pointer.Pointer.TheVariants.{Nil, Node, Many, Far, Cap, Reserved}
use Rattle.capn_words.specs.declared.pointer.Width.TheVariants.{W0, W1, W8, W16, W32, W64, Link, Rows}
use Rattle.capn_words.proofs.shared.Choices.{pick}
use Rattle.capn_target.specs.declared.target.Target.{Target}
use Rattle.capn_target.specs.declared.target.Target.TheVariants as targets
use Rattle.capn_target.specs.declared.target.Shape.{Shape}
use Rattle.capn_target.specs.declared.target.Shape.TheVariants as shapes
use Rattle.capn_target.specs.declared.target.Fault.{Fault}
use Rattle.capn_target.specs.Target.{content_words, pointer_in, target}
use Rattle.capn_walk.specs.Visits.{Visit, pays, fails}
use Rattle.capn_walk.specs.Accepted.{visits_within}
use Rattle.capn_walk.specs.Limits.{Bounds}
use Rattle.capn_cover.specs.declared.covered.Covered.{Covered}
use Rattle.capn_cover.specs.declared.covered.Role.{Role}
use Rattle.capn_cover.specs.declared.covered.Role.TheVariants as roles
use Rattle.capn_cover.specs.Numbers.{number}
use Rattle.capn_cover.specs.Parts.{differs}
use Rattle.capn_cover.specs.Covers.{Covering, run, rows_run, content_run, pad_run, covers, covered, coverings}
use Rattle.capn_cover.specs.Covers.{times, is_overlap, belonging, belongs_at}

-- the role is that of a word that something covers
abbrev pub is_reached : Role → Bool
is_reached roles.Unreached = false
is_reached _ = true

abbrev pub AreReached : List Covering → Type 0
AreReached [] = Unit {0}
AreReached (c ∷ cs) = (is_reached c.role ≡ true) × AreReached cs

both : (xs ys : List Covering) → AreReached xs → AreReached ys → AreReached (xs ++ ys)
both [] ys h k = k
both (x ∷ xs) ys h k = (h.0, both xs ys h.1 k)

run-reached : (slot : ℕ) (role : Role) (first n : ℕ) → is_reached role ≡ true → AreReached (run slot role first n)
run-reached slot role first zero e = tt
run-reached slot role first (suc n) e = (e, run-reached slot role (first + 1) n e)

rows-reached : (slot first a b n : ℕ) → AreReached (rows_run slot first a b n)
rows-reached slot first a b zero = tt
rows-reached slot first a b (suc n) =
    both (run slot roles.Data first a ++ run slot roles.Slot (first + a) b) (rows_run slot (first + (a + b)) a b n)
    (both (run slot roles.Data first a) (run slot roles.Slot (first + a) b)
    (run-reached slot roles.Data first a refl) (run-reached slot roles.Slot (first + a) b refl))
    (rows-reached slot (first + (a + b)) a b n)

content-reached : (slot first : ℕ) (shape : Shape) → AreReached (content_run slot first shape)
content-reached slot first (shapes.Node a b) =
    both (run slot roles.Data first a) (run slot roles.Slot (first + a) b)
    (run-reached slot roles.Data first a refl) (run-reached slot roles.Slot (first + a) b refl)
content-reached slot first (shapes.Many Link n) = run-reached slot roles.Slot first n refl
content-reached slot first (shapes.Many W0 n) = run-reached slot roles.Numbers first (content_words W0 n) refl
content-reached slot first (shapes.Many W1 n) = run-reached slot roles.Numbers first (content_words W1 n) refl
content-reached slot first (shapes.Many W8 n) = run-reached slot roles.Numbers first (content_words W8 n) refl
content-reached slot first (shapes.Many W16 n) = run-reached slot roles.Numbers first (content_words W16 n) refl
content-reached slot first (shapes.Many W32 n) = run-reached slot roles.Numbers first (content_words W32 n) refl
content-reached slot first (shapes.Many W64 n) = run-reached slot roles.Numbers first (content_words W64 n) refl
content-reached slot first (shapes.Many Rows n) = run-reached slot roles.Numbers first (content_words Rows n) refl
content-reached slot first (shapes.Rows n a b span) =
    both (run slot roles.Tag first 1)
    (rows_run slot (first + 1) a b n ++ run slot roles.Slack (first + 1 + n * (a + b)) (span - n * (a + b)))
    (run-reached slot roles.Tag first 1 refl)
    (both (rows_run slot (first + 1) a b n) (run slot roles.Slack (first + 1 + n * (a + b)) (span - n * (a + b)))
    (rows-reached slot (first + 1) a b n)
    (run-reached slot roles.Slack (first + 1 + n * (a + b)) (span - n * (a + b)) refl))

module _ (m : List (List ℕ)) where
  pad-reached : (slot pads : ℕ) (p : Pointer) → AreReached (pad_run m slot pads p)
  pad-reached slot pads (Far double word segment) =
      run-reached slot roles.Pad (number m (record { segment = segment; word = word })) pads refl
  pad-reached slot pads Nil = tt
  pad-reached slot pads (Node o a b) = tt
  pad-reached slot pads (Many o w n) = tt
  pad-reached slot pads (Cap k) = tt
  pad-reached slot pads (Reserved n) = tt

  covers-reached : (at : Place) (t : Result Target Fault) → AreReached (covers m at t)
  covers-reached at (Ok (targets.Content s start shape pads)) =
      both (pad_run m (number m at) pads (pointer_in m at.segment at.word))
      (content_run (number m at) (number m (record { segment = s; word = start })) shape)
      (pad-reached (number m at) pads (pointer_in m at.segment at.word))
      (content-reached (number m at) (number m (record { segment = s; word = start })) shape)
  covers-reached at (Ok targets.Nil) = tt
  covers-reached at (Ok (targets.Cap k)) = tt
  covers-reached at (Err e) = tt

  covered-reached : (vs : List Visit) → AreReached (covered m vs)
  covered-reached [] = tt
  covered-reached (pays at n ∷ vs) =
      both (covers m at (target m at)) (covered m vs) (covers-reached at (target m at)) (covered-reached vs)
  covered-reached (fails at e ∷ vs) = covered-reached vs

  pub reached : (limits : Bounds) → AreReached (coverings m limits)
  reached limits = (refl, covered-reached (visits_within m limits))

  -- a word in a role that something covers, or a word that is covered no time
  pub role-or-none : (cs : List Covering) (w : ℕ) → AreReached cs
      → (is_reached (belongs_at m cs w).role ≡ true) ⊎ ((belongs_at m cs w).times ≡ 0)
  role-or-none [] w h = inr refl
  role-or-none (c ∷ cs) w h =
      pick (λ (x : Covered). (is_reached x.role ≡ true) ⊎ (x.times ≡ 0)) (c.word == w) (belonging m c cs w)
      (belongs_at m cs w) (λ t. inl h.0) (λ f. role-or-none cs w h.1)

  one : (b x y : Bool) (n : ℕ) → (y ≡ true → 0 < n) → ((if b then x else false) || y) ≡ true
      → 0 < (if b then 1 else 0) + n
  one true x y n k e = omega arith
  one false x y n k e = let a = k e in omega arith

  -- another part than the first covers the word, so the word is covered once more
  counted : (slot : ℕ) (role : Role) (cs : List Covering) (w : ℕ) → is_overlap m slot role cs w ≡ true
      → 0 < times cs w
  counted slot role [] w e = absurd cc
  counted slot role (c ∷ cs) w e =
      one (c.word == w) (differs m slot role c.slot c.role) (is_overlap m slot role cs w) (times cs w)
      (counted slot role cs w) e

  pub overlap-shared : (cs : List Covering) (w : ℕ) → (belongs_at m cs w).overlap ≡ true → 1 < (belongs_at m cs w).times
  overlap-shared [] w e = absurd cc
  overlap-shared (c ∷ cs) w e =
      pick (λ (x : Covered). x.overlap ≡ true → 1 < x.times) (c.word == w) (belonging m c cs w) (belongs_at m cs w)
      (λ t o. let k = counted c.slot c.role cs w o in omega arith) (λ f. overlap-shared cs w) e
