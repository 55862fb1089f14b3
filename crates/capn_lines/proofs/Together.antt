-- Of a cover, two words that belong to the visit of one slot and are covered as often are both overlaps, or neither is.
use Rattle.std.proofs.Common.{◌≡◌, ℕ, zero, suc, ◌+◌, ◌==◌, ◌<◌, ◌≤◌, nat_lt, ◌||◌}
use Rattle.std.proofs.Common.{Bool, true, false, not, List, [], ◌∷◌, ◌++◌, Result, Ok, Err}
use Rattle.std.proofs.Common.{refl, sym, ◌∙◌, ap, ap₂, subst, arith, if◌then◌else◌}
use Rattle.std.proofs.lemmas.Bool.Decides.{nat_tests}
use Rattle.capn_words.specs.declared.space.Place.{Place}
use Rattle.capn_words.specs.declared.pointer.Pointer.{Pointer}
use Rattle.capn_words.specs.declared.pointer.Pointer.TheVariants.{Nil, Node, Many, Far, Cap, Reserved}
use Rattle.capn_words.proofs.shared.Choices.{pick}
use Rattle.capn_target.specs.declared.target.Target.{Target}
use Rattle.capn_target.specs.declared.target.Target.TheVariants as targets
use Rattle.capn_target.specs.declared.target.Shape.{Shape}
use Rattle.capn_target.specs.declared.target.Fault.{Fault}
use Rattle.capn_target.specs.Target.{pointer_in, target}
use Rattle.capn_walk.specs.Visits.{Visit, pays, fails}
use Rattle.capn_walk.specs.Accepted.{visits_within}
use Rattle.capn_walk.specs.Limits.{Bounds}
use Rattle.capn_cover.specs.declared.covered.Covered.{Covered}
use Rattle.capn_cover.specs.declared.covered.Role.{Role}
use Rattle.capn_cover.specs.declared.covered.Role.TheVariants as roles
use Rattle.capn_cover.specs.declared.part.Part.{Part}
use Rattle.capn_cover.specs.declared.part.Part.TheVariants as parts
use Rattle.capn_cover.specs.Numbers.{number, place_from}
use Rattle.capn_cover.specs.Parts.{differs, part, same_part}
use Rattle.capn_cover.specs.Covers.{Covering, run, content_run, pad_run, covers, covered, coverings}
use Rattle.capn_cover.specs.Covers.{times, is_overlap, belonging, belongs_at, cover_at}
use Rattle.capn_lines.specs.Sums.{one_if}
use Rattle.capn_lines.proofs.Objects.{size_of, of-content, times-inside, Each, is_object, IsOf, content-of}
use Rattle.capn_lines.proofs.SameObjects.{object-equal, part-self}
use Rattle.capn_lines.proofs.Places.{part-role, pad-part, root-part, Lies, slot-part, coverings-good, cover-good}

-- ---- how often the same part covers a word

module _ (m : List (List ℕ)) (slot : ℕ) (role : Role) where
  abbrev pub same_count : List Covering → (w : ℕ) → ℕ
  same_count [] w = 0
  same_count (c ∷ cs) w =
      (if c.word == w then one_if (not (differs m slot role c.slot c.role)) else 0) + same_count cs w

  pub same-few-at : (b d : Bool) (n t : ℕ) → n ≤ t
      → (if b then one_if (not d) else 0) + n ≤ (if b then 1 else 0) + t
  same-few-at false d n t h = omega arith
  same-few-at true true n t h = omega arith
  same-few-at true false n t h = omega arith

  pub same-few : (cs : List Covering) (w : ℕ) → same_count cs w ≤ times cs w
  same-few [] w = omega arith
  same-few (c ∷ cs) w =
      same-few-at (c.word == w) (differs m slot role c.slot c.role) (same_count cs w) (times cs w) (same-few cs w)

  pub overlap-at : (b d o : Bool) (n t : ℕ) → n ≤ t → o ≡ nat_lt n t
      → ((if b then d else false) || o) ≡ nat_lt ((if b then one_if (not d) else 0) + n) ((if b then 1 else 0) + t)
  overlap-at false d o n t h e =
      let x : 0 + n ≡ n = omega arith in
      let y : 0 + t ≡ t = omega arith in
      rw (x, y) e
  overlap-at true true o n t h e = grind (arith, nat_tests)
  overlap-at true false o n t h e = rw e (grind (arith, nat_tests))

  -- a word is an overlap if it is covered more often than by the same part
  pub overlap-by : (cs : List Covering) (w : ℕ) → is_overlap m slot role cs w ≡ nat_lt (same_count cs w) (times cs w)
  overlap-by [] w = refl
  overlap-by (c ∷ cs) w =
      overlap-at (c.word == w) (differs m slot role c.slot c.role) (is_overlap m slot role cs w) (same_count cs w)
      (times cs w) (same-few cs w) (overlap-by cs w)

  pub same-append : (xs ys : List Covering) (w : ℕ)
      → same_count (xs ++ ys) w ≡ same_count xs w + same_count ys w
  same-append [] ys w = omega arith
  same-append (c ∷ xs) ys w = let a = same-append xs ys w in omega arith

-- ---- words of one object are covered as often by the same part

pub none-more : (b : Bool) (n : ℕ) → n ≡ 0 → (if b then one_if (not true) else 0) + n ≡ 0
none-more true n e = omega arith
none-more false n e = omega arith

pub times-more : (b : Bool) (n t : ℕ) → n ≡ t
    → (if b then one_if (not false) else 0) + n ≡ (if b then 1 else 0) + t
times-more true n t e = omega arith
times-more false n t e = omega arith

module _ (m : List (List ℕ)) (slot : ℕ) (role : Role) where
  -- coverings by other parts
  pub same-none : (cs : List Covering) (w : ℕ) → Each (λ c. differs m slot role c.slot c.role ≡ true) cs
      → same_count m slot role cs w ≡ 0
  same-none [] w h = refl
  same-none (c ∷ cs) w h =
      let e = h.0 in
      rw e (none-more (c.word == w) (same_count m slot role cs w) (same-none cs w h.1))

  -- coverings by the same part
  pub same-times : (cs : List Covering) (w : ℕ) → Each (λ c. differs m slot role c.slot c.role ≡ false) cs
      → same_count m slot role cs w ≡ times cs w
  same-times [] w h = refl
  same-times (c ∷ cs) w h =
      let e = h.0 in
      rw e (times-more (c.word == w) (same_count m slot role cs w) (times cs w) (same-times cs w h.1))

  pub differs-by : (p q : Part) (other : ℕ) (another : Role) → part m slot role ≡ p → part m other another ≡ q
      → differs m slot role other another ≡ not (same_part p q)
  unfolding differs
  differs-by p q other another e f = ap₂ (λ (x y : Part). not (same_part x y)) e f

  pub differs-self : differs m slot role slot role ≡ false
  differs-self =
      differs-by (part m slot role) (part m slot role) slot role refl refl ∙ ap not (part-self (part m slot role))

  module _ (s start : ℕ) (shape : Shape) (is : part m slot role ≡ parts.Object s start shape) (w v : ℕ) where
    abbrev pub Inside : ℕ → Type 0
    Inside k = (number m (record { segment = s; word = start }) ≤ k)
        × (k < number m (record { segment = s; word = start }) + size_of shape)

    pub pad-differs : (other n : ℕ) (f : ℕ)
        → Each (λ c. differs m slot role c.slot c.role ≡ true) (run other roles.Pad f n)
    pad-differs other zero f = tt
    pad-differs other (suc n) f = (
      differs-by (parts.Object s start shape) (part m other roles.Pad) other roles.Pad is refl
          ∙ ap not (pad-part m s start shape (place_from 0 m other)),
      pad-differs other n (f + 1),
    )

    pub pads-differ : (other pads : ℕ) (p : Pointer)
        → Each (λ c. differs m slot role c.slot c.role ≡ true) (pad_run m other pads p)
    pads-differ other pads (Far double word segment) =
        pad-differs other pads (number m (record { segment = segment; word = word }))
    pads-differ other pads Nil = tt
    pads-differ other pads (Node o a b) = tt
    pads-differ other pads (Many o x n) = tt
    pads-differ other pads (Cap k) = tt
    pads-differ other pads (Reserved n) = tt

    pub content-differs : (other : ℕ) (b : Bool)
        → same_part (parts.Object s start shape) (part m other roles.Data) ≡ b
        → (cs : List Covering) → Each (IsOf other) cs
        → Each (λ c. differs m slot role c.slot c.role ≡ not b) cs
    content-differs other b e [] h = tt
    content-differs other b e (c ∷ cs) h =
        let x : part m c.slot c.role ≡ part m other roles.Data =
        ap (λ (k : ℕ). part m k c.role) h.0.same ∙ part-role m (place_from 0 m other) c.role h.0.object in (
          differs-by (parts.Object s start shape) (part m other roles.Data) c.slot c.role is x ∙ ap not e,
          content-differs other b e cs h.1,
        )

    pub content-same : (other t from : ℕ) (form : Shape) (b : Bool)
        → part m other roles.Data ≡ parts.Object t from form
        → same_part (parts.Object s start shape) (part m other roles.Data) ≡ b → Inside w → Inside v
        → same_count m slot role (content_run other (number m (record { segment = t; word = from })) form) w
        ≡ same_count m slot role (content_run other (number m (record { segment = t; word = from })) form) v
    content-same other t from form false p e h k =
        let f = number m (record { segment = t; word = from }) in
        let d = content-differs other false e (content_run other f form) (content-of other f form) in
        same-none (content_run other f form) w d ∙ sym (same-none (content_run other f form) v d)
    content-same other t from form true p e h k =
        let f = number m (record { segment = t; word = from }) in
        let d = content-differs other true e (content_run other f form) (content-of other f form) in
        let r = of-content other f form in
        let o = object-equal s start t from shape form (rw p at e) in
        let many = r.many in
        let here : number m (record { segment = s; word = start }) ≡ f =
        ap₂ (λ (x y : ℕ). number m (record { segment = x; word = y })) o.segments o.words in
        let size : size_of shape ≡ size_of form = ap size_of o.shapes_same in
        same-times (content_run other f form) w d
        ∙ times-inside f (content_run other f form) w r.follow (omega arith) (omega arith)
        ∙ sym (times-inside f (content_run other f form) v r.follow (omega arith) (omega arith))
        ∙ sym (same-times (content_run other f form) v d)

    pub visit-same : (at : Place) (t : Result Target Fault) → target m at ≡ t → Inside w → Inside v
        → same_count m slot role (covers m at t) w ≡ same_count m slot role (covers m at t) v
    visit-same at (Ok (targets.Content t from form pads)) e h k =
        let n = number m at in
        let xs = pad_run m n pads (pointer_in m at.segment at.word) in
        let ys = content_run n (number m (record { segment = t; word = from })) form in
        let d = pads-differ n pads (pointer_in m at.segment at.word) in
        same-append m slot role xs ys w
        ∙ ap₂ (λ (x y : ℕ). x + y) (same-none xs w d ∙ sym (same-none xs v d))
        (content-same n t from form (same_part (parts.Object s start shape) (part m n roles.Data))
        (slot-part m at t from pads form e) refl h k)
        ∙ sym (same-append m slot role xs ys v)
    visit-same at (Ok targets.Nil) e h k = refl
    visit-same at (Ok (targets.Cap i)) e h k = refl
    visit-same at (Err x) e h k = refl

    pub visits-same : (vs : List Visit) → Inside w → Inside v
        → same_count m slot role (covered m vs) w ≡ same_count m slot role (covered m vs) v
    visits-same [] h k = refl
    visits-same (pays at n ∷ vs) h k =
        same-append m slot role (covers m at (target m at)) (covered m vs) w
        ∙ ap₂ (λ (x y : ℕ). x + y) (visit-same at (target m at) refl h k) (visits-same vs h k)
        ∙ sym (same-append m slot role (covers m at (target m at)) (covered m vs) v)
    visits-same (fails at e ∷ vs) h k = visits-same vs h k

    pub root-none : (k n : ℕ)
        → (if 0 == k then one_if (not (differs m slot role 0 roles.Root)) else 0) + n ≡ n
    root-none k n =
        let e = differs-by (parts.Object s start shape) (part m 0 roles.Root) 0 roles.Root is refl
        ∙ ap not (root-part m s start shape (place_from 0 m 0)) in
        rw e (pick (λ (x : ℕ). x + n ≡ n) (0 == k) 0 0 (λ t. omega arith) (λ f. omega arith))

    pub all-same : (limits : Bounds) → Inside w → Inside v
        → same_count m slot role (coverings m limits) w ≡ same_count m slot role (coverings m limits) v
    all-same limits h k =
        let cs = covered m (visits_within m limits) in
        root-none w (same_count m slot role cs w) ∙ visits-same (visits_within m limits) h k
        ∙ sym (root-none v (same_count m slot role cs v))

module _ (m : List (List ℕ)) where
  pub overlap-more : (d : Bool) (n t : ℕ) → d ≡ false → nat_lt n t ≡ nat_lt (one_if (not d) + n) (1 + t)
  overlap-more d n t e = rw e (grind (arith, nat_tests))

  -- a word is an overlap if it is covered more often than by the part to which it belongs
  pub overlap-of : (cs : List Covering) (w : ℕ)
      → (belongs_at m cs w).overlap
      ≡ nat_lt (same_count m (belongs_at m cs w).slot (belongs_at m cs w).role cs w) (belongs_at m cs w).times
  overlap-of [] w = refl
  overlap-of (c ∷ cs) w =
      pick (λ (x : Covered). x.overlap ≡ nat_lt (same_count m x.slot x.role (c ∷ cs) w) x.times) (c.word == w)
      (belonging m c cs w) (belongs_at m cs w)
      (λ t. rw t (overlap-by m c.slot c.role cs w
      ∙ overlap-more (differs m c.slot c.role c.slot c.role) (same_count m c.slot c.role cs w) (times cs w)
      (differs-self m c.slot c.role)))
      (λ f. let h = overlap-of cs w in
      let y : 0 + same_count m (belongs_at m cs w).slot (belongs_at m cs w).role cs w
      ≡ same_count m (belongs_at m cs w).slot (belongs_at m cs w).role cs w = omega arith in
      rw (f, y) h)

  pub same-role : (slot : ℕ) (role next : Role) (cs : List Covering) (w : ℕ) → part m slot role ≡ part m slot next
      → same_count m slot role cs w ≡ same_count m slot next cs w
  same-role slot role next [] w e = refl
  same-role slot role next (c ∷ cs) w e =
      let d = differs-by m slot role (part m slot next) (part m c.slot c.role) c.slot c.role e refl in
      let f = differs-by m slot next (part m slot next) (part m c.slot c.role) c.slot c.role refl refl in
      let h = same-role slot role next cs w e in
      ap₂ (λ (x : Bool) (n : ℕ). (if c.word == w then one_if (not x) else 0) + n) (d ∙ sym f) h

  -- two words of objects that belong to one slot and are covered as often
  pub together : (limits : Bounds) (w v : ℕ) (c d : Covered) → c ≡ cover_at m (coverings m limits) w
      → d ≡ cover_at m (coverings m limits) v → is_object c.role ≡ true → is_object d.role ≡ true → c.slot ≡ d.slot
      → c.times ≡ d.times → c.overlap ≡ d.overlap
  together limits w v c d e f o p h t =
      let cs = coverings m limits in
      let good = coverings-good m limits in
      let x = subst (λ (a : Covered). is_object a.role ≡ true → Lies m a.slot w) (sym e) (cover-good m cs w good) o in
      let y = subst (λ (a : Covered). is_object a.role ≡ true → Lies m a.slot v) (sym f) (cover-good m cs v good) p in
      let one : parts.Object x.s x.start x.shape ≡ parts.Object y.s y.start y.shape =
      sym x.is ∙ ap (λ (k : ℕ). part m k roles.Data) h ∙ y.is in
      let a : x.s ≡ y.s = cc in
      let b : x.start ≡ y.start = cc in
      let s : x.shape ≡ y.shape = cc in
      let from : number m (record { segment = x.s; word = x.start })
      ≡ number m (record { segment = y.s; word = y.start }) =
      ap₂ (λ (i j : ℕ). number m (record { segment = i; word = j })) a b in
      let size : size_of x.shape ≡ size_of y.shape = ap size_of s in
      let is : part m c.slot c.role ≡ parts.Object x.s x.start x.shape =
      part-role m (place_from 0 m c.slot) c.role o ∙ x.is in
      let low = x.low in
      let high = x.high in
      let low2 = y.low in
      let high2 = y.high in
      let same = all-same m c.slot c.role x.s x.start x.shape is w v limits (low, high) (omega arith, omega arith) in
      let roles_same : part m c.slot c.role ≡ part m c.slot d.role =
      part-role m (place_from 0 m c.slot) c.role o ∙ sym (part-role m (place_from 0 m c.slot) d.role p) in
      let turned = same-role c.slot c.role d.role cs v roles_same in
      let left = subst (λ (q : Covered). q.overlap ≡ nat_lt (same_count m q.slot q.role cs w) q.times) (sym e)
      (overlap-of cs w) in
      let right = subst (λ (q : Covered). q.overlap ≡ nat_lt (same_count m q.slot q.role cs v) q.times) (sym f)
      (overlap-of cs v) in
      left
      ∙ ap₂ nat_lt (same ∙ turned ∙ ap (λ (k : ℕ). same_count m k d.role cs v) h) t
      ∙ sym right
