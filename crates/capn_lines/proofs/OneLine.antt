-- Of a cover, the words of one line are all overlaps, or none is.
use Rattle.std.proofs.Common.{◌≡◌, ◌⊎◌, inl, inr, ℕ, zero, suc, ◌+◌, ◌-◌, ◌==◌, ◌<◌, ◌≤◌, nat_lt, Bool, true, false}
use Rattle.std.proofs.Common.{List, [], ◌∷◌, length, Result, Ok, Err, Option, refl, sym, ◌∙◌, ap, subst, arith}
use Rattle.std.proofs.lemmas.Bool.Decides.{nat_tests}
use Rattle.capn_words.specs.Message.{segment_at, word_at, IsPlace}
use Rattle.capn_words.specs.declared.space.Place.{Place}
use Rattle.capn_words.specs.declared.pointer.Pointer.{Pointer}
use Rattle.capn_words.specs.declared.pointer.Pointer.TheVariants.{Nil, Node, Many, Far, Cap, Reserved}
use Rattle.capn_words.proofs.shared.Choices.{pick}
use Rattle.capn_target.specs.declared.target.Target.{Target}
use Rattle.capn_target.specs.declared.target.Target.TheVariants as targets
use Rattle.capn_target.specs.declared.target.Fault.{Fault}
use Rattle.capn_target.specs.Target.{pointer_in, target}
use Rattle.capn_walk.specs.Visits.{Visit, pays, fails}
use Rattle.capn_walk.specs.Accepted.{visits_within}
use Rattle.capn_walk.specs.Limits.{Bounds}
use Rattle.capn_cover.specs.declared.covered.Covered.{Covered}
use Rattle.capn_cover.specs.declared.covered.Role.{Role}
use Rattle.capn_cover.specs.declared.covered.Role.TheVariants as roles
use Rattle.capn_cover.specs.declared.part.Part.TheVariants as parts
use Rattle.capn_cover.specs.Numbers.{number}
use Rattle.capn_cover.specs.Parts.{object_of, part, part_at}
use Rattle.capn_cover.specs.Cover.{IsCover}
use Rattle.capn_cover.specs.Covers.{Covering, run, content_run, pad_run, covers, covered, coverings}
use Rattle.capn_cover.specs.Covers.{belonging, belongs_at}
use Rattle.capn_lines.specs.Kinds.{kind_in, may_join, slot_kind}
use Rattle.capn_lines.specs.Lines.{behind, covered_at, kind_at, line_at}
use Rattle.capn_lines.specs.declared.kind.Kind.{Kind}
use Rattle.capn_lines.specs.declared.kind.Kind.TheVariants as kinds
use Rattle.capn_lines.proofs.Covers.{is_reached, reached, role-or-none}
use Rattle.capn_lines.proofs.Lines.{AreSame, next-alike}
use Rattle.capn_lines.proofs.Objects.{content-of, each-append, each-both, Each, is_object, IsOf}
use Rattle.capn_lines.proofs.Orders.{covered-is}
use Rattle.capn_lines.proofs.Places.{coverings-good, cover-good, Lies, nil-target, place-at}
use Rattle.capn_lines.proofs.Together.{overlap-of, same_count, together}
use Rattle.capn_lines.proofs.shared.Lines.{followers-few}

-- a covering in the role of the root's slot is of word 0
abbrev Rooted : Covering → Type 0
Rooted c = c.role ≡ roles.Root → (c.word ≡ 0) × (c.slot ≡ 0)

pad-rooted : (slot first n : ℕ) → Each Rooted (run slot roles.Pad first n)
pad-rooted slot first zero = tt
pad-rooted slot first (suc n) = ((λ e. absurd cc), pad-rooted slot (first + 1) n)

object-rooted : (slot : ℕ) (c : Covering) → IsOf slot c → IsOf slot c → Rooted c
object-rooted slot c a b e = let x = rw e at a.object in absurd cc

module _ (m : List (List ℕ)) where
  pads-rooted : (slot pads : ℕ) (p : Pointer) → Each Rooted (pad_run m slot pads p)
  pads-rooted slot pads (Far double word segment) =
      pad-rooted slot (number m (record { segment = segment; word = word })) pads
  pads-rooted slot pads Nil = tt
  pads-rooted slot pads (Node o a b) = tt
  pads-rooted slot pads (Many o w n) = tt
  pads-rooted slot pads (Cap k) = tt
  pads-rooted slot pads (Reserved n) = tt

  covers-rooted : (at : Place) (t : Result Target Fault) → Each Rooted (covers m at t)
  covers-rooted at (Ok (targets.Content s start shape pads)) =
      let n = number m at in
      let f = number m (record { segment = s; word = start }) in
      each-append Rooted (pad_run m n pads (pointer_in m at.segment at.word)) (content_run n f shape)
      (pads-rooted n pads (pointer_in m at.segment at.word))
      (each-both (IsOf n) (IsOf n) Rooted (content_run n f shape) (object-rooted n) (content-of n f shape)
      (content-of n f shape))
  covers-rooted at (Ok targets.Nil) = tt
  covers-rooted at (Ok (targets.Cap k)) = tt
  covers-rooted at (Err e) = tt

  covered-rooted : (vs : List Visit) → Each Rooted (covered m vs)
  covered-rooted [] = tt
  covered-rooted (pays at n ∷ vs) =
      each-append Rooted (covers m at (target m at)) (covered m vs) (covers-rooted at (target m at)) (covered-rooted vs)
  covered-rooted (fails at e ∷ vs) = covered-rooted vs

  rooted : (cs : List Covering) (w : ℕ) → Each Rooted cs → (belongs_at m cs w).role ≡ roles.Root
      → (w ≡ 0) × ((belongs_at m cs w).slot ≡ 0)
  rooted [] w h e = absurd cc
  rooted (c ∷ cs) w h e =
      pick (λ (x : Covered). x.role ≡ roles.Root → (w ≡ 0) × (x.slot ≡ 0)) (c.word == w) (belonging m c cs w)
      (belongs_at m cs w)
      (λ t r. let same : c.word ≡ w = grind (arith, nat_tests) in
      let x = h.0 r in
      let y = x.0 in
      (omega arith, x.1))
      (λ f r. rooted cs w h.1 r) e

  all-rooted : (limits : Bounds) → Each Rooted (coverings m limits)
  all-rooted limits = ((λ e. (refl, refl)), covered-rooted (visits_within m limits))

-- a role in which something covers a word
class : (role : Role) → is_reached role ≡ true
    → (is_object role ≡ true) ⊎ ((role ≡ roles.Root) ⊎ (role ≡ roles.Pad))
class roles.Tag e = inl refl
class roles.Data e = inl refl
class roles.Slot e = inl refl
class roles.Numbers e = inl refl
class roles.Slack e = inl refl
class roles.Root e = inr (inl refl)
class roles.Pad e = inr (inr refl)
class roles.Unreached e = absurd cc

-- a word of a landing pad joins no word
no-pad : (word : ℕ) (role : Role) (k : Kind) → role ≡ roles.Pad → may_join (kind_in word role) k ≡ true
    → kind_in word role ≡ k → ⊥
no-pad word role k e j s =
    let y = rw e at j in
    absurd cc

no-pad-behind : (word : ℕ) (role : Role) (k : Kind) → role ≡ roles.Pad → may_join k (kind_in word role) ≡ true
    → k ≡ kind_in word role → ⊥
no-pad-behind word role k e j s =
    let x : k ≡ kinds.Pad = s ∙ ap (kind_in word) e in
    let y = rw (e, x) at j in
    absurd cc

-- a root's slot that joins a word is zero
root-zero-at : (word : ℕ) (b : Bool) (k : Kind) → (word == 0) ≡ b → may_join (slot_kind word) k ≡ true
    → slot_kind word ≡ k → word ≡ 0
root-zero-at word true k e j s = grind (arith, nat_tests)
root-zero-at word false k e j s =
    let x : slot_kind word ≡ kinds.Pointer = rw e refl in
    let z = rw x at j in
    absurd cc

-- a line is within its segment
line-within : (m : List (List ℕ)) (ws : List Covered) (at : Place) → IsPlace m at
    → at.word + (line_at m ws at).words ≤ length (segment_at m at.segment)
line-within m ws at h =
    let a = followers-few m ws at.segment (at.word + 1) (length (segment_at m at.segment) - (at.word + 1)) in
    omega arith

never : (n t : ℕ) → t ≡ 0 → nat_lt n t ≡ false
never n t e = grind (arith, nat_tests)

module _ (m : List (List ℕ)) (limits : Bounds) (ws : List Covered) (h : IsCover m limits ws) where
  overlap-none : (at : Place) → IsPlace m at → (covered_at m ws at).times ≡ 0 → (covered_at m ws at).overlap ≡ false
  overlap-none at k =
      subst (λ (c : Covered). c.times ≡ 0 → c.overlap ≡ false) (sym (covered-is m limits ws h at k))
      (λ t. overlap-of m (coverings m limits) (number m at)
      ∙ never (same_count m (belongs_at m (coverings m limits) (number m at)).slot
      (belongs_at m (coverings m limits) (number m at)).role (coverings m limits) (number m at))
      (belongs_at m (coverings m limits) (number m at)).times t)

  reached-or-none : (at : Place) → IsPlace m at
      → (is_reached (covered_at m ws at).role ≡ true) ⊎ ((covered_at m ws at).times ≡ 0)
  reached-or-none at k =
      subst (λ (c : Covered). (is_reached c.role ≡ true) ⊎ (c.times ≡ 0)) (sym (covered-is m limits ws h at k))
      (role-or-none m (coverings m limits) (number m at) (reached m limits))

  root-word : (at : Place) → IsPlace m at → (covered_at m ws at).role ≡ roles.Root
      → (number m at ≡ 0) × ((covered_at m ws at).slot ≡ 0)
  root-word at k =
      subst (λ (c : Covered). c.role ≡ roles.Root → (number m at ≡ 0) × (c.slot ≡ 0))
      (sym (covered-is m limits ws h at k)) (rooted m (coverings m limits) (number m at) (all-rooted m limits))

  -- a slot of the root that is zero leads to no object to which a word behind it may belong
  no-root : (p q : Place) → IsPlace m p → IsPlace m q → word_at m p ≡ 0 → number m p ≡ 0
      → is_object (covered_at m ws q).role ≡ true → (covered_at m ws q).slot ≡ 0 → ⊥
  no-root p q k l z n o e =
      let lies =
      subst (λ (c : Covered). is_object c.role ≡ true → Lies m c.slot (number m q))
      (sym (covered-is m limits ws h q l))
      (cover-good m (coverings m limits) (number m q) (coverings-good m limits)) o in
      let whole : part m (number m p) roles.Data ≡ parts.Whole =
      ap (λ (x : Option Place). part_at m x roles.Data) (place-at m p k) ∙ ap object_of (nil-target m p z) in
      let same : (covered_at m ws q).slot ≡ number m p = e ∙ sym n in
      let x = sym lies.is ∙ ap (λ (i : ℕ). part m i roles.Data) same ∙ whole in
      absurd cc

  -- two words of one line, one behind the other, by their roles
  by-roles : (p q : Place) → IsPlace m p → IsPlace m q → number m q ≡ number m p + 1
      → AreSame (kind_at m ws p) (covered_at m ws p) (kind_at m ws q) (covered_at m ws q)
      → (is_object (covered_at m ws p).role ≡ true)
      ⊎ (((covered_at m ws p).role ≡ roles.Root) ⊎ ((covered_at m ws p).role ≡ roles.Pad))
      → (is_object (covered_at m ws q).role ≡ true)
      ⊎ (((covered_at m ws q).role ≡ roles.Root) ⊎ ((covered_at m ws q).role ≡ roles.Pad))
      → (covered_at m ws p).overlap ≡ (covered_at m ws q).overlap
  by-roles p q k l n s (inl a) (inl b) =
      together m limits (number m p) (number m q) (covered_at m ws p) (covered_at m ws q)
      (covered-is m limits ws h p k) (covered-is m limits ws h q l) a b s.slot s.times
  by-roles p q k l n s (inr (inl a)) (inl b) =
      let r = root-word p k a in
      let j = ap (λ (x : Role). may_join (kind_in (word_at m p) x) (kind_at m ws q)) (sym a) ∙ s.joins in
      let e = ap (kind_in (word_at m p)) (sym a) ∙ s.kind in
      let z = root-zero-at (word_at m p) (word_at m p == 0) (kind_at m ws q) refl j e in
      absurd (no-root p q k l z r.0 b (sym s.slot ∙ r.1))
  by-roles p q k l n s a (inr (inl b)) =
      let r = root-word q l b in
      let x = r.0 in
      absurd (omega arith)
  by-roles p q k l n s (inr (inr a)) b =
      absurd (no-pad (word_at m p) (covered_at m ws p).role (kind_at m ws q) a s.joins s.kind)
  by-roles p q k l n s a (inr (inr b)) =
      absurd (no-pad-behind (word_at m q) (covered_at m ws q).role (kind_at m ws p) b s.joins s.kind)

  two-words : (p q : Place) → IsPlace m p → IsPlace m q → number m q ≡ number m p + 1
      → AreSame (kind_at m ws p) (covered_at m ws p) (kind_at m ws q) (covered_at m ws q)
      → (is_reached (covered_at m ws p).role ≡ true) ⊎ ((covered_at m ws p).times ≡ 0)
      → (is_reached (covered_at m ws q).role ≡ true) ⊎ ((covered_at m ws q).times ≡ 0)
      → (covered_at m ws p).overlap ≡ (covered_at m ws q).overlap
  two-words p q k l n s (inl a) (inl b) =
      by-roles p q k l n s (class (covered_at m ws p).role a) (class (covered_at m ws q).role b)
  two-words p q k l n s (inr a) b = overlap-none p k a ∙ sym (overlap-none q l (sym s.times ∙ a))
  two-words p q k l n s a (inr b) = overlap-none p k (s.times ∙ b) ∙ sym (overlap-none q l b)

  -- the words of one line
  pub one-line : (at : Place) → IsPlace m at → (k : ℕ) → k < (line_at m ws at).words
      → (covered_at m ws (behind at k)).overlap ≡ (line_at m ws at).overlap
  one-line at p zero l = let x : at.word + 0 ≡ at.word = omega arith in rw x refl
  one-line at p (suc k) l =
      let w = line-within m ws at p in
      let a = one-line at p k (omega arith) in
      let s = next-alike m ws at k (omega arith) in
      let here : at.word + k < length (segment_at m at.segment) = omega arith in
      let next : at.word + suc k < length (segment_at m at.segment) = omega arith in
      let n : number m (behind at (suc k)) ≡ number m (behind at k) + 1 = omega arith in
      sym (two-words (behind at k) (behind at (suc k)) here next n s (reached-or-none (behind at k) here)
      (reached-or-none (behind at (suc k)) next)) ∙ a
