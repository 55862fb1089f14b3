-- At most one mismatch is true of a message within limits. (For `mismatches`.)
use Rattle.std.proofs.Common.{◌≡◌, ℕ, ◌<◌, ◌≤◌, List, [], ◌∷◌, length, Some, None, refl, ap, sym, subst, ◌∙◌, arith}
use Rattle.capn_words.specs.Message.{IsBare, IsMessage, AreWords, bytes, most_words, segment_at, total}
use Rattle.capn_words.specs.declared.space.Place.{Place}
use Rattle.capn_words.proofs.shared.OneSegment.{one_bare}
use Rattle.capn_value.specs.Tree.{Tree}
use Rattle.capn_value.specs.Cost.{base}
use Rattle.capn_value.specs.FirstCap.{first_cap}
use Rattle.capn_value.specs.Fits.{Fits}
use Rattle.capn_value.specs.InRange.{InRange}
use Rattle.capn_target.specs.Target.{target}
use Rattle.capn_walk.specs.Accepted.{AllPay, IsValueOf, root}
use Rattle.capn_walk.specs.Limits.{Bounds, AreLimits}
use Rattle.capn_walk.specs.Surveyed.{cap_of}
use Rattle.capn_walk.proofs.shared.Fitting.{fits-root}
use Rattle.capn_walk.proofs.shared.InRangeAt.{in_range-at}
use Rattle.capn_layout.specs.Layout.{canon}
use Rattle.capn_path.specs.Laws.{PathsAreOne}
use Rattle.capn_path.specs.Paths.{IsPathTo}
use Rattle.capn_canon.specs.Laws.{CanonIsThePageForm}
use Rattle.capn_canon.specs.Measure.{IsCanonicalOf}
use Rattle.capn_canon.specs.PageForm.{IsPageForm}
use Rattle.capn_mismatch.specs.declared.answer.Mismatch.{Mismatch}
use Rattle.capn_mismatch.specs.declared.answer.Mismatch.TheVariants.{Canonical, Segments, Capability, Word, After}
use Rattle.capn_mismatch.specs.declared.whose.Whose.{Whose}
use Rattle.capn_mismatch.specs.declared.whose.Whose.TheVariants.{Pointer, Tag, LastWord}
use Rattle.capn_mismatch.specs.declared.word_kind.WordKind.{WordKind}
use Rattle.capn_mismatch.specs.declared.word_kind.WordKind.TheVariants as kinds
use Rattle.capn_mismatch.specs.Capability.{IsFirstCapability}
use Rattle.capn_mismatch.specs.Difference.{Differ, GoesOn}
use Rattle.capn_mismatch.specs.Laws.{IsSameOwner, IsSameMismatch}
use Rattle.capn_mismatch.specs.Mismatches.{Compared, Compares, IsMismatch}
use Rattle.capn_mismatch.specs.Owner.{IsOwner, place}
use Rattle.capn_mismatch.proofs.Mismatching.{one-value}
use Rattle.capn_mismatch.proofs.OneFinding.{one-difference, one-end, differs-or-ends, no-difference, no-end, one-first}
use Rattle.capn_mismatch.proofs.OneOwner.{owners-are-one}
use Rattle.capn_mismatch.proofs.OwnWords.{Owns}

-- ---- the owner of a word

module _ {A : Type 0} where
  abbrev kind : Whose A → WordKind
  kind (Pointer path) = kinds.Pointer
  kind (Tag path) = kinds.Tag
  kind (LastWord path) = kinds.LastWord

  abbrev numbers : Whose A → List ℕ
  numbers (Pointer path) = path.items
  numbers (Tag path) = path.items
  numbers (LastWord path) = path.items

  as-same : (a b : Whose A) → kind a ≡ kind b → numbers a ≡ numbers b → IsSameOwner a b
  as-same (Pointer path) (Pointer other) e s = s
  as-same (Tag path) (Tag other) e s = s
  as-same (LastWord path) (LastWord other) e s = s
  as-same (Pointer path) (Tag other) e s = absurd cc
  as-same (Pointer path) (LastWord other) e s = absurd cc
  as-same (Tag path) (Pointer other) e s = absurd cc
  as-same (Tag path) (LastWord other) e s = absurd cc
  as-same (LastWord path) (Pointer other) e s = absurd cc
  as-same (LastWord path) (Tag other) e s = absurd cc

-- The path leads to a slot that owns word `k`, which has the kind `x`.
record OwnedBy (cs : List ℕ) (limits : Bounds) (k : ℕ) (x : WordKind) (path : List ℕ) : Type 0 where
  number : ℕ
  slot : Place
  leads : IsPathTo (cs ∷ []) limits number path slot
  owns : Owns cs k x slot

module _ {A : Type 0} (paths : PathsAreOne) (cs : List ℕ) (limits : Bounds) (k : ℕ) (follows : IsPageForm cs) where
  owned-by : (whose : Whose A) → IsOwner cs limits k whose → OwnedBy cs limits k (kind whose) (numbers whose)
  owned-by (Pointer path) h = record { number = h.0; slot = place k; leads = h.1; owns = refl }
  owned-by (Tag path) h =
      record { number = h.number; slot = h.slot; leads = h.leads; owns = (h.found, h.names, h.is) }
  owned-by (LastWord path) h =
      record { number = h.number; slot = h.slot; leads = h.leads; owns = (h.found, h.names, h.is) }

  one-owner : (a b : Whose A) → IsOwner cs limits k a → IsOwner cs limits k b → IsSameOwner a b
  one-owner a b h g =
      let x = owned-by a h in
      let y = owned-by b g in
      let e = owners-are-one cs (base limits.tariff) limits.depth k (numbers a) (numbers b) x.slot y.slot x.number
      y.number (kind a) (kind b) follows x.leads y.leads x.owns y.owns in
      as-same a b e.1 (paths (cs ∷ []) limits x.number (numbers a) (numbers b) x.slot y.slot x.leads
      (subst (λ (n : ℕ). IsPathTo (cs ∷ []) limits n (numbers b) y.slot) (sym e.0) y.leads)).0

-- ---- the reasons of a message

only-words : (xs ys : List ℕ) → xs ∷ [] ≡ ys ∷ [] → xs ≡ ys
only-words xs ys e = cc

module _ (page : CanonIsThePageForm) (paths : PathsAreOne) (m : List (List ℕ)) (limits : Bounds) (message : IsMessage m)
    (are : AreLimits limits.message_words limits.budget limits.depth) where
  follows : (ws cs : List ℕ) → Compares m limits ws cs → IsPageForm cs
  follows ws cs c =
      let v = c.value in
      let fits : Fits v =
      fits-root m (base limits.tariff) limits.budget limits.depth v are.small_budget are.small_depth
      c.is.accepted.within c.is.is in
      let range : InRange v = in_range-at m message.each v root c.is.is in
      let p = (page v (canon v) fits range c.free).0 refl in
      subst IsPageForm (one_bare (canon v) p.words cs p.bare c.bare) p.form

  same-words : (ws us cs ds : List ℕ) → Compares m limits ws cs → Compares m limits us ds → (ws ≡ us) × (cs ≡ ds)
  same-words ws us cs ds c d =
      let z = one-value m limits c.value d.value c.is d.is in (
        only-words ws us (sym c.one ∙ d.one),
        one_bare (canon c.value) cs ds c.bare (subst (λ (v : Tree). IsBare (canon v) ds) (sym z) d.bare),
      )

  same-canonical : (v : Tree) (ws cs : List ℕ) → IsValueOf m limits v → IsCanonicalOf m v → Compares m limits ws cs
      → ws ≡ cs
  same-canonical v ws cs i (us, one, free, same) c =
      let z = one-value m limits c.value v c.is i in
      let e = only-words us ws (sym one ∙ c.one) in
      let room = subst (λ (n : List (List ℕ)). total n ≤ most_words) c.one message.room in
      one_bare (canon c.value) ws cs (record {
        same = ap canon z ∙ same ∙ ap bytes e;
        each = subst (λ (n : List (List ℕ)). AreWords (segment_at n 0)) c.one (message.each 0);
        room = omega arith;
      }) c.bare

  some-and-none : (v w : Tree) (k : ℕ) → IsValueOf m limits v → IsValueOf m limits w → first_cap v ≡ None
      → first_cap w ≡ Some k → ⊥
  some-and-none v w k i j e f =
      let z = sym e ∙ ap first_cap (one-value m limits v w i j) ∙ f in
      absurd cc

  several : (n : ℕ) → n ≡ length m → 1 < n → length m ≡ 1 → ⊥
  several n e lt one = omega arith

  one-capability : (v : Tree) (k j : ℕ) (path other : List ℕ) → IsValueOf m limits v
      → IsFirstCapability m limits k path → IsFirstCapability m limits j other → path ≡ other
  one-capability v k j path other i a b =
      let all = subst AllPay a.visited.is i.accepted.within.all in
      let there = ap (λ (p : Place). cap_of (target m p)) a.visited.place ∙ ap cap_of a.names in
      let also = ap (λ (p : Place). cap_of (target m p)) b.visited.place ∙ ap cap_of b.names in
      let l = one-first m a.visited.before b.visited.before a.visited.here b.visited.here a.visited.behind
      b.visited.behind k j (sym a.visited.is ∙ b.visited.is) all a.none b.none there also in
      let n = sym a.visited.count ∙ l ∙ b.visited.count in
      (paths m limits a.number path other a.at b.at a.visited.leads
      (subst (λ (q : ℕ). IsPathTo m limits q other b.at) (sym n) b.visited.leads)).0

  -- The message begins with its canonical words, and goes on with the word `is` at `w`.
  abbrev Ends : (w is : ℕ) → Type 0
  Ends w is = Compared m limits (λ words canonical. GoesOn words canonical w is)

  end-and-end : (w is k x : ℕ) → Ends w is → Ends k x → (w ≡ k) × (is ≡ x)
  end-and-end w is k x f g =
      let s = same-words f.0 g.0 f.1 g.1 f.2 g.2 in
      one-end f.0 f.1 w is k x f.3 (subst (λ (zs : List ℕ). GoesOn f.0 zs k x) (sym s.1)
      (subst (λ (zs : List ℕ). GoesOn zs g.1 k x) (sym s.0) g.3))

  canonical-and-end : (w is : ℕ) → ((v : Tree) × IsValueOf m limits v × IsCanonicalOf m v) → Ends w is → ⊥
  canonical-and-end w is f g = no-end g.0 g.1 w is (same-canonical f.0 g.0 g.1 f.1 f.2 g.2) g.3

  module _ {A : Type 0} where
    abbrev Is : Mismatch A → Type 0
    Is d = IsMismatch m limits d

    word-and-word : (w is c k x b : ℕ) (whose other : Whose A) → Is (Word w is c whose) → Is (Word k x b other)
        → IsSameMismatch (Word w is c whose) (Word k x b other)
    word-and-word w is c k x b whose other f g =
        let s = same-words f.0 g.0 f.1 g.1 f.2 g.2 in
        let d = subst (λ (zs : List ℕ). Differ f.0 zs k x b) (sym s.1)
        (subst (λ (zs : List ℕ). Differ zs g.1 k x b) (sym s.0) g.3.0) in
        let r = one-difference f.0 f.1 w is c k x b f.3.0 d in
        let o = subst (λ (zs : List ℕ). IsOwner zs limits k other) (sym s.1) g.3.1 in (
          r.0,
          r.1,
          r.2,
          one-owner paths f.1 limits w (follows f.0 f.1 f.2) whose other f.3.1
              (subst (λ (j : ℕ). IsOwner f.1 limits j other) (sym r.0) o),
        )

    word-and-end : (w is c k x : ℕ) (whose : Whose A) → Is (Word w is c whose) → Is (After k x) → ⊥
    word-and-end w is c k x whose f g =
        let s = same-words f.0 g.0 f.1 g.1 f.2 g.2 in
        differs-or-ends f.0 f.1 w is c k x f.3.0 (subst (λ (zs : List ℕ). GoesOn f.0 zs k x) (sym s.1)
        (subst (λ (zs : List ℕ). GoesOn zs g.1 k x) (sym s.0) g.3))

    canonical-and-word : (w is c : ℕ) (whose : Whose A) → Is Canonical → Is (Word w is c whose) → ⊥
    canonical-and-word w is c whose f g =
        no-difference g.0 g.1 w is c (same-canonical f.0 g.0 g.1 f.1 f.2 g.2) g.3.0

    -- The mismatch does not say that the message has more than one segment.
    abbrev IsOfOne : Mismatch A → Type 0
    IsOfOne (Segments n) = ⊥
    IsOfOne d = Unit {0}

    of-one : (d : Mismatch A) → IsOfOne d → Is d → length m ≡ 1
    of-one Canonical t f = ap length f.2.1
    of-one (Segments n) t f = absurd t
    of-one (Capability k path) t f = f.2
    of-one (Word w is c whose) t f = ap length f.2.one
    of-one (After w is) t f = ap length f.2.one

    -- The mismatch says that the value has no capability.
    abbrev IsFree : Mismatch A → Type 0
    IsFree (Segments n) = ⊥
    IsFree (Capability k path) = ⊥
    IsFree d = Unit {0}

    free : (d : Mismatch A) → IsFree d → Is d → (v : Tree) × IsValueOf m limits v × (first_cap v ≡ None)
    free Canonical t f = (f.0, f.1, f.2.2)
    free (Segments n) t f = absurd t
    free (Capability k path) t f = absurd t
    free (Word w is c whose) t f = (f.2.value, f.2.is, f.2.free)
    free (After w is) t f = (f.2.value, f.2.is, f.2.free)

    pub one-mismatch : (d e : Mismatch A) → Is d → Is e → IsSameMismatch d e
    one-mismatch Canonical Canonical f g = tt
    one-mismatch (Segments n) (Segments k) f g = f.2 ∙ sym g.2
    one-mismatch (Segments n) Canonical f g = several n f.2 f.3 (of-one Canonical tt g)
    one-mismatch (Segments n) (Capability k other) f g = several n f.2 f.3 (of-one (Capability k other) tt g)
    one-mismatch (Segments n) (Word k x b other) f g = several n f.2 f.3 (of-one (Word k x b other) tt g)
    one-mismatch (Segments n) (After k x) f g = several n f.2 f.3 (of-one (After k x) tt g)
    one-mismatch Canonical (Segments n) f g = several n g.2 g.3 (of-one Canonical tt f)
    one-mismatch (Capability k path) (Segments n) f g = several n g.2 g.3 (of-one (Capability k path) tt f)
    one-mismatch (Word w is c whose) (Segments n) f g = several n g.2 g.3 (of-one (Word w is c whose) tt f)
    one-mismatch (After w is) (Segments n) f g = several n g.2 g.3 (of-one (After w is) tt f)
    one-mismatch (Capability k path) (Capability j other) f g =
        let z : ◌≡◌ (Some k) (Some j) = sym f.3 ∙ ap first_cap (one-value m limits f.0 g.0 f.1 g.1) ∙ g.3 in
        (cc, one-capability f.0 k j path.items other.items f.1 f.4 g.4)
    one-mismatch Canonical (Capability j other) f g =
        let s = free Canonical tt f in some-and-none s.0 g.0 j s.1 g.1 s.2 g.3
    one-mismatch (Word w is c whose) (Capability j other) f g =
        let s = free (Word w is c whose) tt f in some-and-none s.0 g.0 j s.1 g.1 s.2 g.3
    one-mismatch (After w is) (Capability j other) f g =
        let s = free (After w is) tt f in some-and-none s.0 g.0 j s.1 g.1 s.2 g.3
    one-mismatch (Capability k path) Canonical f g =
        let s = free Canonical tt g in some-and-none s.0 f.0 k s.1 f.1 s.2 f.3
    one-mismatch (Capability k path) (Word w is c whose) f g =
        let s = free (Word w is c whose) tt g in some-and-none s.0 f.0 k s.1 f.1 s.2 f.3
    one-mismatch (Capability k path) (After w is) f g =
        let s = free (After w is) tt g in some-and-none s.0 f.0 k s.1 f.1 s.2 f.3
    one-mismatch Canonical (Word k x b other) f g = canonical-and-word k x b other f g
    one-mismatch Canonical (After k x) f g = canonical-and-end k x f g
    one-mismatch (Word w is c whose) Canonical f g = canonical-and-word w is c whose g f
    one-mismatch (After w is) Canonical f g = canonical-and-end w is g f
    one-mismatch (Word w is c whose) (Word k x b other) f g = word-and-word w is c k x b whose other f g
    one-mismatch (Word w is c whose) (After k x) f g = word-and-end w is c k x whose f g
    one-mismatch (After w is) (Word k x b other) f g = word-and-end k x b w is other g f
    one-mismatch (After w is) (After k x) f g = end-and-end w is k x f g
