-- The words that a slot owns, and the words between which the slots below an object own words. The words of the only
-- segment follow the rules of the encoding page. (For `OneOwner`.)
use Rattle.std.proofs.Common.{◌≡◌, ◌⊎◌, inl, inr, ℕ, zero, suc, ◌+◌, ◌<◌, ◌≤◌, List, [], ◌∷◌, ◌++◌}
use Rattle.std.proofs.Common.{Ok, Result, refl, ap, sym, subst, ◌∙◌, arith}
use Rattle.capn_words.specs.declared.space.Place.{Place}
use Rattle.capn_words.specs.declared.pointer.Width.{Width}
use Rattle.capn_words.specs.declared.pointer.Width.TheVariants.{W0, W1, W8, W16, W32, W64, Link, Rows}
use Rattle.capn_target.specs.declared.target.Target.{Target}
use Rattle.capn_target.specs.declared.target.Target.TheVariants as targets
use Rattle.capn_target.specs.declared.target.Fault.{Fault}
use Rattle.capn_target.specs.declared.target.Shape.{Shape}
use Rattle.capn_target.specs.declared.target.Shape.TheVariants as shapes
use Rattle.capn_target.specs.Shapes.{extent}
use Rattle.capn_target.specs.Target.{target}
use Rattle.capn_walk.specs.Visits.{slots}
use Rattle.capn_canon.specs.PageForm.{Met, null, object, IsEmpty, InPreorder}
use Rattle.capn_mismatch.specs.declared.word_kind.WordKind.{WordKind}
use Rattle.capn_mismatch.specs.declared.word_kind.WordKind.TheVariants as kinds
use Rattle.capn_mismatch.specs.Owner.{IsTag, IsSmall, IsLastWord}
use Rattle.capn_mismatch.proofs.Owning.{Tells}
use Rattle.capn_mismatch.proofs.Preorder.{total, Gapless, Split, split, Rising, rise-le, above}

pub ok-one : (x y : Target) → ◌≡◌ {A = Result Target Fault} (Ok x) (Ok y) → x ≡ y
ok-one x y e = cc

pub rise-some : (lo hi : ℕ) (before : List Place) (slot : Place) (behind : List Place)
    → Rising lo hi (before ++ slot ∷ behind) → lo < hi
rise-some lo hi [] slot behind r =
    let a = r.0 in
    let b = rise-le (suc slot.word) hi behind r.1 in
    omega arith
rise-some lo hi (p ∷ ps) slot behind r =
    let a = r.0 in
    let b = rise-some (suc p.word) hi ps slot behind r.1 in
    omega arith

pub empty-extent : (shape : Shape) → IsEmpty shape → extent shape ≡ 0
empty-extent (shapes.Node zero zero) e = refl
empty-extent (shapes.Node zero (suc b)) e = absurd e
empty-extent (shapes.Node (suc a) b) e = absurd e
empty-extent (shapes.Many width n) e = absurd e
empty-extent (shapes.Rows n a b span) e = absurd e

no-slots : (start : ℕ) (width : Width) (n : ℕ) → IsSmall width → slots 0 start (shapes.Many width n) ≡ []
no-slots start W0 n h = absurd h
no-slots start W1 n h = refl
no-slots start W8 n h = refl
no-slots start W16 n h = refl
no-slots start W32 n h = refl
no-slots start W64 n h = absurd h
no-slots start Link n h = absurd h
no-slots start Rows n h = absurd h

pub none-split : (xs : List Place) (x : Place) (ys : List Place) → [] ≡ xs ++ x ∷ ys → ⊥
none-split [] x ys e = absurd cc
none-split (y ∷ xs) x ys e = absurd cc

module _ (cs : List ℕ) (k : ℕ) where
  -- The message with the only segment `cs`.
  abbrev m : List (List ℕ)
  m = cs ∷ []

  -- The slot at `at` owns word `k`, which has the kind `x`.
  abbrev pub Owns : WordKind → Place → Type 0
  Owns x at = Tells k at (target m at) x

  -- ---- where the word is

  -- Word `k` is the word at `at`, or a word of the objects `met`, which begin at the word `next`.
  abbrev pub Inside : Place → List Met → ℕ → Type 0
  Inside at met next = (at.word ≡ k) ⊎ ((next ≤ k) × (k < next + total met))

  -- Word `k` is one of the words from `lo` on and before `hi`, or a word of the objects `met`.
  abbrev pub Below : (lo hi : ℕ) → List Met → ℕ → Type 0
  Below lo hi met next = ((lo ≤ k) × (k < hi)) ⊎ ((next ≤ k) × (k < next + total met))

  -- Word `k` is `Inside` for any pointers at the slot and below it.
  abbrev pub Bounded : Place → Type 0
  Bounded at =
      (met : List Met) (next : ℕ) → InPreorder cs (at ∷ []) met → Gapless next met → Inside at met next

  pub below : (before : List Place) (slot : Place) (behind : List Place) (met : List Met) (next lo hi : ℕ)
      → Rising lo hi (before ++ slot ∷ behind) → InPreorder cs (before ++ slot ∷ behind) met → Gapless next met
      → Bounded slot → Below lo hi met next
  below [] slot behind met next lo hi r h g on =
      let s = split cs met (slot ∷ []) behind next h g in
      from s (on s.front next s.first s.one)
    where
      from : (s : Split cs (slot ∷ []) behind met next) → Inside slot s.front next → Below lo hi met next
      from s (inl e) =
          let a = r.0 in
          let l = rise-le (suc slot.word) hi behind r.1 in
          inl (omega arith, omega arith)
      from s (inr u) =
          let a = u.0 in
          let b = u.1 in
          let t = s.sum in
          inr (a, omega arith)
  below (p ∷ ps) slot behind met next lo hi r h g on =
      let s = split cs met (p ∷ []) (ps ++ slot ∷ behind) next h g in
      from s (below ps slot behind s.back (next + total s.front) (suc p.word) hi r.1 s.second s.other on)
    where
      from : (s : Split cs (p ∷ []) (ps ++ slot ∷ behind) met next)
          → Below (suc p.word) hi s.back (next + total s.front) → Below lo hi met next
      from s (inl u) =
          let a = r.0 in
          let b = u.0 in
          inl (omega arith, u.1)
      from s (inr u) =
          let a = u.0 in
          let b = u.1 in
          let t = s.sum in
          inr (omega arith, omega arith)

  -- ---- what a slot owns by itself

  -- Word `k` has the given kind for a slot at the word `word`, whose object of `shape` starts at the word `start`.
  -- Unless the object is an empty struct, `next` is `start`.
  abbrev pub Placed : WordKind → (word start next : ℕ) → Shape → Type 0
  Placed kinds.Pointer word start next shape = word ≡ k
  Placed kinds.Tag word start next shape = (k ≡ next) × (above shape ≡ 1) × (0 < extent shape)
  Placed kinds.LastWord word start next shape =
      (slots 0 start shape ≡ []) × (above shape ≡ 0) × (next ≤ k) × (k < next + extent shape)

  tag-in : (word start next : ℕ) (shape : Shape) → ((IsEmpty shape → ⊥) → start ≡ next)
      → IsTag k (targets.Content 0 start shape 0) → Placed kinds.Tag word start next shape
  tag-in word start next (shapes.Node a b) f i = absurd i
  tag-in word start next (shapes.Many width n) f i = absurd i
  tag-in word start next (shapes.Rows n a b span) f i =
      let z = f (λ e. e) in
      let y = i.1 in
      (omega arith, refl, omega arith)

  last-in : (word start next : ℕ) (shape : Shape) → ((IsEmpty shape → ⊥) → start ≡ next)
      → IsLastWord k (targets.Content 0 start shape 0) → Placed kinds.LastWord word start next shape
  last-in word start next (shapes.Node a b) f i = absurd i
  last-in word start next (shapes.Rows n a b span) f i = absurd i
  last-in word start next (shapes.Many width n) f i =
      let z = f (λ e. e) in
      let a = i.2 in
      let b = i.3 in
      (no-slots start width n i.0, refl, omega arith, omega arith)

  placed-null : (x : WordKind) (at : Place) → Owns x at → target m at ≡ Ok targets.Nil
      → (x ≡ kinds.Pointer) × (at.word ≡ k)
  placed-null kinds.Pointer at o e = (refl, ap (λ (p : Place). p.word) o)
  placed-null kinds.Tag at (t, f, i) e = absurd (subst (IsTag k) (ok-one t targets.Nil (sym f ∙ e)) i)
  placed-null kinds.LastWord at (t, f, i) e = absurd (subst (IsLastWord k) (ok-one t targets.Nil (sym f ∙ e)) i)

  pub placed : (x : WordKind) (at : Place) (start next : ℕ) (shape : Shape) → Owns x at
      → target m at ≡ Ok (targets.Content 0 start shape 0) → ((IsEmpty shape → ⊥) → start ≡ next)
      → Placed x at.word start next shape
  placed kinds.Pointer at start next shape o e f = ap (λ (p : Place). p.word) o
  placed kinds.Tag at start next shape (t, n, i) e f =
      tag-in at.word start next shape f
      (subst (IsTag k) (ok-one t (targets.Content 0 start shape 0) (sym n ∙ e)) i)
  placed kinds.LastWord at start next shape (t, n, i) e f =
      last-in at.word start next shape f
      (subst (IsLastWord k) (ok-one t (targets.Content 0 start shape 0) (sym n ∙ e)) i)

  placed-inside : (x : WordKind) (at : Place) (start next : ℕ) (shape : Shape) (rest : List Met) (p : ℕ)
      → Placed x at.word start next shape → Inside at (object p start shape ∷ rest) next
  placed-inside kinds.Pointer at start next shape rest p h = inl h
  placed-inside kinds.Tag at start next shape rest p h =
      let a = h.0 in
      let b = h.2 in
      inr (omega arith, omega arith)
  placed-inside kinds.LastWord at start next shape rest p h =
      let a = h.2 in
      let b = h.3 in
      inr (omega arith, omega arith)

  pub owns-itself : (x : WordKind) (at : Place) → Owns x at → Bounded at
  owns-itself x at o [] next h g = absurd h
  owns-itself x at o (null ∷ rest) next h g = inl (placed-null x at o h.0).1
  owns-itself x at o (object p start shape ∷ rest) next h g =
      placed-inside x at start next shape rest p (placed x at start next shape o h.1 g.0)

  same-part : (x y : WordKind) (at : Place) (start next : ℕ) (shape : Shape) → at.word < next
      → Placed x at.word start next shape → Placed y at.word start next shape → x ≡ y
  same-part kinds.Pointer kinds.Pointer at start next shape lt h g = refl
  same-part kinds.Tag kinds.Tag at start next shape lt h g = refl
  same-part kinds.LastWord kinds.LastWord at start next shape lt h g = refl
  same-part kinds.Pointer kinds.Tag at start next shape lt h g = let a = g.0 in absurd (omega arith)
  same-part kinds.Pointer kinds.LastWord at start next shape lt h g = let a = g.2 in absurd (omega arith)
  same-part kinds.Tag kinds.Pointer at start next shape lt h g = let a = h.0 in absurd (omega arith)
  same-part kinds.LastWord kinds.Pointer at start next shape lt h g = let a = h.2 in absurd (omega arith)
  same-part kinds.Tag kinds.LastWord at start next shape lt h g = let a = h.1 in let b = g.1 in absurd (omega arith)
  same-part kinds.LastWord kinds.Tag at start next shape lt h g = let a = h.1 in let b = g.1 in absurd (omega arith)

  pub one-part : (x y : WordKind) (at : Place) (met : List Met) (next : ℕ) → at.word < next
      → InPreorder cs (at ∷ []) met → Gapless next met → Owns x at → Owns y at → x ≡ y
  one-part x y at [] next lt h g o q = absurd h
  one-part x y at (null ∷ rest) next lt h g o q = (placed-null x at o h.0).0 ∙ sym (placed-null y at q h.0).0
  one-part x y at (object p start shape ∷ rest) next lt h g o q =
      same-part x y at start next shape lt (placed x at start next shape o h.1 g.0)
      (placed y at start next shape q h.1 g.0)
