-- Lemmas for the law `making`: a run on an input in form `Bare` has one result.
use Rattle.std.proofs.Common.{◌≡◌, inl, inr, ℕ, List, [], ◌∷◌, Ok, Err, refl, sym, ap, subst, ◌∙◌}
use Rattle.capn_value.specs.Tree.{Tree}
use Rattle.capn_text.specs.Laws.{TextsAreApart, FittingIsShowable, OneWrongLine, WrongIsNotDeep, DeepIsHigh}
use Rattle.capn_canon.specs.Layout.{canon}
use Rattle.capn_make.specs.MadeInput.{AreFirst, IsStuck, IsTextRefused, IsNotOne, Follows, line_after}
use Rattle.capn_make.specs.Laws.{OneBareMaking}
use Rattle.capn_make.specs.declared.fault.MakeFault.{MakeFault}
use Rattle.capn_make.specs.declared.fault.MakeFault.TheVariants as faults
use Rattle.capn_make.proofs.OneReading.{nothing_stuck, next_same, shown, next_of, refused_stuck}
use Rattle.capn_make.proofs.OneRefusal.{nothing_refused, nothing_follows, one_fault}

one_follows : (line : ℕ) (rest : List ℕ) (f g : MakeFault) → Follows line rest f → Follows line rest g → f ≡ g
one_follows line rest faults.Memory g h k = absurd h
one_follows line rest faults.Io g h k = absurd h
one_follows line rest faults.InputTooLong g h k = absurd h
one_follows line rest (faults.Misfit n m) g h k = absurd h
one_follows line rest (faults.Capability n i) g h k = absurd h
one_follows line rest faults.NoText g h k = absurd h
one_follows line rest (faults.NotText n) faults.Memory h k = absurd k
one_follows line rest (faults.NotText n) faults.Io h k = absurd k
one_follows line rest (faults.NotText n) faults.InputTooLong h k = absurd k
one_follows line rest (faults.NotText n) (faults.Misfit i m) h k = absurd k
one_follows line rest (faults.NotText n) (faults.Capability i j) h k = absurd k
one_follows line rest (faults.NotText n) faults.NoText h k = absurd k
one_follows line rest (faults.NotText n) (faults.NotText i) h k = ap (λ a. faults.NotText a) (h.0 ∙ sym k.0)
one_follows line rest (faults.NotText n) (faults.Another i) h k = absurd (h.2 k.1 k.2)
one_follows line rest (faults.Another n) faults.Memory h k = absurd k
one_follows line rest (faults.Another n) faults.Io h k = absurd k
one_follows line rest (faults.Another n) faults.InputTooLong h k = absurd k
one_follows line rest (faults.Another n) (faults.Misfit i m) h k = absurd k
one_follows line rest (faults.Another n) (faults.Capability i j) h k = absurd k
one_follows line rest (faults.Another n) faults.NoText h k = absurd k
one_follows line rest (faults.Another n) (faults.NotText i) h k = absurd (k.2 h.1 h.2)
one_follows line rest (faults.Another n) (faults.Another i) h k = ap (λ a. faults.Another a) (h.0 ∙ sym k.0)

module _ (apart : TextsAreApart) (shows : FittingIsShowable) (one_line : OneWrongLine) (not_deep : WrongIsNotDeep)
    (high : DeepIsHigh) (input : List ℕ) where
  not_stuck : (v : Tree) (rest : List ℕ) → AreFirst (v ∷ []) input rest → IsStuck input → ⊥
  not_stuck v rest first stuck = stuck v rest first.each.0 (first.are ∙ next_of apart shows v [] rest)

  same_first : (v w : Tree) (x y : List ℕ) → AreFirst (v ∷ []) input x → AreFirst (w ∷ []) input y
      → (v ≡ w) × (x ≡ y)
  same_first v w x y a b =
      next_same apart shows v w x y input (shown apart shows v a.each.0) (shown apart shows w b.each.0)
      (a.are ∙ next_of apart shows v [] x) (b.are ∙ next_of apart shows w [] y)

  follows_it : (v w : Tree) (x y : List ℕ) (f g : MakeFault) → AreFirst (v ∷ []) input x → AreFirst (w ∷ []) input y
      → Follows (line_after (v ∷ [])) x f → Follows (line_after (w ∷ [])) y g → f ≡ g
  follows_it v w x y f g a b h k =
      let p = same_first v w x y a b in
      let there = subst (λ (u : Tree). Follows (line_after (u ∷ [])) x f) p.0 h in
      one_follows (line_after (w ∷ [])) y f g (subst (λ t. Follows (line_after (w ∷ [])) t f) p.1 there) k

  one_reason : (f g : MakeFault) → IsNotOne input f → IsNotOne input g → f ≡ g
  one_reason f g (inl h) (inl k) = h.1 ∙ sym k.1
  one_reason f g (inl h) (inr (inl k)) =
      absurd (nothing_refused 1 g (subst (λ t. IsTextRefused 1 t g) h.0 k))
  one_reason f g (inl h) (inr (inr k)) = absurd (not_stuck k.0 k.1 k.2 (subst IsStuck (sym h.0) nothing_stuck))
  one_reason f g (inr (inl h)) (inl k) =
      absurd (nothing_refused 1 f (subst (λ t. IsTextRefused 1 t f) k.0 h))
  one_reason f g (inr (inl h)) (inr (inl k)) = one_fault apart shows one_line not_deep high 1 input f g h k
  one_reason f g (inr (inl h)) (inr (inr k)) =
      absurd (not_stuck k.0 k.1 k.2 (refused_stuck apart shows high 1 input f h))
  one_reason f g (inr (inr h)) (inl k) = absurd (not_stuck h.0 h.1 h.2 (subst IsStuck (sym k.0) nothing_stuck))
  one_reason f g (inr (inr h)) (inr (inl k)) =
      absurd (not_stuck h.0 h.1 h.2 (refused_stuck apart shows high 1 input g k))
  one_reason f g (inr (inr h)) (inr (inr k)) = follows_it h.0 k.0 h.1 k.1 f g h.2 k.2 h.3 k.3

  made_or_not : (v : Tree) (f : MakeFault) → AreFirst (v ∷ []) input [] → IsNotOne input f → ⊥
  made_or_not v f first (inl h) = not_stuck v [] first (subst IsStuck (sym h.0) nothing_stuck)
  made_or_not v f first (inr (inl h)) = not_stuck v [] first (refused_stuck apart shows high 1 input f h)
  made_or_not v f first (inr (inr h)) =
      let line = line_after (h.0 ∷ []) in
      let over = (same_first v h.0 [] h.1 first h.2).1 in
      nothing_follows line f (subst (λ t. Follows line t f) (sym over) h.3)

module _ (apart : TextsAreApart) (shows : FittingIsShowable) (one_line : OneWrongLine) (not_deep : WrongIsNotDeep)
    (high : DeepIsHigh) where
  pub one_bare : OneBareMaking
  one_bare input text other (Ok u) (Ok w) h k =
      let p = same_first apart shows one_line not_deep high input h.0 k.0 [] [] h.1 k.1 in
      (h.2 ∙ ap canon p.0 ∙ sym k.2, refl)
  one_bare input text other (Ok u) (Err g) h k =
      absurd (made_or_not apart shows one_line not_deep high input h.0 g h.1 k.1)
  one_bare input text other (Err f) (Ok w) h k =
      absurd (made_or_not apart shows one_line not_deep high input k.0 f k.1 h.1)
  one_bare input text other (Err f) (Err g) h k =
      (h.0 ∙ sym k.0, ap (λ x. Err x) (one_reason apart shows one_line not_deep high input f g h.1 k.1))
