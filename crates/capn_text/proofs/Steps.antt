-- Lemmas on steps of reading, one after another. (For `FittingText`, `HeadText`, `Heights` and others.)
use Rattle.std.proofs.Common.{◌≡◌, ℕ, zero, suc, Bool, true, false, cond, List, [], ◌∷◌, ◌++◌, length, Option, Some}
use Rattle.std.proofs.Common.{None, ◌⊎◌, inl, inr}
use Rattle.std.proofs.Common.{refl, sym, ap, subst, ◌∙◌, append_assoc}
use Rattle.std.specs.List.{AllByRecursion}
use Rattle.capn_text.specs.inner.Tokens.{◌>>=◌, many}

pub bind_some : {A B : Type 0} (r : Option A) (f : A → Option B) (y : B) → (r >>= f) ≡ Some y
    → (x : A) × (r ≡ Some x) × (f x ≡ Some y)
bind_some (Some x) f y e = (x, refl, e)
bind_some None f y e = absurd cc

pub guard_some : {A : Type 0} (b : Bool) (x y : A) → cond b (Some x) None ≡ Some y → (b ≡ true) × (x ≡ y)
guard_some true x y e = (refl, cc)
guard_some false x y e = absurd cc

pub guard_read : {A : Type 0} (b : Bool) (r : Option A) (y : A) → cond b r None ≡ Some y → (b ≡ true) × (r ≡ Some y)
guard_read true r y e = (refl, e)
guard_read false r y e = absurd cc

pub chosen : {A : Type 0} (b : Bool) (r s : Option A) (y : A) → cond b r s ≡ Some y
    → ((b ≡ true) × (r ≡ Some y)) ⊎ ((b ≡ false) × (s ≡ Some y))
chosen true r s y e = inl (refl, e)
chosen false r s y e = inr (refl, e)

abbrev some : {A : Type 0} → A → Option A
some x = Some x

pub some_is : {A : Type 0} (x y : A) → some x ≡ some y → x ≡ y
some_is x y e = cc

pub then : (t a b x y : List ℕ) → t ≡ a ++ x → x ≡ b ++ y → t ≡ (a ++ b) ++ y
then t a b x y e f = e ∙ ap (λ z. a ++ z) f ∙ sym (append_assoc a b y)

-- Let `text` write the items of a list one after the other, each as `show` writes it.
module _ {X : Type 0} (one : List ℕ → Option (X × List ℕ)) (show : X → List ℕ) (text : List X → List ℕ)
    (P : X → Type 0) (none : text [] ≡ []) (more : (x : X) (xs : List X) → text (x ∷ xs) ≡ show x ++ text xs) where
  pub many_again : ((x : X) (rest : List ℕ) → P x → one (show x ++ rest) ≡ Some (x, rest))
      → (xs : List X) (rest : List ℕ) → AllByRecursion P xs → many one (length xs) (text xs ++ rest) ≡ Some (xs, rest)
  unfolding many
  many_again again [] rest all = ap (λ t. Some ([], t ++ rest)) none
  many_again again (x ∷ xs) rest all =
      let regrouped : text (x ∷ xs) ++ rest ≡ show x ++ (text xs ++ rest) =
      ap (λ t. t ++ rest) (more x xs) ∙ append_assoc (show x) (text xs) rest in
      ap (many one (suc (length xs))) regrouped
      ∙ rw (again x (text xs ++ rest) all.0, many_again again xs rest all.1) refl

  pub many_takes : ((t : List ℕ) (x : X) (rest : List ℕ) → one t ≡ Some (x, rest) → (t ≡ show x ++ rest) × P x)
      → (n : ℕ) (t : List ℕ) (xs : List X) (rest : List ℕ) → many one n t ≡ Some (xs, rest)
      → (t ≡ text xs ++ rest) × (length xs ≡ n) × AllByRecursion P xs
  unfolding many
  many_takes takes zero t xs rest e =
      let p = some_is ([], t) (xs, rest) e in
      subst (λ (y : List X × List ℕ). (t ≡ text y.0 ++ y.1) × (length y.0 ≡ 0) × AllByRecursion P y.0) p
      (sym (ap (λ a. a ++ t) none), refl, tt)
  many_takes takes (suc n) t xs rest e =
      let a = bind_some (one t) (λ x. many one n x.1 >>= λ ys. Some (x.0 ∷ ys.0, ys.1)) (xs, rest) e in
      let b = bind_some (many one n a.0.1) (λ ys. Some (a.0.0 ∷ ys.0, ys.1)) (xs, rest) a.2 in
      let first = takes t a.0.0 a.0.1 a.1 in
      let others = many_takes takes n a.0.1 b.0.0 b.0.1 b.1 in
      let whole : t ≡ text (a.0.0 ∷ b.0.0) ++ b.0.1 = then t (show a.0.0) (text b.0.0) a.0.1 b.0.1 first.0 others.0
      ∙ sym (ap (λ z. z ++ b.0.1) (more a.0.0 b.0.0)) in
      subst (λ (y : List X × List ℕ). (t ≡ text y.0 ++ y.1) × (length y.0 ≡ suc n) × AllByRecursion P y.0)
      (some_is (a.0.0 ∷ b.0.0, b.0.1) (xs, rest) b.2) (whole, ap suc others.1, (first.1, others.2))
