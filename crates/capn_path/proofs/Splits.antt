-- If two joined lists are split at an element, that element is in the first list or in the second. (For `Followed`,
-- `Holding` and `Unique`.)
use Rattle.std.proofs.Common.{◌≡◌, ◌⊎◌, inl, inr, List, [], ◌∷◌, ◌++◌, length}
use Rattle.std.proofs.Common.{refl, ap, ap₂, sym, arith, length-append}

pub record InFirst {A : Type 0} (zs xs : List A) (x : A) (ys : List A) : Type 0 where
  pub behind : List A
  pub is : zs ≡ xs ++ x ∷ behind

pub record InSecond {A : Type 0} (zs bs xs : List A) (x : A) (ys : List A) : Type 0 where
  pub before : List A
  pub is : bs ≡ before ++ x ∷ ys
  pub front : xs ≡ zs ++ before

cons-parts : {A : Type 0} (a b : A) (zs bs : List A) → a ∷ zs ≡ b ∷ bs → (a ≡ b) × (zs ≡ bs)
cons-parts a b zs bs e = (cc, cc)

pub in-either : {A : Type 0} (zs bs xs : List A) (x : A) (ys : List A) → zs ++ bs ≡ xs ++ x ∷ ys
    → InFirst zs xs x ys ⊎ InSecond zs bs xs x ys
in-either [] bs xs x ys e = inr (record { before = xs; is = e; front = refl })
in-either (a ∷ zs) bs [] x ys e =
    let p = cons-parts a x (zs ++ bs) ys e in
    inl (record { behind = zs; is = ap (λ z. z ∷ zs) p.0 })
in-either (a ∷ zs) bs (y ∷ xs) x ys e =
    let p = cons-parts a y (zs ++ bs) (xs ++ x ∷ ys) e in
    elim (in-either zs bs xs x ys p.1) as (λ _. InFirst (a ∷ zs) (y ∷ xs) x ys ⊎ InSecond (a ∷ zs) bs (y ∷ xs) x ys) [
      | inl f ↦ inl (record { behind = f.behind; is = ap₂ (λ z l. z ∷ l) p.0 f.is })
      | inr f ↦ inr (record {
        before = f.before;
        is = f.is;
        front = ap₂ (λ z l. z ∷ l) (sym p.0) f.front;
      })
    ]

pub none-split : {A : Type 0} (xs : List A) (x : A) (ys : List A) → [] ≡ xs ++ x ∷ ys → ⊥
none-split xs x ys e = let l = ap length e in let m = length-append xs (x ∷ ys) in omega arith
