-- Lemmas on a fold that ends once its service is `done`.
use Rattle.std.proofs.Common.{◌≡◌, ◌⊎◌, inl, inr, ℕ, List, Bool, true, false, Option, Result, Ok, refl, sym, subst}
use Rattle.capn_canon.specs.declared.refusal.Refusal.{Refusal}
use Rattle.capn_serve.specs.declared.position.Position.{Position}
use Rattle.capn_serve.specs.declared.service.Run.{Run}
use Rattle.capn_serve.specs.declared.fault.RunFault.{RunFault}
use Rattle.capn_serve.specs.Fold.{EndsBy, EndsRefused, EndsUnframed, Fold, IfGoing, fold_until}

abbrev Ending : Type 0
Ending = Result (Unit {0}) RunFault

pub known : (b : Bool) → (b ≡ true) ⊎ (b ≡ false)
known true = inl refl
known false = inr refl

pub not_both : (b : Bool) → b ≡ true → b ≡ false → ⊥
not_both true h k = cc
not_both false h k = cc

pub if_going : (b : Bool) (P : Type 0) → b ≡ false → P → IfGoing b P
if_going b P going holds = subst (λ (m : Bool). IfGoing m P) (sym going) holds

pub going_of : (b : Bool) (P : Type 0) → IfGoing b P → (b ≡ false) × P
going_of true P none = absurd none
going_of false P holds = (refl, holds)

module _ {X : Type 0} (f : Fold X) (y : X) (rest : List ℕ) (behind : Option RunFault) (ending : Ending) where
  -- If the state `y` is not `done`, `EndsBy` follows from `EndsUnframed` or from `EndsRefused`.
  pub ends_going : f.done y ≡ false → EndsUnframed f y rest behind ending ⊎ EndsRefused f y rest ending
      → EndsBy f (f.done y) y rest behind ending
  ends_going going h = subst (λ (b : Bool). EndsBy f b y rest behind ending) (sym going) h

  pub ends_open : f.done y ≡ false → EndsBy f (f.done y) y rest behind ending
      → EndsUnframed f y rest behind ending ⊎ EndsRefused f y rest ending
  ends_open going h = subst (λ (b : Bool). EndsBy f b y rest behind ending) going h

  -- If the state `y` is `done`, a run ends with `Ok` in `y`.
  pub ends_done : f.done y ≡ true → ending ≡ Ok tt → EndsBy f (f.done y) y rest behind ending
  ends_done done is = subst (λ (b : Bool). EndsBy f b y rest behind ending) (sym done) is

  pub is_done : f.done y ≡ true → EndsBy f (f.done y) y rest behind ending → ending ≡ Ok tt
  is_done done h = subst (λ (b : Bool). EndsBy f b y rest behind ending) done h

-- ---- a service that may be `done`, compared with a service that is never `done`

module _ {S : Type 0} (serves : S → Position → List ℕ → List (List ℕ) → List ℕ → S → Type 0)
    (refuses : S → Position → List ℕ → List (List ℕ) → Refusal → Type 0) (done : S → Position → Bool) (most : ℕ) where
  abbrev f : Fold (Run S)
  f = fold_until serves refuses done most
