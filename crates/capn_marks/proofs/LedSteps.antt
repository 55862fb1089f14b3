-- A step of a path from a value to a value below it. (For `lead` and `mark_part`.)
use Rattle.std.proofs.Common.{◌≡◌, ℕ, suc, ◌+◌, ◌<◌, ◌≤◌, List, [], ◌∷◌, length, drop, get_or, Some, None, Option}
use Rattle.std.proofs.Common.{refl, subst, sym, ap, ap₂, ◌∙◌, arith}
use Rattle.std.specs.Prelude.{IfSome}
use Rattle.std.proofs.Math.Seq.{drop-cons}
use Rattle.std.proofs.Math.ListN.{drop_of_length-le}
use Rattle.capn_words.specs.declared.space.Place.{Place}
use Rattle.capn_value.specs.Tree.{Tree}
use Rattle.capn_value.specs.Cost.{height}
use Rattle.capn_target.specs.declared.target.Target.{Target}
use Rattle.capn_marks.specs.declared.marks.Marks.{Marks}
use Rattle.capn_show.specs.declared.descent.Part.{Part}
use Rattle.capn_show.specs.Part.{step_down}
use Rattle.capn_marks.specs.MarkedPart.{There, led, stepped, there_text, marked_at}
use Rattle.capn_show.specs.ReadyPlaces.{IsFound}
use Rattle.capn_marks.specs.MarkedPlaces.{IsLed, IsLedMarked}

abbrev pub somewhere : Tree → Place → Target → List ℕ → There
somewhere v a f w = record { at = a; found = f; value = v; path = w }

pub there-is : (v : Tree) (a b : Place) (f g : Target) (x y : List ℕ) → a ≡ b → f ≡ g → x ≡ y
    → Some (somewhere v a f x) ≡ Some (somewhere v b g y)
there-is v a b f g x y e h k =
    ap (λ (p : Place). Some (somewhere v p f x)) e ∙ ap₂ (λ (t : Target) (w : List ℕ). Some (somewhere v b t w)) h k

module _ (m : List (List ℕ)) where
  pub led-none : (numbers : List ℕ) → led m numbers None ≡ None
  led-none [] = refl
  led-none (i ∷ numbers) = refl

  pub led-one : (numbers : List ℕ) (i n : ℕ) (p : There) → i < length numbers → n ≡ get_or numbers i 0
      → led m (drop i numbers) (Some p) ≡ led m (drop (i + 1) numbers) (stepped m p n (step_down p.value n))
  led-one numbers i n p below e =
      let next : suc i ≡ i + 1 = omega arith in
      ap (λ (l : List ℕ). led m l (Some p)) (drop-cons numbers i 0 below)
      ∙ ap (λ (k : ℕ). led m (drop (suc i) numbers) (stepped m p k (step_down p.value k))) (sym e)
      ∙ ap (λ (k : ℕ). led m (drop k numbers) (stepped m p n (step_down p.value n))) next

  pub led-end : (numbers : List ℕ) (i : ℕ) (p : There) → length numbers ≤ i → led m (drop i numbers) (Some p) ≡ Some p
  led-end numbers i p past = ap (λ (l : List ℕ). led m l (Some p)) (drop_of_length-le numbers past)

  module _ (numbers : List ℕ) (v : Tree) (path : List ℕ) where
    pub led-marked : (marks : Marks) (Says : List ℕ → Type 0) (found : Option Part) → IsLed m numbers v path found
        → IsLedMarked m marks path found Says → Says (marked_at m marks numbers v)
    led-marked marks Says (Some p) (u, e, shows, low) k = subst Says (sym (ap (there_text m marks) e)) (k u shows)
    led-marked marks Says None e k = subst Says (sym (ap (there_text m marks) e)) k

    pub led-ready : (depth : ℕ) (found : Option Part) → IsLed m numbers v path found → height v ≤ depth
        → IfSome found (λ p. IsFound m p.found depth)
    led-ready depth (Some p) (u, e, shows, low) high = record { value = u; is = shows; low = omega arith }
    led-ready depth None e high = tt
