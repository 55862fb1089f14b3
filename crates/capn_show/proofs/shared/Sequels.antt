-- One call adds a text, and the next call adds another text. (For the cycle `slots`, `put_item`, `show_bits`,
-- `show_bytes`, `json_text` and capn_marks.)
use Rattle.std.proofs.Common.{◌≡◌, ℕ, List, ◌++◌, refl}
use Rattle.std.specs.Prelude.{Result, Ok, Err, OnOk, IfErr}
use Rattle.capn_show.specs.declared.fault.Broken.{Broken}
use Rattle.capn_show.specs.declared.fault.Broken.TheVariants as broken
use Rattle.capn_show.specs.Outgoing.{Outgoing, Adds, BreaksOff}
use Rattle.capn_show.proofs.shared.Appended.{both, then-broken, broken-before, refused}

module _ {T : Type 0} (p q r : Outgoing) (x y : List ℕ) (h : Adds p q x) where
  pub ok-then : (result : Result T Broken) → OnOk result (Adds q r y) → OnOk result (Adds p r (x ++ y))
  ok-then (Ok z) k = both p q r x y h k
  ok-then (Err e) k = tt

  pub err-then : (result : Result T Broken) → IfErr result (λ e. BreaksOff q r e y)
      → IfErr result (λ e. BreaksOff p r e (x ++ y))
  err-then (Ok z) k = tt
  err-then (Err e) k = then-broken p q r e x y h k

-- If an allocation is refused before any byte of `t` is added, `t` breaks off.
pub unbegun : (p : Outgoing) (t : List ℕ) (e : Broken) → e ≡ broken.Memory → BreaksOff p p e t
unbegun p t e is = refused p p t e is refl refl refl

-- Three texts, `x`, `y` and `z`, are to be added one after the other.
module _ (p q : Outgoing) (x y z : List ℕ) where
  pub three : (r s : Outgoing) → Adds p q x → Adds q r y → Adds r s z → Adds p s (x ++ (y ++ z))
  three r s h k l = both p q s x (y ++ z) h (both q r s y z k l)

  pub cut-second : (r : Outgoing) (e : Broken) → Adds p q x → BreaksOff q r e y → BreaksOff p r e (x ++ (y ++ z))
  cut-second r e h k = then-broken p q r e x (y ++ z) h (broken-before q r e y z k)

  pub cut-third : (r s : Outgoing) (e : Broken) → Adds p q x → Adds q r y → BreaksOff r s e z
      → BreaksOff p s e (x ++ (y ++ z))
  cut-third r s e h k l = then-broken p q s e x (y ++ z) h (then-broken q r s e y z k l)
