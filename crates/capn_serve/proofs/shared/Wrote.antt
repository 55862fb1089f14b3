-- Lemmas for callers of `write_all`: how a run ends, and whether its writer has failed.
use Rattle.std.proofs.Common.{◌≡◌, ◌↔◌, ◌||◌, Bool, true, false, Result, Ok, Err, IsErrOf, ap, refl, sym, ◌∙◌}
use Rattle.capn_serve.specs.declared.fault.RunFault.{RunFault}
use Rattle.capn_serve.specs.declared.fault.RunFault.TheVariants as faults

abbrev pub Ending : Type 0
Ending = Result (Unit {0}) RunFault

-- The result of a run that ends because its writer failed.
abbrev pub unwritten : Ending
unwritten = Err faults.Io

-- The result of a run whose text was written.
abbrev pub written : Ending
written = Ok tt

-- Case: the call failed.
pub has_failed_now : (before after : Bool) → before ≡ false → after ≡ (before || true) → after ≡ true
has_failed_now before after fine is = is ∙ ap (λ (was : Bool). was || true) fine

pub io_of_unwritten : (before after : Bool) → before ≡ false → after ≡ (before || true)
    → IsErrOf unwritten faults.Io ↔ (after ≡ true)
io_of_unwritten before after fine is = (λ h. has_failed_now before after fine is, λ h. refl)

-- Case: the call wrote all bytes.
pub is_fine_still : (before after : Bool) → before ≡ false → after ≡ (before || false) → after ≡ false
is_fine_still before after fine is = is ∙ ap (λ (was : Bool). was || false) fine

pub io_of_written : (before after : Bool) → before ≡ false → after ≡ (before || false)
    → IsErrOf written faults.Io ↔ (after ≡ true)
io_of_written before after fine is = (
  λ h. absurd (cc),
  λ h. absurd (let bad : true ≡ false = sym h ∙ is_fine_still before after fine is in cc),
)
