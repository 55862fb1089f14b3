-- Lemmas for `write_refusal`: the text that follows the loop over the messages. (Also for `Faithful`.)
use Rattle.std.proofs.Common.{◌≡◌, ◌≢◌, ◌↔◌, ◌⊎◌, inl, inr, ℕ, List, [], ◌∷◌, Bool, true, false, Option, None, Some}
use Rattle.std.proofs.Common.{OnOk, IsErrOf, IsErrAnd, IsOkUnless, length, arith, Result, Ok, Err, refl, ap, sym, subst}
use Rattle.std.proofs.Common.{◌∙◌}
use Rattle.std.specs.Io.KnownBytes.{Appends}
use Rattle.capn_words.specs.Watched.{HasBegun}
use Rattle.capn_walk.specs.Limits.{Bounds}
use Rattle.capn_canon.specs.declared.refusal.Refusal.{Refusal}
use Rattle.capn_serve.specs.declared.fault.RunFault.{RunFault}
use Rattle.capn_serve.specs.declared.fault.RunFault.TheVariants as faults
use Rattle.capn_serve.specs.declared.position.Position.{Position}
use Rattle.capn_serve.specs.Finish.{PutsText}
use Rattle.capn_serve.specs.WhatCame.{Came}
use Rattle.capn_explain.specs.ExplainRun.{ending_by, rest_ending, told_at}
use Rattle.capn_explain.specs.FaultLines.{fault_lines}
use Rattle.capn_explain.specs.Reports.{First, apart}
use Rattle.capn_explain.specs.declared.order.Order.{Order}
use Rattle.capn_explain.specs.declared.order.Wanted.{Wanted}
use Rattle.capn_explain.specs.declared.order.Wanted.TheVariants as wants
use Rattle.capn_explain.specs.declared.outcome.Outcome.{Outcome}
use Rattle.capn_explain.specs.declared.outcome.Outcome.TheVariants as outcomes

abbrev pub Ending : Type 0
Ending = Result (Unit {0}) RunFault

-- The result `r` of a run, with the type `Ending`.
abbrev pub ended : Ending → Ending
ended r = r

-- The result of a run that ends with the fault `e`.
abbrev pub stopped : RunFault → Ending
stopped e = Err e

-- ---- what is written

no_failure : (failed : Bool) → ((ended (Ok tt) ≡ Err faults.Io) ↔ (failed ≡ true)) → failed ≡ false
no_failure false io = refl
no_failure true (to, from) = let k = from refl in absurd (cc)

-- Case: if the text was written, or the writer failed, `PutsText` holds.
pub closing_wrote : (text bytes : List ℕ) (old new : Option (List ℕ)) (after : Bool) (r : Ending) → text ≢ []
    → bytes ≡ text → OnOk r (Appends old new bytes) → HasBegun old new bytes
    → (IsErrOf r faults.Io ↔ (after ≡ true)) → IsOkUnless r faults.Io → PutsText text old new after r
closing_wrote text bytes old new after (Ok u) some same ok begun io only =
    (subst (Appends old new) same ok, no_failure after io)
closing_wrote text bytes old new after (Err e) some same ok begun io only =
    (some, inr (only, subst (HasBegun old new) same begun, io.0 (ap stopped only)))

-- Case: if an allocation was refused for the text, `PutsText` holds.
pub closing_refused : (text : List ℕ) (old new : Option (List ℕ)) (after : Bool) (r : Ending) (fault : RunFault)
    → IsErrAnd r (λ e. e ≡ fault) → fault ≡ faults.Memory → new ≡ old → after ≡ false → text ≢ []
    → PutsText text old new after r
closing_refused text old new after (Ok u) fault told is same fine some = absurd told
closing_refused text old new after (Err e) fault told is same fine some = (some, inl (told ∙ is, same, fine))

fault_some : (limits : Bounds) (at : Position) (r : Refusal) (rest group : List ℕ)
    → fault_lines limits at r rest group ≢ []
fault_some limits at r rest group = λ h. absurd (omega (arith, ap length h))

apart_some : (w : Wanted) (lines : List ℕ) → lines ≢ [] → apart w lines ≢ []
apart_some wants.Each [] some = absurd (some refl)
apart_some wants.Each (byte ∷ bytes) some = λ h. absurd (cc)
apart_some wants.First lines some = some
apart_some (wants.Number number) lines some = some

pub told_some : (order : Order) (at : Position) (r : Refusal) (came : Came) → told_at order at r came ≢ []
told_some order at r came =
    apart_some order.wanted (fault_lines order.limits at r came.rest came.group)
    (fault_some order.limits at r came.rest came.group)

-- ---- the end of a run

rest_not_io : (w : Wanted) (first : Option First) → rest_ending w first ≡ Err faults.Io → ⊥
rest_not_io (wants.Number number) first is = absurd (cc)
rest_not_io wants.First (Some (Ok text)) is = absurd (cc)
rest_not_io wants.First (Some (Err memory)) is = absurd (cc)
rest_not_io wants.First None is = absurd (cc)
rest_not_io wants.Each (Some (Ok text)) is = absurd (cc)
rest_not_io wants.Each (Some (Err memory)) is = absurd (cc)
rest_not_io wants.Each None is = absurd (cc)

pub ending_not_io : (outcome : Outcome) (w : Wanted) (first : Option First)
    → ending_by outcome w first ≡ Err faults.Io → ⊥
ending_not_io outcomes.Nothing w first is = rest_not_io w first is
ending_not_io (outcomes.Skipped s) w first is = absurd (cc)
ending_not_io (outcomes.Refused at s) w first is = absurd (cc)
ending_not_io outcomes.Accepted w first is = absurd (cc)
