-- Bytes that can't be read are refused for a true reason, and the refusal reports a price within the budget. (For
-- `walk_in` and capn_c.)
use Rattle.std.proofs.Common.{◌≡◌, ◌∙◌, ℕ, List, refl, sym, subst, Result, Err}
use Rattle.capn_walk.specs.Limits.{Bounds}
use Rattle.capn_canon.specs.Answered.{IsRefusedReading}
use Rattle.capn_canon.specs.MemoryNeed.{MayNeedMemory}
use Rattle.capn_canon.specs.Refusal.{IsMisread, IsPaidWithin, IsUnacceptedIn}
use Rattle.capn_canon.specs.declared.form.Form.{Form}
use Rattle.capn_canon.specs.declared.form.Form.TheVariants as forms
use Rattle.capn_canon.specs.declared.refusal.Refusal.{Refusal}
use Rattle.capn_canon.specs.declared.refusal.Refusal.TheVariants as refusals
use Rattle.capn_answers.specs.Paths.{IsUnread}

-- If reading the bytes is refused with `Memory`, reading them may need memory.
pub reading_wanted : {T : Type 0} (form : Form) (bs : List ℕ) (limits : Bounds) (r : Result T Refusal) (e : Refusal)
    → r ≡ Err e → IsRefusedReading form bs limits e → r ≡ Err refusals.Memory → MayNeedMemory form bs limits
reading_wanted form bs limits r e is h w =
    let q = sym is ∙ w in
    let p : e ≡ refusals.Memory = cc in
    subst (λ (x : Refusal). IsRefusedReading form bs limits x) p h

-- ---- bytes that are not read

-- If bytes are not read and the refusal `e` is not `Memory`, `e` is a true reason why they are not read.
pub misread : (form : Form) (bs : List ℕ) (limits : Bounds) (e : Refusal) → IsRefusedReading form bs limits e
    → (e ≡ refusals.Memory → ⊥) → IsMisread form bs limits.message_words e
misread form bs limits refusals.Memory h n = absurd (n refl)
misread form bs limits (refusals.Frame e) h n = h
misread form bs limits (refusals.Trailing at) h n = h
misread form bs limits (refusals.Bare e) h n = h
misread form bs limits (refusals.Packed e) h n = h
misread form bs limits (refusals.Walk s) h n = h
misread form bs limits (refusals.Capability k) h n = h

-- If bytes are not read, the refusal `e` is a true reason why they are not accepted.
pub reading_unaccepted : (form : Form) (bs : List ℕ) (limits : Bounds) (e : Refusal)
    → IsRefusedReading form bs limits e → IsUnacceptedIn form bs limits e
reading_unaccepted form bs limits refusals.Memory h = tt
reading_unaccepted form bs limits (refusals.Frame e) h = h
reading_unaccepted form bs limits (refusals.Trailing at) h = h
reading_unaccepted form bs limits (refusals.Bare e) h = h
reading_unaccepted form bs limits (refusals.Packed e) h = h
reading_unaccepted forms.Bare bs limits (refusals.Walk s) h = absurd h
reading_unaccepted forms.Stream bs limits (refusals.Walk s) h = absurd h
reading_unaccepted forms.Packed bs limits (refusals.Walk s) h = absurd h.2
reading_unaccepted forms.Bare bs limits (refusals.Capability k) h = absurd h
reading_unaccepted forms.Stream bs limits (refusals.Capability k) h = absurd h
reading_unaccepted forms.Packed bs limits (refusals.Capability k) h = absurd h.2

-- If bytes are not read, the refusal `e` reports a price within the budget.
pub reading_within : (form : Form) (bs : List ℕ) (limits : Bounds) (e : Refusal) → IsRefusedReading form bs limits e
    → IsPaidWithin limits.budget e
reading_within form bs limits refusals.Memory h = tt
reading_within form bs limits (refusals.Frame e) h = tt
reading_within form bs limits (refusals.Trailing at) h = tt
reading_within form bs limits (refusals.Bare e) h = tt
reading_within form bs limits (refusals.Packed e) h = tt
reading_within form bs limits (refusals.Capability k) h = tt
reading_within forms.Bare bs limits (refusals.Walk s) h = absurd h
reading_within forms.Stream bs limits (refusals.Walk s) h = absurd h
reading_within forms.Packed bs limits (refusals.Walk s) h = absurd h.2

-- If `e` is `Memory` or a true reason why bytes are not read, `e` is a true reason why they are not accepted.
pub unread_unaccepted : (form : Form) (bs : List ℕ) (limits : Bounds) (e : Refusal) → IsUnread form bs limits e
    → IsUnacceptedIn form bs limits e
unread_unaccepted form bs limits refusals.Memory h = tt
unread_unaccepted form bs limits (refusals.Frame e) h = h (λ x. cc)
unread_unaccepted form bs limits (refusals.Trailing at) h = h (λ x. cc)
unread_unaccepted form bs limits (refusals.Bare e) h = h (λ x. cc)
unread_unaccepted form bs limits (refusals.Packed e) h = h (λ x. cc)
unread_unaccepted forms.Bare bs limits (refusals.Walk s) h = absurd (h (λ x. cc))
unread_unaccepted forms.Stream bs limits (refusals.Walk s) h = absurd (h (λ x. cc))
unread_unaccepted forms.Packed bs limits (refusals.Walk s) h = absurd ((h (λ x. cc)).2)
unread_unaccepted forms.Bare bs limits (refusals.Capability k) h = absurd (h (λ x. cc))
unread_unaccepted forms.Stream bs limits (refusals.Capability k) h = absurd (h (λ x. cc))
unread_unaccepted forms.Packed bs limits (refusals.Capability k) h = absurd ((h (λ x. cc)).2)

-- If `e` is `Memory` or a true reason why bytes are not read, `e` reports a price within the budget.
pub unread_within : (form : Form) (bs : List ℕ) (limits : Bounds) (e : Refusal) → IsUnread form bs limits e
    → IsPaidWithin limits.budget e
unread_within form bs limits refusals.Memory h = tt
unread_within form bs limits (refusals.Frame e) h = tt
unread_within form bs limits (refusals.Trailing at) h = tt
unread_within form bs limits (refusals.Bare e) h = tt
unread_within form bs limits (refusals.Packed e) h = tt
unread_within form bs limits (refusals.Capability k) h = tt
unread_within forms.Bare bs limits (refusals.Walk s) h = absurd (h (λ x. cc))
unread_within forms.Stream bs limits (refusals.Walk s) h = absurd (h (λ x. cc))
unread_within forms.Packed bs limits (refusals.Walk s) h = absurd ((h (λ x. cc)).2)
