-- Lemmas for `make_framed`, `make_text`, `make_trimmed` and `make_verdict`: the output for the bytes that were read.
use Rattle.std.proofs.Common.{◌≡◌, ◌⊎◌, inl, inr, ℕ, ◌+◌, ◌*◌, ◌^◌, List, Bool, Option, Result, Ok, Err, IsErr}
use Rattle.std.proofs.Common.{IsErrAnd, Vec, ap, sym, subst, ◌∙◌, arith, take_all}
use Rattle.capn_words.specs.Message.{ReadsBare}
use Rattle.capn_words.specs.declared.bare.BareFault.{BareFault}
use Rattle.capn_stream.specs.Frames.{most_table_words}
use Rattle.capn_walk.specs.Limits.{Bounds}
use Rattle.capn_canon.specs.Refusal.{IsRefused}
use Rattle.capn_canon.specs.declared.form.Form.{Form}
use Rattle.capn_canon.specs.declared.form.Form.TheVariants as forms
use Rattle.capn_canon.specs.declared.refusal.Refusal.{Refusal}
use Rattle.capn_canon.specs.declared.refusal.Refusal.TheVariants as refusals
use Rattle.capn_serve.specs.BareRun.{IsShortBare, IsUnbare}
use Rattle.capn_serve.specs.WholeInput.{HasGivenAll, IsBeginning}
use Rattle.capn_serve.specs.WholeInput as served
use Rattle.capn_serve.specs.declared.fault.RunFault.{RunFault}
use Rattle.capn_serve.specs.declared.position.Position.{Position}
use Rattle.capn_serve.specs.declared.pick.StreamForm.{StreamForm}
use Rattle.capn_serve.specs.declared.pick.StreamForm.TheVariants as streams
use Rattle.capn_serve.specs.declared.whole_input.WholeInput.{WholeInput}
use Rattle.capn_commands.specs.CommandRun.{unplaced}
use Rattle.capn_commands.specs.Plan.{form_of}
use Rattle.capn_commands.specs.inner.OneServing.{HoldsFrame}
use Rattle.capn_commands.specs.inner.ReadInput.{IsUntaken, TakesAll}
use Rattle.capn_commands.specs.WholeInput.{Gives, IsFaultOf, MakesNothing}
use Rattle.capn_commands.specs.declared.plan.MessageText.{MessageText}
use Rattle.capn_commands.specs.declared.plan.Whole.{Whole}
use Rattle.capn_commands.specs.declared.plan.Whole.TheVariants as wholes
use Rattle.capn_commands.specs.declared.fault.ToolFault.{ToolFault}
use Rattle.capn_commands.specs.declared.fault.ToolFault.TheVariants as faults
use Rattle.capn_commands.proofs.FirstBytes.{fails_unpacked, gives_first, gives_packed}
use Rattle.capn_commands.proofs.Given.{takes_so}

-- `fault` is `Memory`, or the reason why `whole` has no output for `bytes`.
abbrev Fails : Whole → List ℕ → ToolFault → Type 0
Fails whole bytes fault = (fault ≡ faults.Memory) ⊎ MakesNothing whole bytes fault

-- Either `fault` is the reason why an input was not read to its end, or all `bytes` of the input were read, and `P`
-- holds for `bytes`.
abbrev TakesNone : (List ℕ → Type 0) → Option (List ℕ) → Option (List ℕ) → Bool → ToolFault → Type 0
TakesNone P a b f fault = IsUntaken a b f fault ⊎ ((bytes : List ℕ) × HasGivenAll a b f bytes × P bytes)

-- `fault` is the refusal `Bare e`, where `e` is the reason why `bytes` are not one segment.
abbrev FailsBare : List ℕ → ToolFault → Type 0
FailsBare bytes fault = (e : BareFault) × (fault ≡ faults.Refused (refusals.Bare e)) × ReadsBare bytes (Err e)

pub untaken : (a b : Option (List ℕ)) (f : Bool) (fault : RunFault) → served.IsUntaken a b f fault
    → IsUntaken a b f (unplaced fault)
untaken a b f fault (bytes, inl (given, inl (is, some))) = (bytes, inl (given, inl (ap unplaced is, some)))
untaken a b f fault (bytes, inl (given, inr (is, long))) = (bytes, inl (given, inr (ap unplaced is, long)))
untaken a b f fault (bytes, inr (read, bound, broken, is)) = (bytes, inr (read, bound, broken, ap unplaced is))

-- Case: an input was not read to its end, and the call has no other fault.
pub unread : (a b : Option (List ℕ)) (f : Bool) (fault : RunFault) (whole : Whole)
    → served.IsUntaken a b f fault ⊎ ((bytes : List ℕ) × HasGivenAll a b f bytes × ⊥)
    → TakesNone (λ bytes. Fails whole bytes (unplaced fault)) a b f (unplaced fault)
unread a b f fault whole (inl h) = inl (untaken a b f fault h)
unread a b f fault whole (inr (bytes, all, none)) = absurd none

-- Case: an input was not read to its end, or is not one segment.
pub unread_bare : (a b : Option (List ℕ)) (f : Bool) (fault : RunFault) (at : Position)
    → served.IsUntaken a b f fault ⊎ ((bytes : List ℕ) × HasGivenAll a b f bytes × IsUnbare at bytes fault)
    → TakesNone (λ bytes. FailsBare bytes (unplaced fault)) a b f (unplaced fault)
unread_bare a b f fault at (inl h) = inl (untaken a b f fault h)
unread_bare a b f fault at (inr (bytes, all, (e, is, why))) = inr (bytes, all, (e, ap unplaced is, why))

module _ (a b : Option (List ℕ)) (f : Bool) (fault : ToolFault) where
  none_else : (P Q : List ℕ → Type 0) → ((bytes : List ℕ) → P bytes → Q bytes) → TakesNone P a b f fault
      → TakesNone Q a b f fault
  none_else P Q change (inl untaken) = inl untaken
  none_else P Q change (inr (bytes, all, p)) = inr (bytes, all, change bytes p)

  pub unmade_canonical : (limits : Bounds) → TakesNone (λ bytes. FailsBare bytes fault) a b f fault
      → TakesNone (λ bytes. Fails (wholes.Canonical forms.Bare limits) bytes fault) a b f fault
  unmade_canonical limits h =
      none_else (λ bytes. FailsBare bytes fault) (λ bytes. Fails (wholes.Canonical forms.Bare limits) bytes fault)
      (λ bytes why. inr (refusals.Bare why.0, why.1, apart why.0, why.2)) h
    where
      apart : (e : BareFault) → refusals.Bare e ≡ refusals.Memory → ⊥
      apart e same = cc

  pub unmade_piece : (piece : MessageText) (limits : Bounds) → TakesNone (λ bytes. FailsBare bytes fault) a b f fault
      → TakesNone (λ bytes. Fails (wholes.Bare piece limits) bytes fault) a b f fault
  unmade_piece piece limits h =
      none_else (λ bytes. FailsBare bytes fault) (λ bytes. Fails (wholes.Bare piece limits) bytes fault)
      (λ bytes why. inr (inl why)) h

-- Case: `bytes` have no canonical bytes in `form`, for the reason `r`.
pub gives_refused : {A : Type 0} (form : Form) (bytes : List ℕ) (limits : Bounds) (r : Refusal)
    (result : Result (Vec ℕ A) ToolFault) → IsRefused form bytes limits r
    → IsErr result × IsErrAnd result (IsFaultOf r) → Gives (wholes.Canonical form limits) bytes result
gives_refused form bytes limits r (Ok text) refused (is_err, is) = absurd cc
gives_refused form bytes limits r (Err fault) refused (is_err, inl (memory, is)) = inl is
gives_refused form bytes limits r (Err fault) refused (is_err, inr (other, is)) = inr (r, is, other, refused)

module _ {A : Type 0} (a b : Option (List ℕ)) (f : Bool) where
  -- Case: `held` is the complete input.
  pub made_held : (whole : Whole) (input : WholeInput A) (held : List ℕ) (r : Result (Vec ℕ A) ToolFault)
      → served.TakesAll (IsBeginning (2 ^ 32)) a b f (Ok input) → held ≡ input.bytes.items
      → Gives whole held r → TakesAll (Gives whole) a b f r
  made_held whole input held r (bytes, all, is) same gives =
      takes_so (Gives whole) a b f r bytes all
      (subst (λ (xs : List ℕ). Gives whole xs r) (same ∙ sym is.0 ∙ take_all (2 ^ 32) bytes all.within) gives)

  -- Case: `held` is the first bytes of a stream, or the words that a packed input unpacks to.
  pub made_framed : (form : StreamForm) (limits : Bounds) (most : ℕ) (frame : Vec ℕ A) (held : List ℕ)
      (r : Result (Vec ℕ A) ToolFault) → most ≡ limits.message_words
      → TakesAll {T = Vec ℕ A} (HoldsFrame form most) a b f (Ok frame)
      → held ≡ frame.items → Gives (wholes.Canonical forms.Stream limits) held r
      → TakesAll (Gives (wholes.Canonical (form_of form) limits)) a b f r
  made_framed streams.Stream limits most frame held r same_most (bytes, all, is) same gives =
      let P : List ℕ → Type 0 = λ xs. Gives (wholes.Canonical forms.Stream limits) xs r in
      takes_so (Gives (wholes.Canonical forms.Stream limits)) a b f r bytes all
      (gives_first (8 * (most + most_table_words) + 1) limits bytes (omega (arith, same_most)) r
      (subst P (same ∙ sym is) gives))
  made_framed streams.Packed limits most frame held r same_most (bytes, all, packs) same gives =
      let P : List ℕ → Type 0 = λ xs. Gives (wholes.Canonical forms.Stream limits) xs r in
      takes_so (Gives (wholes.Canonical forms.Packed limits)) a b f r bytes all
      (gives_packed limits bytes frame.items packs.0 (omega (arith, same_most, packs.1)) r (subst P same gives))

  -- ---- bare bytes

  pub made_bare : (at : Position) (whole : Whole) (input : Vec ℕ A) (held : List ℕ) (r : Result (Vec ℕ A) ToolFault)
      → served.TakesAll (IsShortBare at) a b f (Ok input) → held ≡ input.items → Gives whole held r
      → TakesAll (Gives whole) a b f r
  made_bare at whole input held r (bytes, all, is) same gives =
      takes_so (Gives whole) a b f r bytes all (subst (λ (xs : List ℕ). Gives whole xs r) (same ∙ sym is) gives)

-- Case: no frame was read, because of `fault`.
pub unmade_framed : (A : Type 0) (a b : Option (List ℕ)) (f : Bool) (form : StreamForm) (limits : Bounds) (most : ℕ)
    (fault : ToolFault) → most ≡ limits.message_words
    → TakesAll {T = Vec ℕ A} (HoldsFrame form most) a b f (Err fault)
    → TakesNone (λ bytes. Fails (wholes.Canonical (form_of form) limits) bytes fault) a b f fault
unmade_framed A a b f form limits most fault same (inl h) = inl h
unmade_framed A a b f streams.Stream limits most fault same (inr (bytes, all, none)) = absurd none
unmade_framed A a b f streams.Packed limits most fault same (inr (bytes, all, why)) =
    inr (
      bytes,
      all,
      fails_unpacked limits bytes fault
          (subst (λ (n : ℕ). Fails (wholes.Unpacked (n + most_table_words)) bytes fault) same why),
    )
