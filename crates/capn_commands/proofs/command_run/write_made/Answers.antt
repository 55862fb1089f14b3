use Rattle.std.proofs.Common.{◌≡◌, ◌⊎◌, ◌↔◌, ◌||◌, inl, inr, Bool, true, false, Result, Ok, Err, IsErrOf}
use Rattle.std.proofs.lemmas.Result.{err_from_is_err_and}
use Rattle.std.proofs.Common.{ap, refl, sym, ◌∙◌}
use Rattle.std.proofs.KnownBytes.{Appends-nil}
use Rattle.capn_commands.specs.declared.fault.ToolFault.{ToolFault}
use Rattle.capn_commands.specs.declared.fault.ToolFault.TheVariants as faults
use Rattle.capn_commands.proofs.WholeRun.{made_begins, made_ends, made_fine, unmade_begins, unmade_ends, unmade_io}
use Rattle.capn_commands.proofs.WholeRun.{unmade_memory}
use Rattle.capn_commands.proofs.command_run.write_made.Goals as goal

abbrev Ending : Type 0
Ending = Result (Unit {0}) ToolFault

-- Case: there is no output. The result is `Io` exactly if the reader has failed.
unmade : (fault : ToolFault) (r : Ending) (reader writer : Bool) → ((fault ≡ faults.Io) ↔ (reader ≡ true))
    → writer ≡ false → r ≡ Err fault → IsErrOf r faults.Io ↔ ((reader ≡ true) ⊎ (writer ≡ true))
unmade fault r reader writer io fine is = (λ h. inl (io.0 (cc)), from)
  where
    from : (reader ≡ true) ⊎ (writer ≡ true) → IsErrOf r faults.Io
    from (inl h) = is ∙ ap (λ (f : ToolFault). Err f) (io.1 h)
    from (inr h) = absurd (let bad : true ≡ false = sym h ∙ fine in cc)

-- Case: there is an output. The result is `Io` exactly if the writer has failed.
made : (r : Ending) (reader writer : Bool) → reader ≡ false → (IsErrOf r faults.Io ↔ (writer ≡ true))
    → IsErrOf r faults.Io ↔ ((reader ≡ true) ⊎ (writer ≡ true))
made r reader writer fine io = (λ h. inr (io.0 h), from)
  where
    from : (reader ≡ true) ⊎ (writer ≡ true) → IsErrOf r faults.Io
    from (inl h) = absurd (let bad : true ≡ false = sym h ∙ fine in cc)
    from (inr h) = io.1 h

pub returns-in-Err : goal.returns-in-Err
returns-in-Err g c whole a b unread given =
    let none = rw c.in-Err.is at given in
    record {
      exact = unmade_ends whole a b _ unread c.in-Err.fault none;
      io =
          unmade c.in-Err.fault (Err c.in-Err.fault) unread _ (unmade_io whole a b unread c.in-Err.fault none)
          c.requires refl;
      begun = unmade_begins whole a b _ unread c.in-Err.fault none;
      heard = λ failed. Appends-nil _;
      ahead = tt;
      memory = λ is. unmade_memory whole a b a unread c.in-Err.fault none (cc);
    }

has_failed_by : (old new : Bool) → new ≡ (old || true) → old ≡ false → new ≡ true
has_failed_by old new is fine = is ∙ ap (λ (was : Bool). was || true) fine

is_as_before : (old new : Bool) → new ≡ (old || false) → old ≡ false → new ≡ false
is_as_before old new is fine = is ∙ ap (λ (was : Bool). was || false) fine

pub returns-in_err-write_all-in-Ok : goal.returns-in_err-write_all-in-Ok
returns-in_err-write_all-in-Ok g c whole a b unread given =
    let all = rw c.in-Ok.is at given in
    let fine = made_fine whole a b unread c.in-Ok.text all in
    let wrote = c.in_err-write_all-in-Ok.ensures in
    let p = err_from_is_err_and c.from_residual.result c.from_residual.ensures.1 in
    rw (p.1, p.2)
    (record {
      exact = made_ends whole a b _ unread c.in-Ok.text _ (Err faults.Io) all tt refl;
      io = made (Err faults.Io) unread _ fine (λ is. has_failed_by _ _ wrote.failed c.requires, λ is. refl);
      begun = made_begins whole a b _ unread c.in-Ok.text _ all (rw c.deref.ensures.value at wrote.begun);
      heard = λ failed. absurd (let bad = sym failed ∙ fine in cc);
      ahead = tt;
      memory = λ is. absurd (cc);
    })

pub returns-in_ok-write_all-in-Ok : goal.returns-in_ok-write_all-in-Ok
returns-in_ok-write_all-in-Ok g c whole a b unread given =
    let all = rw c.in-Ok.is at given in
    let fine = made_fine whole a b unread c.in-Ok.text all in
    let wrote = c.in_ok-write_all-in-Ok.ensures in
    let as_before = is_as_before _ _ wrote.failed c.requires in
    record {
      exact = made_ends whole a b _ unread c.in-Ok.text _ (Ok tt) all (rw c.deref.ensures.value at wrote.ok) tt;
      io = made (Ok tt) unread _ fine (λ is. absurd cc, λ is. absurd (let bad = sym is ∙ as_before in cc));
      begun = made_begins whole a b _ unread c.in-Ok.text _ all (rw c.deref.ensures.value at wrote.begun);
      heard = λ failed. absurd (let bad = sym failed ∙ fine in cc);
      ahead = tt;
      memory = λ is. absurd (cc);
    }
