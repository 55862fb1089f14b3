-- Lemmas for `run_one`: if the service ran over a bare input, `Runs` holds for the plan of that input.
use Rattle.std.proofs.Common.{◌≡◌, ◌≢◌, ◌⊎◌, inl, inr, ℕ, ◌≤◌, ◌^◌, List, [], ◌∷◌, length, Bool, true, false}
use Rattle.std.proofs.Common.{Option, None, Some, IfSome, Ok, Err, refl, ap, sym, subst, arith, take_all}
use Rattle.capn_words.proofs.shared.OneSegment.{bare_length}
use Rattle.capn_walk.specs.Limits.{Bounds}
use Rattle.capn_serve.specs.Fold.{fold_of}
use Rattle.capn_serve.specs.BareRun as served
use Rattle.capn_serve.specs.declared.service.Run.{Run}
use Rattle.capn_serve.specs.declared.fault.RunFault.{RunFault}
use Rattle.capn_commands.specs.MessageText.{IsBareMessageText, IsMessageText, IsNoMessageText}
use Rattle.capn_commands.specs.CommandRun.{Runs, unplaced}
use Rattle.capn_commands.specs.Text.{HasWritten, IsDueWhole, PlanBegins, PlanEndsAs, has_more, taken_of}
use Rattle.capn_commands.specs.WholeInput.{Makes, MakesNothing}
use Rattle.capn_commands.specs.inner.MessageTexts.{refuses, serves}
use Rattle.capn_commands.specs.declared.message_texts.MessageTexts.{MessageTexts}
use Rattle.capn_commands.specs.declared.plan.MessageText.{MessageText}
use Rattle.capn_commands.specs.declared.plan.MessageText.TheVariants as kinds
use Rattle.capn_commands.specs.declared.plan.Plan.TheVariants as plans
use Rattle.capn_commands.specs.declared.plan.Whole.{Whole}
use Rattle.capn_commands.specs.declared.plan.Whole.TheVariants as wholes
use Rattle.capn_commands.specs.declared.fault.ToolFault.{ToolFault}
use Rattle.capn_commands.specs.declared.fault.ToolFault.TheVariants as faults
use Rattle.capn_commands.proofs.Served.{Ending, IsOf, ending_of, io_same, memory_from}
use Rattle.capn_commands.proofs.WholeRun.{is_all, is_more}

bare_text : (piece : MessageText) (words : List ℕ) (limits : Bounds) (text : List ℕ) → piece ≢ kinds.Price
    → IsMessageText piece (words ∷ []) limits text → IsBareMessageText piece words limits text
bare_text kinds.Text words limits text other is = is
bare_text kinds.Price words limits text other is = absurd (other refl)
bare_text kinds.Digest words limits text other is = is

pub taken : (P : List ℕ → Bool → Type 0) (bytes : List ℕ) → length bytes ≤ 2 ^ 32 → P bytes false
    → P (taken_of bytes) (has_more bytes)
taken P bytes short p =
    subst (λ (more : Bool). P (taken_of bytes) more) (sym (is_all bytes short))
    (subst (λ (l : List ℕ). P l false) (sym (take_all (2 ^ 32) bytes short)) p)

module _ (piece : MessageText) (limits : Bounds) (other : piece ≢ kinds.Price) (most : ℕ) (x : Run MessageTexts)
    (of : IsOf piece limits x) where
  abbrev one : Whole
  one = wholes.Bare piece limits

  -- ---- the text of the one message, and the reason why it has none

  makes : (bytes text : List ℕ) (y : Run MessageTexts)
      → served.WritesBare (fold_of serves refuses most) x bytes text y → Makes one bytes text
  makes bytes text y (words, is, step) = (
    words,
    is,
    bare_text piece words limits text other
        (subst (λ (s : MessageTexts). IsMessageText s.piece (words ∷ []) s.limits text) of step.0.0),
  )

  makes_none : (bytes : List ℕ) (fault : RunFault) → served.IsUnbare x.at bytes fault
      ⊎ served.RefusesBare (fold_of serves refuses most) x bytes fault → MakesNothing one bytes (unplaced fault)
  makes_none bytes fault (inl (e, is, why)) = inl (e, ap unplaced is, why)
  makes_none bytes fault (inr (words, r, bare, why, is)) = inr (
    words,
    bare,
    subst (λ (f : ToolFault). IsNoMessageText piece (words ∷ []) limits f) (sym (ap unplaced is))
        (subst (λ (s : MessageTexts). IsNoMessageText s.piece (words ∷ []) s.limits (faults.Refused r)) of why),
  )

  -- ---- how the run ends

  due : (bytes text : List ℕ) → length bytes ≤ 2 ^ 32 → Makes one bytes text
      → IsDueWhole one (taken_of bytes) (has_more bytes) text (Ok tt)
  due bytes text short made =
      taken (λ (l : List ℕ) (more : Bool). IsDueWhole one l more text (Ok tt)) bytes short made

  due_none : (bytes : List ℕ) (fault : RunFault)
      → served.EndsBare (fold_of serves refuses most) x bytes fault
      → IsDueWhole one (taken_of bytes) (has_more bytes) [] (Err (unplaced fault))
  due_none bytes fault (inl (long, is)) =
      subst (λ (more : Bool). IsDueWhole one (taken_of bytes) more [] (Err (unplaced fault))) (sym (is_more bytes long))
      (refl, ap (λ (f : RunFault). Err (unplaced f)) is)
  due_none bytes fault (inr (short, why)) =
      taken (λ (l : List ℕ) (more : Bool). IsDueWhole one l more [] (Err (unplaced fault))) bytes short
      (refl, makes_none bytes fault why)

  ends_as : (y : Run MessageTexts) (a c d : Option (List ℕ)) (r : Ending)
      → IfSome a (served.EndsAs (fold_of serves refuses most) x c d r y)
      → IfSome a (PlanEndsAs (plans.Whole one) c d (ending_of r))
  ends_as y None c d r h = tt
  ends_as y (Some input) c d (Ok u) (text, (short, writes), wrote) =
      inr (inr (text, due input text short (makes input text y writes), wrote))
  ends_as y (Some input) c d (Err e) (inl m) = inl (ap (λ (f : RunFault). Err (unplaced f)) m)
  ends_as y (Some input) c d (Err e) (inr (inl i)) = inr (inl (ap (λ (f : RunFault). Err (unplaced f)) i))
  ends_as y (Some input) c d (Err e) (inr (inr (why, wrote, leaves))) = inr (inr ([], due_none input e why, wrote))

  -- ---- what the run has written

  written : (bytes : List ℕ) (c d : Option (List ℕ))
      → served.HasWritten (fold_of serves refuses most) x bytes c d
      → HasWritten (plans.Whole one) (taken_of bytes) (has_more bytes) c d
  written bytes c d (inl none) = ([], 0, inl refl, none)
  written bytes c d (inr (text, y, count, writes, wrote)) =
      let short : length bytes ≤ 2 ^ 32 =
      omega (arith, bare_length bytes writes.0 writes.1, writes.1.room) in
      (text, count, inr (due bytes text short (makes bytes text y writes)), wrote)

  begins : (a b c d : Option (List ℕ)) → served.Begins (fold_of serves refuses most) x a b c d
      → PlanBegins (plans.Whole one) a b c d
  begins a b c d h = (
    h.bytes,
    record { read = h.read; bounded = h.bounded; written = written h.bytes c d h.written },
  )

  pub bare_served : (a b c d : Option (List ℕ)) (reader_failed writer_failed : Bool) (r : Ending)
      (y : Run MessageTexts)
      → served.RunsBare (fold_of serves refuses most) x a b c d reader_failed writer_failed r y
      → Runs (plans.Whole one) a b c d reader_failed writer_failed (ending_of r)
  bare_served a b c d reader_failed writer_failed r y h = record {
    exact = ends_as y a c d r h.exact;
    io = io_same ((reader_failed ≡ true) ⊎ (writer_failed ≡ true)) r h.io;
    begun = begins a b c d h.begun;
    heard = h.heard;
    ahead = tt;
    memory = λ e. h.memory (memory_from r e);
  }
