-- Lemmas for `run_each`: if the service ran over a stream, `Runs` holds for the plan of that stream.
use Rattle.std.proofs.Common.{◌≡◌, ◌⊎◌, inl, inr, ℕ, List, Bool, true, false, Option, Some, None, IfSome, Ok, Err, refl}
use Rattle.std.proofs.Common.{ap, sym, subst}
use Rattle.std.specs.Io.KnownBytes.{Appends}
use Rattle.capn_walk.specs.Limits.{Bounds}
use Rattle.capn_serve.specs.Fold.{fold_of}
use Rattle.capn_serve.specs.StreamRun as served
use Rattle.capn_serve.specs.declared.service.Run.{Run}
use Rattle.capn_serve.specs.declared.fault.RunFault.{RunFault}
use Rattle.capn_commands.specs.Limits.{most_input}
use Rattle.capn_commands.specs.Streams.{IsDueEach, behind_stream}
use Rattle.capn_commands.specs.CommandRun.{HasKeptUp, HasWrittenAll, Runs, StaysAhead, unplaced}
use Rattle.capn_commands.specs.Text.{HasEnded, HasWritten, PlanBegins, PlanEndsAs, has_more, taken_of}
use Rattle.capn_commands.specs.inner.MessageTexts.{refuses, serves}
use Rattle.capn_commands.specs.declared.message_texts.MessageTexts.{MessageTexts}
use Rattle.capn_commands.specs.declared.plan.MessageText.{MessageText}
use Rattle.capn_commands.specs.declared.plan.Plan.{Plan}
use Rattle.capn_commands.specs.declared.plan.Plan.TheVariants as plans
use Rattle.capn_commands.specs.declared.fault.ToolFault.{ToolFault}
use Rattle.capn_commands.proofs.Served.{Ending, IsOf, behind_of, due, ending_of, io_same, memory_from, row, texts}

behind_same : (more : Bool) → behind_of (served.behind more) ≡ behind_stream more
behind_same true = refl
behind_same false = refl

module _ (piece : MessageText) (limits : Bounds) (x : Run MessageTexts) (of : IsOf piece limits x) where
  abbrev each : Plan
  each = plans.Each piece limits

  due_each : (y : Run MessageTexts) (bytes text : List ℕ) (more : Bool) (r : Ending)
      → served.IsDue (texts piece limits) x most_input bytes more text r y
      → IsDueEach piece limits bytes (behind_stream more) text (ending_of r)
  due_each y bytes text more r h =
      subst (λ (last : Option ToolFault). IsDueEach piece limits bytes last text (ending_of r)) (behind_same more)
      (due piece limits x y bytes text (served.behind more) r of h)

  has_ended : (y : Run MessageTexts) (bytes : List ℕ) (more : Bool) (c d : Option (List ℕ)) (r : Ending)
      → served.HasEnded (texts piece limits) x most_input bytes more c d r y
      → HasEnded each bytes more c d (ending_of r)
  has_ended y bytes more c d (Ok u) (text, h, wrote) = inr (inr (text, due_each y bytes text more (Ok u) h, wrote))
  has_ended y bytes more c d (Err e) (inl m) = inl (ap (λ (f : RunFault). Err (unplaced f)) m)
  has_ended y bytes more c d (Err e) (inr (inl i)) = inr (inl (ap (λ (f : RunFault). Err (unplaced f)) i))
  has_ended y bytes more c d (Err e) (inr (inr (text, z, h, wrote, leaves))) =
      inr (inr (text, due_each z bytes text more (Err e) h, wrote))

  ends_as : (y : Run MessageTexts) (a c d : Option (List ℕ)) (r : Ending)
      → IfSome a (served.EndsAs (texts piece limits) x most_input c d r y)
      → IfSome a (PlanEndsAs each c d (ending_of r))
  ends_as y None c d r h = tt
  ends_as y (Some input) c d r h = has_ended y (taken_of input) (has_more input) c d r h

  written : (bytes : List ℕ) (more : Bool) (c d : Option (List ℕ))
      → served.HasWritten (texts piece limits) x most_input bytes c d → HasWritten each bytes more c d
  written bytes more c d (ps, rest, y, count, are, wrote) =
      let front = row piece limits x y bytes rest ps of are in
      (_, count, (front.0, rest, front.1, sym front.2), wrote)

  begins : (a b c d : Option (List ℕ)) → served.Begins (texts piece limits) x most_input a b c d
      → PlanBegins each a b c d
  begins a b c d h = (
    h.bytes,
    record {
      read = h.read;
      bounded = h.bounded;
      written = written (taken_of h.bytes) (has_more h.bytes) c d h.written;
    },
  )

  keeps_up : (a b c d : Option (List ℕ)) → served.KeepsUp (texts piece limits) x most_input a b c d
      → HasKeptUp each a b c d
  keeps_up a b c d (bytes, text, r, y, read, h, wrote) =
      (bytes, text, ending_of r, read, due_each y (taken_of bytes) text (has_more bytes) r h, wrote)

  all_written : (bytes : List ℕ) (c d : Option (List ℕ))
      → served.HasWrittenAll (texts piece limits) x most_input bytes c d → HasWrittenAll piece limits bytes c d
  all_written bytes c d (ps, rest, y, are, unfinished, wrote) =
      let front = row piece limits x y bytes rest ps of are in
      (front.0, rest, front.1, unfinished, subst (Appends c d) (sym front.2) wrote)

  stays_ahead : (a b c d : Option (List ℕ)) → served.Begins (texts piece limits) x most_input a b c d
      → StaysAhead (HasWrittenAll piece limits) a b c d
  stays_ahead a b c d h =
      let (before, piece, mid, more, is, short, written, after) = h.lazy in
      (h.bytes, h.read, (before, piece, mid, more, is, short, all_written before c mid written, after))

  runs_each : (a b c d : Option (List ℕ)) (reader_failed writer_failed : Bool) (r : Ending) (y : Run MessageTexts)
      → served.Runs (texts piece limits) x most_input a b c d reader_failed writer_failed r y
      → Runs each a b c d reader_failed writer_failed (ending_of r)
  runs_each a b c d reader_failed writer_failed r y h = record {
    exact = ends_as y a c d r h.exact;
    io = io_same ((reader_failed ≡ true) ⊎ (writer_failed ≡ true)) r h.io;
    begun = begins a b c d h.begun;
    heard = λ failed. keeps_up a b c d (h.heard failed);
    ahead = stays_ahead a b c d h.begun;
    memory = λ e. h.memory (memory_from r e);
  }

  pub each_served : (most : ℕ) → most ≡ limits.message_words → (a b c d : Option (List ℕ))
      (reader_failed writer_failed : Bool) (r : Ending) (y : Run MessageTexts)
      → served.Runs (fold_of serves refuses most) x most_input a b c d reader_failed writer_failed r y
      → Runs each a b c d reader_failed writer_failed (ending_of r)
  each_served most same a b c d reader_failed writer_failed r y h =
      runs_each a b c d reader_failed writer_failed r y
      (subst (λ (m : ℕ). served.Runs (fold_of serves refuses m) x most_input a b c d reader_failed writer_failed r y)
      same h)
