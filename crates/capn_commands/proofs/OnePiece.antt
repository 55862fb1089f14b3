-- Lemmas for `run_framed`: if the service served the one message of an input, `Runs` holds for the plan of that input.
use Rattle.std.proofs.Common.{◌≡◌, ◌≢◌, inl, inr, ℕ, List, Bool, Option, Result, sym, subst}
use Rattle.capn_walk.specs.Limits.{Bounds}
use Rattle.capn_walk.specs.declared.walk_answer.Stopped.{Stopped}
use Rattle.capn_canon.specs.Reads.{IsFramed, Reads}
use Rattle.capn_canon.specs.Refusal.{IsMisread}
use Rattle.capn_canon.specs.declared.form.Form.{Form}
use Rattle.capn_canon.specs.declared.form.Form.TheVariants as forms
use Rattle.capn_canon.specs.declared.refusal.Refusal.{Refusal}
use Rattle.capn_canon.specs.declared.refusal.Refusal.TheVariants as refusals
use Rattle.capn_canon.proofs.shared.NotRefused.{refused_message}
use Rattle.capn_serve.specs.declared.pick.StreamForm.{StreamForm}
use Rattle.capn_serve.specs.declared.pick.StreamForm.TheVariants as streams
use Rattle.capn_commands.specs.CommandRun.{Runs}
use Rattle.capn_commands.specs.MessageText.{IsNoMessageText}
use Rattle.capn_commands.specs.OneMessage.{IsFrameOf, RefusesOne, WritesOne}
use Rattle.capn_commands.specs.Plan.{form_of}
use Rattle.capn_commands.specs.WholeInput.{IsOneRefused, Makes, MakesNothing}
use Rattle.capn_commands.specs.WholeRun.{RunsWhole}
use Rattle.capn_commands.specs.inner.MessageTexts.{message_texts, refuses, serves}
use Rattle.capn_commands.specs.declared.plan.MessageText.{MessageText}
use Rattle.capn_commands.specs.declared.plan.MessageText.TheVariants as kinds
use Rattle.capn_commands.specs.declared.plan.Plan.TheVariants as plans
use Rattle.capn_commands.specs.declared.plan.Whole.{Whole}
use Rattle.capn_commands.specs.declared.plan.Whole.TheVariants as wholes
use Rattle.capn_commands.specs.declared.fault.ToolFault.{ToolFault}
use Rattle.capn_commands.specs.declared.fault.ToolFault.TheVariants as faults
use Rattle.capn_commands.proofs.OneRun.{runs_more}

abbrev Ending : Type 0
Ending = Result (Unit {0}) ToolFault

runs_plan : (whole : Whole) (a b c d : Option (List ℕ)) (r w : Bool) (e : Ending)
    → RunsWhole (Makes whole) (MakesNothing whole) a b c d r w e → Runs (plans.Whole whole) a b c d r w e
runs_plan whole a b c d r w e h = record {
  exact = h.exact;
  io = h.io;
  begun = (
    h.begun.bytes,
    record { read = h.begun.read; bounded = h.begun.bounded; written = h.begun.written },
  );
  heard = h.heard;
  ahead = tt;
  memory = h.memory;
}

pub reads_of : (form : StreamForm) (most : ℕ) (bytes frame : List ℕ) (message : List (List ℕ))
    → IsFrameOf form most bytes frame → IsFramed frame most message → Reads (form_of form) bytes most message
reads_of streams.Stream most bytes frame message is framed =
    subst (λ (l : List ℕ). IsFramed l most message) (sym is) framed
reads_of streams.Packed most bytes frame message unpacks framed = (frame, unpacks, framed)

module _ (bytes : List ℕ) (limits : Bounds) where
  -- `r` is not `Memory`, and is the reason why `bytes`, read as one message in `form`, have no text of the given kind.
  abbrev IsRefusal : MessageText → Form → Refusal → Type 0
  IsRefusal piece form r = (r ≢ refusals.Memory) × IsOneRefused piece form bytes limits r

  pub misread_known : (form : Form) (r : Refusal) → IsMisread form bytes limits.message_words r
      → (piece : MessageText) → IsRefusal piece form r
  misread_known form (refusals.Bare e) h kinds.Text = (λ is. cc, h)
  misread_known form (refusals.Bare e) h kinds.Price = (λ is. cc, h)
  misread_known form (refusals.Bare e) h kinds.Digest = (λ is. cc, h)
  misread_known form (refusals.Packed e) h kinds.Text = (λ is. cc, h)
  misread_known form (refusals.Packed e) h kinds.Price = (λ is. cc, h)
  misread_known form (refusals.Packed e) h kinds.Digest = (λ is. cc, h)
  misread_known form (refusals.Frame e) h kinds.Text = (λ is. cc, h)
  misread_known form (refusals.Frame e) h kinds.Price = (λ is. cc, h)
  misread_known form (refusals.Frame e) h kinds.Digest = (λ is. cc, h)
  misread_known form (refusals.Trailing at) h kinds.Text = (λ is. cc, h)
  misread_known form (refusals.Trailing at) h kinds.Price = (λ is. cc, h)
  misread_known form (refusals.Trailing at) h kinds.Digest = (λ is. cc, h)
  misread_known forms.Bare (refusals.Walk s) h piece = absurd h
  misread_known forms.Stream (refusals.Walk s) h piece = absurd h
  misread_known forms.Packed (refusals.Walk s) h piece = absurd h.2
  misread_known forms.Bare (refusals.Capability k) h piece = absurd h
  misread_known forms.Stream (refusals.Capability k) h piece = absurd h
  misread_known forms.Packed (refusals.Capability k) h piece = absurd h.2
  misread_known forms.Bare refusals.Memory h piece = absurd h
  misread_known forms.Stream refusals.Memory h piece = absurd h
  misread_known forms.Packed refusals.Memory h piece = absurd h.2

  module _ (form : Form) (message : List (List ℕ)) (reads : Reads form bytes limits.message_words message) where
    stops : (r : Refusal) (s : Stopped) (piece : MessageText) → r ≡ refusals.Walk s
        → IsRefusal piece form (refusals.Walk s) → IsRefusal piece form r
    stops r s piece is h = subst (λ (q : Refusal). IsRefusal piece form q) (sym is) h

    no_piece : (r : Refusal) (piece : MessageText) → IsNoMessageText piece message limits (faults.Refused r)
        → IsRefusal piece form r
    no_piece r kinds.Text (s, e, h) =
        let is : r ≡ refusals.Walk s = cc in stops r s kinds.Text is (λ k. cc, (message, reads, h))
    no_piece r kinds.Price (s, e, h) =
        let is : r ≡ refusals.Walk s = cc in stops r s kinds.Price is (λ k. cc, (message, reads, h))
    no_piece r kinds.Digest (q, e, n, h) =
        let is : r ≡ q = cc in
        subst (λ (x : Refusal). IsRefusal kinds.Digest form x) (sym is)
        (n, refused_message form bytes limits message q reads h)

module _ (piece : MessageText) (form : StreamForm) (limits : Bounds) where
  abbrev one : Whole
  one = wholes.One piece form limits

  writes_piece : (bytes text : List ℕ)
      → WritesOne serves refuses (message_texts piece limits) limits.message_words form bytes text
      → Makes one bytes text
  writes_piece bytes text (frame, message, holds, framed, (t, (is, same))) =
      (message, reads_of form limits.message_words bytes frame message holds framed, is)

  refuses_piece : (bytes : List ℕ) (fault : ToolFault)
      → RefusesOne serves refuses (message_texts piece limits) limits.message_words form bytes fault
      → MakesNothing one bytes fault
  refuses_piece bytes fault (r, is, inl misread) =
      let known = misread_known bytes limits (form_of form) r misread piece in (r, is, known.0, known.1)
  refuses_piece bytes fault (r, is, inr (frame, message, holds, framed, why)) =
      let reads = reads_of form limits.message_words bytes frame message holds framed in
      let known = no_piece bytes limits (form_of form) message reads r piece why in (r, is, known.0, known.1)

  pub framed_run : (most : ℕ) (a b c d : Option (List ℕ)) (r w : Bool) (e : Ending) → most ≡ limits.message_words
      → RunsWhole (WritesOne serves refuses (message_texts piece limits) most form)
      (RefusesOne serves refuses (message_texts piece limits) most form) a b c d r w e
      → Runs (plans.Whole one) a b c d r w e
  framed_run most a b c d r w e same run =
      runs_plan one a b c d r w e
      (runs_more
      (WritesOne serves refuses (message_texts piece limits) limits.message_words form) (Makes one)
      (RefusesOne serves refuses (message_texts piece limits) limits.message_words form) (MakesNothing one)
      writes_piece refuses_piece a b c d r w e
      (subst (λ (n : ℕ). RunsWhole (WritesOne serves refuses (message_texts piece limits) n form)
      (RefusesOne serves refuses (message_texts piece limits) n form) a b c d r w e) same run))
