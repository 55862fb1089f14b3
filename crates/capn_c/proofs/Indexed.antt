-- The index of a message is also the index of the bytes that are read as that message. (For `message_index.rt`.)
use Rattle.std.proofs.Common.{◌≡◌, ◌<◌, ℕ, List, length, subst, arith}
use Rattle.capn_stream.specs.FrameRefusal.{most_few}
use Rattle.capn_walk.specs.Accepted.{IsValueOf}
use Rattle.capn_walk.specs.Limits.{Bounds}
use Rattle.capn_walk.specs.Surveyed.{IsSurvey}
use Rattle.capn_canon.specs.Reads.{Reads}
use Rattle.capn_canon.specs.Refusal.{IsUnaccepted}
use Rattle.capn_canon.specs.declared.form.Form.{Form}
use Rattle.capn_canon.proofs.shared.NotUnaccepted.{unaccepted_message}
use Rattle.capn_abi.specs.declared.report.CapnReport.{CapnReport}
use Rattle.capn_c.specs.Entries.{table_length}
use Rattle.capn_c.specs.declared.entries.CapnEntry.{CapnEntry}
use Rattle.capn_c.specs.inner.Reported.{IsIndex, IsIndexed, IsIndexedIn}
use Rattle.capn_c.proofs.OfMessage.{value_of}
use Rattle.capn_c.proofs.Reported.{reported_for}

pub indexed_in : (form : Form) (bs : List ℕ) {needed : Type 0} (m : List (List ℕ)) (table : ℕ) (limits : Bounds)
    (old new : List CapnEntry) (status : ℕ) (report : CapnReport) → Reads form bs limits.message_words m
    → table ≡ table_length form m → (most_few < length m → needed)
    → IsIndexed (IsSurvey m limits) (IsIndex table m limits old new) (IsValueOf m limits) (IsUnaccepted m limits)
    (most_few < length m) limits.budget old new status report
    → IsIndexedIn form bs limits needed old new status report
indexed_in form bs m table limits old new status report reads is memory h = record {
  possible = h.possible;
  counted = (λ k. let (s, t, r) = h.counted k in (s, record { message = m; reads = reads; survey = t }, r));
  written = (λ k.
      let (s, t, r) = h.counted (omega (arith, k)) in
      let (room, w) = h.written k in (
        room,
        record {
          message = m;
          reads = reads;
          accepted = t.is.accepted;
          entries = subst (λ (n : ℕ). IsIndex n m limits old new) is w;
        },
      ));
  no_room = h.no_room;
  only = (λ v d. h.only v (value_of form bs limits m reads v d));
  reported = reported_for (λ e r. unaccepted_message form bs limits m e reads r) memory h.reported;
  kept = h.kept;
}
