-- Lemma for the callers of `run_messages` whose service adds nothing to the loop: the run serves the messages of its
-- input.
use Rattle.std.proofs.Common.{◌≡◌, ◌⊎◌, ◌↔◌, inl, inr, ℕ, List, [], Bool, true, false, Option, None, Some, IfSome, Ok}
use Rattle.std.proofs.Common.{Err, refl, sym, subst, ◌∙◌}
use Rattle.std.specs.Io.KnownBytes.{Appends}
use Rattle.capn_canon.specs.declared.form.Form.{Form}
use Rattle.capn_serve.specs.declared.fault.RunFault.TheVariants as faults
use Rattle.capn_serve.specs.declared.service.Run.{Run}
use Rattle.capn_serve.specs.Finish.{Ends, PutsLast, answer, last_text, plain_finish}
use Rattle.capn_serve.specs.Fold.{Fold}
use Rattle.capn_serve.specs.FormRun.{MessagesEnd, ServesMessages}
use Rattle.capn_serve.specs.WhatCame.{Came}
use Rattle.capn_serve.proofs.shared.AfterMessages.{append_none, read_so_far, written_still}
use Rattle.capn_serve.proofs.shared.Finishes.{BothFine, Ending, done_fine, refused_fine, stopped}

module _ {S : Type 0} (f : Fold (Run S)) (x : Run S) (form : Form) (a b c : Option (List ℕ)) (reader : Bool) where
  module _ (m d : Option (List ℕ)) (before after : Bool) (y : Run S) where
    still_exact : (input : Option (List ℕ)) (r : Ending) → Appends m d []
        → IfSome input (MessagesEnd f x form c m r y) → IfSome input (MessagesEnd f x form c d r y)
    still_exact None r none is = tt
    still_exact (Some input) (Ok u) none (text, are, wrote) = (text, are, append_none c m d text wrote none)
    still_exact (Some input) (Err e) none (inl memory) = inl memory
    still_exact (Some input) (Err e) none (inr (inl io)) = inr (inl io)
    still_exact (Some input) (Err e) none (inr (inr (text, z, are, wrote, leaves))) =
        inr (inr (text, z, are, append_none c m d text wrote none, leaves))

    -- Case: the loop ended with `Ok` or with a refusal, and the empty text after the messages was written.
    still : (r : Ending) → BothFine reader before → Appends m d [] × (after ≡ false)
        → ServesMessages f x form a b c m reader before r y → ServesMessages f x form a b c d reader after r y
    still r fine (none, calm) run = record {
      exact = still_exact a r none run.exact;
      io = subst (λ (w : Bool). (r ≡ Err faults.Io) ↔ ((reader ≡ true) ⊎ (w ≡ true))) (fine.1 ∙ sym calm) run.io;
      begun = record {
        bytes = run.begun.bytes;
        read = run.begun.read;
        bounded = read_so_far f x form run.begun.bytes [] c m d run.begun.bounded none;
        needed = run.begun.needed;
        written = written_still f x form run.begun.bytes c m d run.begun.written none;
      };
      heard = λ h. absurd (fine.0 h);
      memory = run.memory;
    }

    plain_by : (came : Came) (served put : Ending) → ServesMessages f x form a b c m reader before served y
        → PutsLast served (last_text plain_finish served y came) m d before after put
        → ServesMessages f x form a b c d reader after (answer plain_finish served put y) y
    plain_by came (Ok u) (Ok v) run put = still (Ok tt) (done_fine reader before run.io) put run
    plain_by came (Ok u) (Err fault) run (some, how) = absurd (some refl)
    plain_by came (Err (faults.Refused at r)) (Ok v) run put =
        still (stopped (faults.Refused at r)) (refused_fine at r reader before run.io) put run
    plain_by came (Err (faults.Refused at r)) (Err fault) run (some, how) = absurd (some refl)
    plain_by came (Err faults.Memory) (Ok v) run (done, same, fine) = rw (same, fine) run
    plain_by came (Err faults.Memory) (Err fault) run (done, same, fine) = absurd (cc)
    plain_by came (Err faults.Io) (Ok v) run (done, same, fine) = rw (same, fine) run
    plain_by came (Err faults.Io) (Err fault) run (done, same, fine) = absurd (cc)
    plain_by came (Err faults.InputTooLong) (Ok v) run (done, same, fine) = rw (same, fine) run
    plain_by came (Err faults.InputTooLong) (Err fault) run (done, same, fine) = absurd (cc)

  pub plain_run : (d : Option (List ℕ)) (writer : Bool) (r : Ending)
      → Ends f x plain_finish form a b c d reader writer r
      → (last : Run S) × ServesMessages f x form a b c d reader writer r last
  plain_run d writer r ends = (
    ends.last,
    subst (λ (end : Ending). ServesMessages f x form a b c d reader writer end ends.last) (sym ends.is)
        (plain_by ends.middle d ends.failed writer ends.last ends.came ends.served ends.put ends.loop ends.puts),
  )
