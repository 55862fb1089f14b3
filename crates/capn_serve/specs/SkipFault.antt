-- The fault of a run that skips refused messages: which fault ends a run, the text of the fault, and the exit status.
-- (Our own.)
use Rattle.std.specs.Prelude.{ℕ, ◌≡◌, List, ◌++◌, codes, Option, Some, None, Result, Ok, Err, refl}
use Rattle.std.specs.Fmt.{digits}
use Rattle.capn_stream.specs.declared.fault.FrameFault.TheVariants as frame_faults
use Rattle.capn_canon.specs.declared.refusal.Refusal.{Refusal}
use Rattle.capn_canon.specs.declared.refusal.Refusal.TheVariants as refusals
use Rattle.capn_serve.specs.FaultText as served
use Rattle.capn_serve.specs.Skipped.{skipped_of, text_of_skipped}
use Rattle.capn_serve.specs.declared.fault.RunFault.{RunFault}
use Rattle.capn_serve.specs.declared.fault.RunFault.TheVariants as run_faults
use Rattle.capn_serve.specs.declared.position.Position.{Position}
use Rattle.capn_serve.specs.declared.skip_fault.SkipFault.{SkipFault}
use Rattle.capn_serve.specs.declared.skip_fault.SkipFault.TheVariants as faults
use Rattle.capn_serve.specs.declared.skipped.Skipped.{Skipped}
use Rattle.capn_serve.specs.declared.skipped.SkippedSoFar.{SkippedSoFar}

-- The result of a run that served or skipped all `messages` messages of its input. The result is `Ok` if no message was
-- skipped, and otherwise `Skipped`.
abbrev pub outcome_by : Option SkippedSoFar → ℕ → Result (Unit {0}) SkipFault
outcome_by None messages = Ok tt
outcome_by (Some s) messages = Err (faults.Skipped (skipped_of s messages))

-- The fault of a run whose input is refused with `r` at the position `at`, after `messages` messages. If messages were
-- skipped, the fault also has their count.
abbrev pub after_skipped : Option SkippedSoFar → ℕ → Position → Refusal → SkipFault
after_skipped None messages at r = faults.Ended (run_faults.Refused at r)
after_skipped (Some s) messages at r = faults.RefusedAfterSkipped (skipped_of s messages) at r

-- The fault of a run that a refusal ended at the position `at`. The fault has the count of the skipped messages only if
-- a frame or packed bytes are refused.
abbrev pub refused_after : Option SkippedSoFar → ℕ → Position → Refusal → SkipFault
refused_after skipped messages at (refusals.Bare e) = faults.Ended (run_faults.Refused at (refusals.Bare e))
refused_after skipped messages at (refusals.Packed e) = after_skipped skipped messages at (refusals.Packed e)
refused_after skipped messages at (refusals.Frame e) = after_skipped skipped messages at (refusals.Frame e)
refused_after skipped messages at (refusals.Trailing offset) =
    faults.Ended (run_faults.Refused at (refusals.Trailing offset))
refused_after skipped messages at (refusals.Walk stopped) =
    faults.Ended (run_faults.Refused at (refusals.Walk stopped))
refused_after skipped messages at (refusals.Capability index) =
    faults.Ended (run_faults.Refused at (refusals.Capability index))
refused_after skipped messages at refusals.Memory = faults.Ended (run_faults.Refused at refusals.Memory)

-- The fault of a run whose loop ended with a `RunFault`, after `messages` messages were served or skipped. `skipped`
-- has the count of the skipped messages.
abbrev pub fault_after : Option SkippedSoFar → ℕ → RunFault → SkipFault
fault_after skipped messages run_faults.Memory = faults.Ended run_faults.Memory
fault_after skipped messages run_faults.Io = faults.Ended run_faults.Io
fault_after skipped messages run_faults.InputTooLong = faults.Ended run_faults.InputTooLong
fault_after skipped messages (run_faults.Refused at r) = refused_after skipped messages at r

-- The text of `skipped`, and then the text of `fault` on a line of its own.
abbrev pub text_after_skipped : Skipped → RunFault → List ℕ
text_after_skipped skipped fault = text_of_skipped skipped ++ (codes "\ncapn: " ++ served.fault_text fault)

-- The text of a fault that ends a run which skips refused messages.
abbrev pub skip_text : SkipFault → List ℕ
skip_text (faults.Ended fault) = served.fault_text fault
skip_text (faults.Skipped skipped) = text_of_skipped skipped
skip_text (faults.RefusedAfterSkipped skipped at refusal) = text_after_skipped skipped (run_faults.Refused at refusal)

-- The exit status of a run that ends with the fault. It is the status of `fault` for `Ended fault`, and 1 otherwise.
abbrev pub status_of : SkipFault → ℕ
status_of (faults.Ended fault) = served.status_of fault
status_of (faults.Skipped skipped) = 1
status_of (faults.RefusedAfterSkipped skipped at refusal) = 1

-- Two examples. One of three messages is skipped. The second message, at offset 24, is skipped, and the third, at
-- offset 40, is cut off.

one_of_three : outcome_by (Some (record { count = 1; first = record { index = 1; offset = 24 } })) 3
    ≡ Err (faults.Skipped (record { refused = 1; messages = 3; first = record { index = 1; offset = 24 } }))
one_of_three = refl

after_one : skip_text (faults.RefusedAfterSkipped
    (record { refused = 1; messages = 2; first = record { index = 1; offset = 24 } })
    (record { index = 2; offset = 40 }) (refusals.Frame frame_faults.Cut))
    ≡ codes "1 of 2 messages refused, the first is 2 at 24\ncapn: message 3 at 40: frame: Cut"
unfolding digits
after_one = refl
