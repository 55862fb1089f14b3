-- The condition of a call that writes the text after the messages of a run.
use Rattle.std.specs.Prelude.{◌≡◌, Bool, false, Result, Ok, Err, ⊤}
use Rattle.capn_serve.specs.declared.fault.RunFault.{RunFault}
use Rattle.capn_serve.specs.declared.fault.RunFault.TheVariants as faults

-- If the loop over the messages ended with `Ok` or with a refusal, the writer has not failed, so that it can take the
-- text after the messages.
abbrev pub IsFineIfLast : Result (Unit {0}) RunFault → Bool → Type 0
IsFineIfLast (Ok u) failed = failed ≡ false
IsFineIfLast (Err (faults.Refused at r)) failed = failed ≡ false
IsFineIfLast (Err faults.Memory) failed = ⊤
IsFineIfLast (Err faults.Io) failed = ⊤
IsFineIfLast (Err faults.InputTooLong) failed = ⊤
