-- The text and the exit status of a fault that ends a run. (Our own.)
use Rattle.std.specs.Prelude.{ℕ, ◌+◌, ◌≡◌, List, ◌++◌, codes, refl}
use Rattle.std.specs.Fmt.{decimal, digits}
use Rattle.capn_serve.specs.Ending.{out_of_memory}
use Rattle.capn_canon.specs.Display.{refusal_text}
use Rattle.capn_canon.specs.declared.refusal.Refusal.TheVariants as refusals
use Rattle.capn_serve.specs.declared.position.Position.{Position}
use Rattle.capn_serve.specs.declared.fault.RunFault.{RunFault}
use Rattle.capn_serve.specs.declared.fault.RunFault.TheVariants as faults

-- The text of a position: the number of the message, counted from 1, and its offset.
abbrev pub place_text : Position → List ℕ
place_text at = decimal (at.index + 1) ++ (codes " at " ++ decimal at.offset)

-- The text of a fault that ends a run.
abbrev pub fault_text : RunFault → List ℕ
fault_text faults.Memory = out_of_memory
fault_text faults.Io = codes "input or output failed"
fault_text faults.InputTooLong = codes "input too long"
fault_text (faults.Refused at refusal) = codes "message " ++ (place_text at ++ (codes ": " ++ refusal_text refusal))

third : fault_text (faults.Refused (record { index = 2; offset = 40 }) (refusals.Capability 2))
    ≡ codes "message 3 at 40: capability 2"
unfolding digits
third = refl

-- The exit status of a fault that ends a run: 1 for `Refused`, and 3 for any other fault.
abbrev pub status_of : RunFault → ℕ
status_of faults.Memory = 3
status_of faults.Io = 3
status_of faults.InputTooLong = 3
status_of (faults.Refused at refusal) = 1
