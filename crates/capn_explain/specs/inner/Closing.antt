-- The effect of a call that makes the text after the loop over the messages.
use Rattle.std.specs.Prelude.{◌≡◌, ◌≢◌, ℕ, List, [], Option, Some, None, Result, Ok, Err, String, string_bytes}
use Rattle.capn_serve.specs.declared.fault.RunFault.{RunFault}
use Rattle.capn_serve.specs.declared.fault.RunFault.TheVariants as faults

-- If the result is `lines`, they are `text`, which is not empty. If it is `None`, `text` is empty. If it is a fault,
-- the fault is `Memory`, and `text` is not empty.
abbrev pub AreLines : {A : Type 0} → List ℕ → Result (Option (String A)) RunFault → Type 0
AreLines text (Ok (Some lines)) = (string_bytes lines ≡ text) × (text ≢ [])
AreLines text (Ok None) = text ≡ []
AreLines text (Err fault) = (fault ≡ faults.Memory) × (text ≢ [])
