-- The text of a fault that ends a run of `cmp`, and its exit status. (Our own.)
use Rattle.std.specs.Prelude.{ℕ, ◌≡◌, List, codes, refl}
use Rattle.std.specs.Fmt.{digits}
use Rattle.capn_canon.specs.declared.refusal.Refusal.TheVariants as refusals
use Rattle.capn_serve.specs.FaultText as served
use Rattle.capn_serve.specs.declared.fault.RunFault.TheVariants as run_faults
use Rattle.capn_cmp.specs.declared.fault.CmpFault.{CmpFault}
use Rattle.capn_cmp.specs.declared.fault.CmpFault.TheVariants as faults

-- The text of a fault that ends a run of `cmp`.
abbrev pub cmp_text : CmpFault → List ℕ
cmp_text (faults.Run fault) = served.fault_text fault
cmp_text faults.TooFew = codes "fewer than two messages"

refused : cmp_text (faults.Run (run_faults.Refused (record { index = 2; offset = 40 }) (refusals.Capability 2)))
    ≡ codes "message 3 at 40: capability 2"
unfolding digits
refused = refl

-- The exit status after a fault: 1 for `TooFew`, and otherwise the status of the fault that ended the loop.
abbrev pub status_of : CmpFault → ℕ
status_of (faults.Run fault) = served.status_of fault
status_of faults.TooFew = 1
