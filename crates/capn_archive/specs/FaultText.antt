-- The text of a fault that ends a run over an archive, and its exit status. (Our own.)
use Rattle.std.specs.Prelude.{ℕ, ◌≡◌, List, ◌++◌, codes, refl}
use Rattle.std.specs.Fmt.{digits}
use Rattle.capn_canon.specs.declared.refusal.Refusal.TheVariants as refusals
use Rattle.capn_serve.specs.FaultText.{place_text}
use Rattle.capn_serve.specs.SkipFault as skipping
use Rattle.capn_serve.specs.declared.fault.RunFault.TheVariants as run_faults
use Rattle.capn_serve.specs.declared.position.Position.{Position}
use Rattle.capn_serve.specs.declared.skip_fault.SkipFault.TheVariants as skip_faults
use Rattle.capn_archive.specs.declared.fault.ArchiveFault.{ArchiveFault}
use Rattle.capn_archive.specs.declared.fault.ArchiveFault.TheVariants as faults

-- The text for a message that is not canonical, at the position `at`.
abbrev pub text_of_uncanonical : Position → List ℕ
text_of_uncanonical at = codes "message " ++ (place_text at ++ codes ": not canonical")

-- The text of a fault that ends a run over an archive.
abbrev pub archive_text : ArchiveFault → List ℕ
archive_text (faults.Ended fault) = skipping.skip_text fault
archive_text (faults.NotCanonical at) = text_of_uncanonical at

-- The position for the examples: the third message, at offset 40.
abbrev third : Position
third = record { index = 2; offset = 40 }

skipped : archive_text (faults.Ended (skip_faults.Skipped (record { refused = 3; messages = 12; first = third })))
    ≡ codes "3 of 12 messages refused, the first is 3 at 40"
unfolding digits
skipped = refl

refused : archive_text (faults.Ended (skip_faults.Ended (run_faults.Refused third (refusals.Capability 2))))
    ≡ codes "message 3 at 40: capability 2"
unfolding digits
refused = refl

not_canonical : archive_text (faults.NotCanonical third) ≡ codes "message 3 at 40: not canonical"
unfolding digits
not_canonical = refl

-- The exit status after a fault: 1 for `NotCanonical`, and otherwise the status of the fault in `Ended`.
abbrev pub status_of : ArchiveFault → ℕ
status_of (faults.Ended fault) = skipping.status_of fault
status_of (faults.NotCanonical at) = 1
