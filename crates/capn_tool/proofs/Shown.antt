-- Lemmas on the help text or the version line that was written. (For `show_help` and `show_version`.)
use Rattle.std.proofs.Common.{◌≡◌, ◌∙◌, ◌||◌, inl, inr, ℕ, List, Bool, true, false, Option, Result, Ok, Err, IsErrAnd}
use Rattle.std.specs.Io.KnownBytes.{Appends, Keeps}
use Rattle.capn_words.specs.Watched.{HasBegun}
use Rattle.capn_commands.specs.declared.fault.ToolFault.{ToolFault}
use Rattle.capn_commands.specs.declared.fault.ToolFault.TheVariants as faults
use Rattle.capn_tool.specs.Course.{course}
use Rattle.capn_tool.specs.Flushed.{EndsFlushed}
use Rattle.capn_tool.specs.Unordered.{ShowsHelp, ShowsVersion}
use Rattle.capn_args.specs.Usage.{IsHelp, version_line}
use Rattle.capn_serve.proofs.shared.Wrote.{has_failed_now, is_fine_still}
use Rattle.capn_tool.proofs.Written.{begun_all, kept}

abbrev Ending : Type 0
Ending = Result (Unit {0}) ToolFault

abbrev done : Ending
done = Ok tt

-- Case: if the writer failed within the help text, `ShowsHelp` holds.
pub help_not_shown : (c d : Option (List ℕ)) (before after : Bool) (text : List ℕ) (r : Ending) → IsHelp text
    → HasBegun c d text → before ≡ false → after ≡ (before || true) → IsErrAnd r (λ e. e ≡ faults.Io)
    → ShowsHelp (course c d after) r
help_not_shown c d before after text (Ok u) help begun fine is same = absurd same
help_not_shown c d before after text (Err e) help begun fine is same =
    rw same (text, help, begun, has_failed_now before after fine is)

-- Case: if the help text was written, and the writer was flushed, `ShowsHelp` holds.
pub help_shown : (c m d : Option (List ℕ)) (before old new : Bool) (text : List ℕ) (r : Ending) → IsHelp text
    → Appends c m text → before ≡ false → old ≡ (before || false) → Keeps m d → EndsFlushed faults.Io done old new r
    → ShowsHelp (course c d new) r
help_shown c m d before old new text r help written fine is k (inl (ok, same)) =
    rw ok (text, help, kept c m d text k written, same ∙ is_fine_still before old fine is)
help_shown c m d before old new text r help written fine is k (inr (io, failed)) =
    rw io (text, help, begun_all c d text (kept c m d text k written), failed)

-- Case: if the writer failed within the version line, `ShowsVersion` holds.
pub version_not_shown : (c d : Option (List ℕ)) (before after : Bool) (r : Ending) → HasBegun c d version_line
    → before ≡ false → after ≡ (before || true) → IsErrAnd r (λ e. e ≡ faults.Io) → ShowsVersion (course c d after) r
version_not_shown c d before after (Ok u) begun fine is same = absurd same
version_not_shown c d before after (Err e) begun fine is same = rw same (begun, has_failed_now before after fine is)

-- Case: if the version line was written, and the writer was flushed, `ShowsVersion` holds.
pub version_shown : (c m d : Option (List ℕ)) (before old new : Bool) (r : Ending) → Appends c m version_line
    → before ≡ false → old ≡ (before || false) → Keeps m d → EndsFlushed faults.Io done old new r
    → ShowsVersion (course c d new) r
version_shown c m d before old new r written fine is k (inl (ok, same)) =
    rw ok (kept c m d version_line k written, same ∙ is_fine_still before old fine is)
version_shown c m d before old new r written fine is k (inr (io, failed)) =
    rw io (begun_all c d version_line (kept c m d version_line k written), failed)
