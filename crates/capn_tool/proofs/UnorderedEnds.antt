-- Lemmas on the end of the program if its words start no run. (For `end_unordered`.)
use Rattle.std.proofs.Common.{◌≡◌, ℕ, Bool, true, false, Result, Err, refl, sym, ◌∙◌}
use Rattle.clap.specs.declared.error.ErrorKind.{ErrorKind}
use Rattle.clap.specs.declared.error.ErrorKind.TheVariants as kinds
use Rattle.capn_commands.specs.ExitStatus.{status_of}
use Rattle.capn_commands.specs.FaultText.{ReportsEnding}
use Rattle.capn_commands.specs.declared.fault.ToolFault.{ToolFault}
use Rattle.capn_commands.specs.declared.fault.ToolFault.TheVariants as faults
use Rattle.capn_tool.specs.Course.{Course, IsUntouched}
use Rattle.capn_tool.specs.Unordered.{EndsUnordered, ShowsHelp, ShowsVersion, WritesText}

module _ (kind : ErrorKind) (output errors : Course) where
  pub ends_memory : (status : ℕ) → kind ≡ kinds.OutOfMemory → IsUntouched output
      → ReportsEnding (Err faults.Memory) errors.before errors.after errors.failed → status ≡ 3
      → EndsUnordered kind output errors status
  ends_memory status is untouched told ends = record {
    memory = λ _. (untouched, told, ends);
    help = λ other. let bad : kinds.OutOfMemory ≡ kinds.DisplayHelp = sym is ∙ other in absurd (cc);
    version = λ other. let bad : kinds.OutOfMemory ≡ kinds.DisplayVersion = sym is ∙ other in absurd (cc);
    mistake = λ no _ _. absurd (no is);
  }

  pub ends_help : (status : ℕ) (outcome : Result (Unit {0}) ToolFault) → kind ≡ kinds.DisplayHelp
      → ShowsHelp output outcome → ReportsEnding outcome errors.before errors.after errors.failed
      → status ≡ status_of outcome → EndsUnordered kind output errors status
  ends_help status outcome is shown told ends = record {
    memory = λ other. let bad : kinds.OutOfMemory ≡ kinds.DisplayHelp = sym other ∙ is in absurd (cc);
    help = λ _. record { outcome = outcome; shown = shown; told = told; is = ends };
    version = λ other. let bad : kinds.DisplayHelp ≡ kinds.DisplayVersion = sym is ∙ other in absurd (cc);
    mistake = λ _ no _. absurd (no is);
  }

  pub ends_version : (status : ℕ) (outcome : Result (Unit {0}) ToolFault) → kind ≡ kinds.DisplayVersion
      → ShowsVersion output outcome → ReportsEnding outcome errors.before errors.after errors.failed
      → status ≡ status_of outcome → EndsUnordered kind output errors status
  ends_version status outcome is shown told ends = record {
    memory = λ other. let bad : kinds.OutOfMemory ≡ kinds.DisplayVersion = sym other ∙ is in absurd (cc);
    help = λ other. let bad : kinds.DisplayHelp ≡ kinds.DisplayVersion = sym other ∙ is in absurd (cc);
    version = λ _. record { outcome = outcome; shown = shown; told = told; is = ends };
    mistake = λ _ _ no. absurd (no is);
  }

  -- Case: if `kind` is none of `OutOfMemory`, `DisplayHelp` and `DisplayVersion`, the program ends with the status 2.
  pub ends_mistake : (memory help version : Bool) → (kind ≡ kinds.OutOfMemory → memory ≡ true) → memory ≡ false
      → (kind ≡ kinds.DisplayHelp → help ≡ true) → help ≡ false
      → (kind ≡ kinds.DisplayVersion → version ≡ true) → version ≡ false → IsUntouched output → WritesText errors
      → EndsUnordered kind output errors 2
  ends_mistake memory help version memory_is no_memory help_is no_help version_is no_version untouched told = record {
    memory = λ is. let bad : true ≡ false = sym (memory_is is) ∙ no_memory in absurd (cc);
    help = λ is. let bad : true ≡ false = sym (help_is is) ∙ no_help in absurd (cc);
    version = λ is. let bad : true ≡ false = sym (version_is is) ∙ no_version in absurd (cc);
    mistake = λ _ _ _. (untouched, told, refl);
  }
