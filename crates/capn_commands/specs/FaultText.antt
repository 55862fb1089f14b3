-- The texts that say why a run stopped. (Our own.)
use Rattle.std.specs.Prelude.{ℕ, List, ◌++◌, codes, Bool, Option, Result}
use Rattle.std.specs.Fmt.{decimal}
use Rattle.capn_serve.specs.Ending.{WritesEnding, fault_text_line, out_of_memory}
use Rattle.capn_canon.specs.Display.{refusal_text}
use Rattle.capn_commands.specs.declared.fault.ToolFault.{ToolFault}
use Rattle.capn_commands.specs.declared.fault.ToolFault.TheVariants as faults

-- The text of the fault with which a run stopped.
abbrev pub fault_text : ToolFault → List ℕ
fault_text faults.Memory = out_of_memory
fault_text faults.Io = codes "input or output failed"
fault_text faults.InputTooLong = codes "input too long"
fault_text (faults.NotWhole n) = codes "NotWhole(" ++ decimal n ++ codes ")"
fault_text (faults.Refused refusal) = refusal_text refusal

-- The error line that has the text of `fault`.
abbrev pub fault_line : ToolFault → List ℕ
fault_line fault = fault_text_line (fault_text fault)

-- After `Ok` nothing was written. After `Err fault` the error line of `fault` was written, or a prefix of that line if
-- the writer has failed.
abbrev pub ReportsEnding : Result (Unit {0}) ToolFault → Option (List ℕ) → Option (List ℕ) → Bool → Type 0
ReportsEnding = WritesEnding fault_text
