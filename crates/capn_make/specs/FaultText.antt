-- The text of a fault, and the exit status of a run that ends with that fault. (Our own.)
use Rattle.std.specs.Prelude.{ℕ, List, ◌++◌, codes}
use Rattle.std.specs.Fmt.{decimal}
use Rattle.capn_value.specs.Display.{misfit_name}
use Rattle.capn_serve.specs.Ending.{out_of_memory}
use Rattle.capn_make.specs.declared.fault.MakeFault.{MakeFault}
use Rattle.capn_make.specs.declared.fault.MakeFault.TheVariants as faults

-- The text that a program prints for the fault.
abbrev pub fault_text : MakeFault → List ℕ
fault_text faults.Memory = out_of_memory
fault_text faults.Io = codes "input or output failed"
fault_text faults.InputTooLong = codes "input too long"
fault_text (faults.NotText n) = codes "line " ++ (decimal n ++ codes ": not the text of a value")
fault_text (faults.Misfit n misfit) = codes "line " ++ (decimal n ++ (codes ": " ++ misfit_name misfit))
fault_text (faults.Capability n index) = codes "line " ++ (decimal n ++ (codes ": capability " ++ decimal index))
fault_text (faults.Another n) = codes "line " ++ (decimal n ++ codes ": another text")
fault_text faults.NoText = codes "line 1: no text"

-- The exit status of a run that ends with the fault. It is 3 for `Memory`, `Io` and `InputTooLong`, and 1 for each
-- other fault, which refuses the input.
abbrev pub status_of : MakeFault → ℕ
status_of faults.Memory = 3
status_of faults.Io = 3
status_of faults.InputTooLong = 3
status_of (faults.NotText n) = 1
status_of (faults.Misfit n misfit) = 1
status_of (faults.Capability n index) = 1
status_of (faults.Another n) = 1
status_of faults.NoText = 1
