-- The text of a fault of packing or unpacking, and the status with which the program ends. (Our own.)
use Rattle.std.specs.Prelude.{ℕ, List, ◌++◌, codes}
use Rattle.std.specs.Fmt.{decimal}
use Rattle.capn_serve.specs.Ending.{out_of_memory}
use Rattle.capn_commands.specs.declared.flow_fault.FlowFault.{FlowFault}
use Rattle.capn_commands.specs.declared.flow_fault.FlowFault.TheVariants as faults

-- The text that a program prints for the fault.
abbrev pub fault_text : FlowFault → List ℕ
fault_text faults.Memory = out_of_memory
fault_text faults.Io = codes "input or output failed"
fault_text faults.InputTooLong = codes "input too long"
fault_text (faults.Cut at) = codes "packed: Cut at " ++ decimal at
fault_text (faults.NotWhole n) = codes "NotWhole(" ++ decimal n ++ codes ")"

-- The exit status of a run that ends with the fault: 1 for `Cut` and `NotWhole`, and 3 for any other fault.
abbrev pub status_of : FlowFault → ℕ
status_of faults.Memory = 3
status_of faults.Io = 3
status_of faults.InputTooLong = 3
status_of (faults.Cut at) = 1
status_of (faults.NotWhole n) = 1
