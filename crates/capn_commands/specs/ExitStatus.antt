-- The exit status of the program after a run of a command.
use Rattle.std.specs.Prelude.{ℕ, Result}
use Rattle.capn_serve.specs.Ending.{status_of_ending}
use Rattle.capn_commands.specs.declared.fault.ToolFault.{ToolFault}
use Rattle.capn_commands.specs.declared.fault.ToolFault.TheVariants as faults

-- The exit status after a fault: 1 for `NotWhole` and `Refused`, and 3 for any other fault. (Our own.)
abbrev pub exit_of : ToolFault → ℕ
exit_of faults.Memory = 3
exit_of faults.Io = 3
exit_of faults.InputTooLong = 3
exit_of (faults.NotWhole n) = 1
exit_of (faults.Refused refusal) = 1

-- The exit status after a run: 0 after `Ok`, and the status of the fault after an `Err`. (Our own.)
abbrev pub status_of : Result (Unit {0}) ToolFault → ℕ
status_of = status_of_ending exit_of
