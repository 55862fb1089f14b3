use Rattle.std.proofs.Common.{inl, inr, Result, Ok, Err, IfOk, IfErr, string_bytes, String}
use Rattle.capn_tool.specs.Course.{Course}
use Rattle.capn_tool.specs.Unordered.{WritesText}
use Rattle.capn_serve.specs.Line.{WritesLine}
use Rattle.capn_commands.specs.FaultText.{fault_line}
use Rattle.capn_commands.specs.declared.fault.ToolFault.TheVariants as faults
use Rattle.capn_tool.proofs.unordered.tell_mistake.Goals as goal

told_text : {A E : Type 0} (errors : Course) (said : Result (String A) E)
    → IfOk said (λ text. WritesLine (string_bytes text) errors.before errors.after errors.failed)
    → IfErr said (λ e. WritesLine (fault_line faults.Memory) errors.before errors.after errors.failed)
    → WritesText errors
told_text errors (Ok text) told memory = inl (string_bytes text, told)
told_text errors (Err e) told memory = inr memory

pub returns : goal.returns
returns g c = told_text _ c.text.result c.tell_said.ensures.text c.tell_said.ensures.memory
