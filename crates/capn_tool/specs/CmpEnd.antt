-- The end of the program after a comparison, with an exit status that says what was found. (Our own.)
use Rattle.std.specs.Prelude.{◌≡◌, ℕ, List, Bool, Option, Result, Ok, Err}
use Rattle.std.specs.Io.KnownBytes.{Keeps}
use Rattle.capn_serve.specs.Ending.{WritesEnding}
use Rattle.capn_cmp.specs.CmpRun.{Compared}
use Rattle.capn_cmp.specs.FaultText.{cmp_text, status_of}
use Rattle.capn_cmp.specs.declared.cmp_order.CmpOrder.{CmpOrder}
use Rattle.capn_cmp.specs.declared.cmp_run.Comparison.{Comparison}
use Rattle.capn_cmp.specs.declared.cmp_run.Comparison.TheVariants as comparisons
use Rattle.capn_cmp.specs.declared.fault.CmpFault.{CmpFault}
use Rattle.capn_cmp.specs.declared.fault.CmpFault.TheVariants as faults
use Rattle.capn_serve.specs.declared.fault.RunFault.TheVariants as run_faults
use Rattle.capn_tool.specs.Course.{Course}
use Rattle.capn_tool.specs.Flushed.{EndsFlushed, RunOver}

-- The outcome of a run of `cmp` with the result `found`: `Ok` for any comparison, and otherwise the fault.
abbrev pub done_of : Result Comparison CmpFault → Result (Unit {0}) CmpFault
done_of (Ok comparison) = Ok tt
done_of (Err fault) = Err fault

-- A run of `cmp` compared the messages with the result `found`, and `r` is the outcome `done_of found`.
abbrev pub Finds : CmpOrder → Result Comparison CmpFault → RunOver CmpFault
Finds order found a b c d reader_failed writer_failed r =
    Compared order a b c d reader_failed writer_failed found × (r ≡ done_of found)

-- The exit status after a flush without error. It is 0 if all messages have the same value, 1 if a message differs, and
-- otherwise the status of the fault.
abbrev pub found_status : Result Comparison CmpFault → ℕ
found_status (Ok comparisons.Same) = 0
found_status (Ok comparisons.Different) = 1
found_status (Err fault) = status_of fault

-- The exit status of a run of `cmp` with the result `found`. The second argument is the outcome after the flush. After
-- `Ok`, `found` decides the status, and after an `Err`, the fault does.
abbrev pub cmp_status : Result Comparison CmpFault → Result (Unit {0}) CmpFault → ℕ
cmp_status found (Ok u) = found_status found
cmp_status found (Err fault) = status_of fault

-- The fault that ends a run of `cmp` if its output failed.
abbrev pub io : CmpFault
io = faults.Run run_faults.Io

-- After a run of `cmp` with the result `found`, the output was flushed, and the program ended with the exit status
-- `status`. `outcome` is the outcome after the flush, and decides what was written to `errors`. `failed` says whether
-- the output had failed before the flush.
pub record EndsFound (found : Result Comparison CmpFault) (failed : Bool) (flush errors : Course) (status : ℕ)
    : Type 0 where
  pub outcome : Result (Unit {0}) CmpFault
  pub kept : Keeps flush.before flush.after
  pub flushed : EndsFlushed io (done_of found) failed flush.failed outcome
  pub told : WritesEnding cmp_text outcome errors.before errors.after errors.failed
  pub is : status ≡ cmp_status found outcome
