-- Lemmas on an invocation that was carried out, derived from its run and the end of the program. (For `program`.)
use Rattle.std.proofs.Common.{ℕ, List, Bool, Option, Result, refl}
use Rattle.clap.specs.Words.{Text, subcommand_of}
use Rattle.capn_serve.specs.Ending.{WritesEnding, status_of_ending}
use Rattle.capn_args.specs.CommandLine.{program_line}
use Rattle.capn_tool.specs.Course.{Course, course}
use Rattle.capn_tool.specs.Flushed.{EndsRun, RunOver}
use Rattle.capn_args.specs.Meaning.{MeansInvocation}
use Rattle.capn_tool.specs.Program.{EndsCmp, EndsRunOrder}
use Rattle.capn_args.specs.declared.invocation.Invocation.{Invocation}
use Rattle.capn_args.specs.declared.invocation.Invocation.TheVariants as invocations
use Rattle.capn_cmp.specs.CmpRun.{Compared}
use Rattle.capn_cmp.specs.declared.cmp_order.CmpOrder.{CmpOrder}
use Rattle.capn_cmp.specs.declared.cmp_run.Comparison.{Comparison}
use Rattle.capn_cmp.specs.declared.fault.CmpFault.{CmpFault}
use Rattle.capn_tool.specs.CmpEnd.{EndsFound, done_of}

pub ended : {O F : Type 0} (name : O → Invocation) (io : F) (Runs : O → RunOver F) (text : F → List ℕ) (exit : F → ℕ)
    {words : List Text} {order : O} {a b c m d : Option (List ℕ)} {unread failed is_failed : Bool}
    {run : Result (Unit {0}) F} {errors : Course} {status : ℕ}
    → MeansInvocation (subcommand_of program_line words) (name order)
    → Runs order a b c m unread failed run
    → EndsRun text exit io run failed (course m d is_failed) errors status
    → EndsRunOrder name io Runs (WritesEnding text) (status_of_ending exit) words (course a b unread)
    (course c d is_failed) errors status
ended name io Runs text exit {words} {order} {a} {b} {c} {m} {d} {unread} {failed} {is_failed} {run} means ran end =
    record {
      order = order;
      outcome = end.outcome;
      means = means;
      run = record {
        run = run;
        written = m;
        failed = failed;
        ran = ran;
        kept = end.kept;
        flushed = end.flushed;
      };
      told = end.told;
      is = end.is;
    }

-- Case: if a comparison was carried out, and the program ended as `EndsFound` states, `EndsCmp` holds.
pub ended_found : (order : CmpOrder) {words : List Text} {a b c m d : Option (List ℕ)}
    {unread failed is_failed : Bool} {found : Result Comparison CmpFault} {errors : Course} {status : ℕ}
    → MeansInvocation (subcommand_of program_line words) (invocations.Cmp order)
    → Compared order a b c m unread failed found
    → EndsFound found failed (course m d is_failed) errors status
    → EndsCmp words (course a b unread) (course c d is_failed) errors status
ended_found order {words} {a} {b} {c} {m} {d} {unread} {failed} {is_failed} {found} means ran end = record {
  order = order;
  found = found;
  outcome = end.outcome;
  means = means;
  run = record {
    run = done_of found;
    written = m;
    failed = failed;
    ran = (ran, refl);
    kept = end.kept;
    flushed = end.flushed;
  };
  told = end.told;
  is = end.is;
}
