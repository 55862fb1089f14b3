-- A run that explains every refused message: its result. (Our own.)
use Rattle.std.specs.Prelude.{ℕ, List, Bool, Option, Result, Ok, Err}
use Rattle.capn_serve.specs.Finish.{Finish, Finished, finish_of}
use Rattle.capn_serve.specs.SkipFault.{fault_after, outcome_by}
use Rattle.capn_serve.specs.declared.fault.RunFault.{RunFault}
use Rattle.capn_serve.specs.declared.position.Position.{Position}
use Rattle.capn_serve.specs.declared.service.Run.{Run}
use Rattle.capn_serve.specs.declared.skip_fault.SkipFault.{SkipFault}
use Rattle.capn_serve.specs.declared.skipped.SkippedSoFar.{SkippedSoFar}
use Rattle.capn_explain.specs.ExplainRun.{closing, ending, explain_fold, first_run, told}
use Rattle.capn_explain.specs.Reports.{Reporting, each_of, skipped_in}
use Rattle.capn_explain.specs.declared.explain_refused.ExplainRefused.{ExplainRefused}

-- The result of a run over `messages` messages, from its ending. If the ending is `Ok`, the result is `Ok` if no
-- message was refused, and otherwise `Skipped`. If the ending is a fault, the result is what `fault_after` gives.
abbrev pub answer_by : Option SkippedSoFar → ℕ → Result (Unit {0}) RunFault → Result (Unit {0}) SkipFault
answer_by skipped messages (Ok u) = outcome_by skipped messages
answer_by skipped messages (Err fault) = Err (fault_after skipped messages fault)

-- The result of a run whose loop ended without a fault in the state `s`.
abbrev pub outcome : Reporting → Position → Result (Unit {0}) SkipFault
outcome s at = answer_by (skipped_in s.outcome) at.index (ending s at)

-- The fault of a run after a `RunFault` in the state `s`.
abbrev pub stops : Reporting → Position → RunFault → SkipFault
stops s at fault = fault_after (skipped_in s.outcome) at.index fault

-- The end of a run that explains every refused message.
abbrev pub refused_finish : Finish (Run Reporting) (Unit {0}) SkipFault
refused_finish = finish_of closing told outcome stops

-- A run with the options `refused` has the result `r`. Before and after the run, the bytes left in the reader are `a`
-- and `b`, and the contents of the writer are `c` and `d`.
abbrev pub ExplainedRefused : ExplainRefused → Option (List ℕ) → Option (List ℕ) → Option (List ℕ) → Option (List ℕ)
    → Bool → Bool → Result (Unit {0}) SkipFault → Type 0
ExplainedRefused refused a b c d reader_failed writer_failed r =
    Finished (explain_fold (each_of refused)) (first_run (each_of refused)) refused_finish refused.form a b c d
    reader_failed writer_failed r
