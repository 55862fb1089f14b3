-- A run that explains messages: its closing text and its ending. All that a run does that explains one message. (Our
-- own.)
use Rattle.std.specs.Prelude.{◌≡◌, ℕ, List, [], ◌++◌, Bool, Option, Some, None, Result, Ok, Err, codes, refl}
use Rattle.std.specs.Fmt.{digits}
use Rattle.std.specs.Io.KnownBytes.{Appends}
use Rattle.capn_canon.specs.declared.refusal.Refusal.{Refusal}
use Rattle.capn_canon.specs.declared.refusal.Refusal.TheVariants as refusals
use Rattle.capn_serve.specs.declared.fault.RunFault.{RunFault}
use Rattle.capn_serve.specs.declared.fault.RunFault.TheVariants as faults
use Rattle.capn_serve.specs.declared.position.Position.{Position}
use Rattle.capn_serve.specs.declared.service.Run.{Run}
use Rattle.capn_serve.specs.Finish.{Finish, Finished, finish_of}
use Rattle.capn_serve.specs.Fold.{Fold, fold_until}
use Rattle.capn_serve.specs.StreamRun as runs
use Rattle.capn_serve.specs.WhatCame.{Came}
use Rattle.capn_diagnostics.specs.MessageTexts.{count_text}
use Rattle.capn_diagnostics.specs.declared.count_text.CountText.{CountText}
use Rattle.capn_diagnostics.specs.declared.count_text.CountText.TheVariants as counts
use Rattle.capn_explain.specs.FaultLines.{fault_lines}
use Rattle.capn_explain.specs.Reports.{First, Reporting, apart, done, first_reporting, order_of, refuses, serves}
use Rattle.capn_explain.specs.declared.explain.Explain.{Explain}
use Rattle.capn_explain.specs.declared.order.Order.{Order}
use Rattle.capn_explain.specs.declared.order.Wanted.{Wanted}
use Rattle.capn_explain.specs.declared.order.Wanted.TheVariants as wants
use Rattle.capn_explain.specs.declared.outcome.Outcome.{Outcome}
use Rattle.capn_explain.specs.declared.outcome.Outcome.TheVariants as outcomes

-- The fold over the messages of an input, up to the one message that is explained, or over all messages.
abbrev pub explain_fold : Order → Fold (Run Reporting)
explain_fold order = fold_until serves refuses done order.limits.message_words

-- The state of a run with the options `order`, before its first message.
abbrev pub first_run : Order → Run Reporting
first_run order = runs.first_run (first_reporting order)

-- The line that shows `count`, a number of messages.
abbrev pub count_line : CountText → List ℕ
count_line count = count_text count ++ codes "\n"

-- The closing text of a run that explained none of its `count` messages in the loop. If a number is given, or `first`
-- is `None`, the text is a line with `count`. Otherwise it is the lines in `first`, or empty if `first` is an error.
abbrev pub rest_text : Wanted → Option First → ℕ → List ℕ
rest_text (wants.Number number) first count = count_line (counts.Fewer count)
rest_text _ (Some (Ok text)) count = text
rest_text _ (Some (Err memory)) count = []
rest_text _ None count = count_line (counts.NoneRefused count)

-- The closing text of a run. It is `rest_text` if the outcome is `Nothing`. It is empty if every refused message was
-- explained in the loop. Otherwise it is `lines`, which explain a message.
abbrev pub closing_by : Outcome → List ℕ → Wanted → Option First → ℕ → List ℕ
closing_by outcomes.Nothing lines wanted first count = rest_text wanted first count
closing_by (outcomes.Skipped skipped) lines wanted first count = []
closing_by (outcomes.Refused at stopped) lines wanted first count = lines
closing_by outcomes.Accepted lines wanted first count = lines

-- The closing text that `closing_by` gives for the state `s`, after the message before the position `at`.
abbrev pub closing : Reporting → Position → List ℕ
closing s at = closing_by s.outcome s.lines s.order.wanted s.first at.index

-- The ending of a run that explained no message in the loop. It is `Memory` if no number is given and `first` is an
-- error, and otherwise `Ok`.
abbrev pub rest_ending : Wanted → Option First → Result (Unit {0}) RunFault
rest_ending (wants.Number number) first = Ok tt
rest_ending _ (Some (Ok text)) = Ok tt
rest_ending _ (Some (Err memory)) = Err faults.Memory
rest_ending _ None = Ok tt

-- The ending of a run whose loop ended with `Ok`. If the outcome is `Nothing`, it is `rest_ending`. It is `Refused` if
-- the one message to explain is refused, and otherwise `Ok`.
abbrev pub ending_by : Outcome → Wanted → Option First → Result (Unit {0}) RunFault
ending_by outcomes.Nothing wanted first = rest_ending wanted first
ending_by (outcomes.Skipped skipped) wanted first = Ok tt
ending_by (outcomes.Refused at stopped) wanted first = Err (faults.Refused at (refusals.Walk stopped))
ending_by outcomes.Accepted wanted first = Ok tt

-- The ending that `ending_by` gives for the state `s` after the last message.
abbrev pub ending : Reporting → Position → Result (Unit {0}) RunFault
ending s at = ending_by s.outcome s.order.wanted s.first

-- The lines of the message at `at`, which is refused with `refusal` before its walk, and an empty line if every refused
-- message is explained. `came` has the bytes of this message that were read and kept.
abbrev pub told_at : Order → Position → Refusal → Came → List ℕ
told_at order at refusal came = apart order.wanted (fault_lines order.limits at refusal came.rest came.group)

-- The lines that `told_at` gives in the state `s`.
abbrev pub told : Reporting → Position → Refusal → Came → List ℕ
told s at refusal came = told_at s.order at refusal came

-- The fault of a run that explains one message, after a `RunFault`.
abbrev pub stops : Reporting → Position → RunFault → RunFault
stops s at fault = fault

-- The end of a run that explains one message.
abbrev pub explain_finish : Finish (Run Reporting) (Unit {0}) RunFault
explain_finish = finish_of closing told ending stops

-- A run with the options `explain` has the result `r`. Before and after the run, the bytes left in the reader are `a`
-- and `b`, and the contents of the writer are `c` and `d`. If `r` is `Memory`, nothing was written.
pub record Explained (explain : Explain) (a b c d : Option (List ℕ)) (reader_failed writer_failed : Bool)
    (r : Result (Unit {0}) RunFault) : Type 0 where
  pub run : Finished (explain_fold (order_of explain)) (first_run (order_of explain)) explain_finish explain.form a b c
      d reader_failed writer_failed r
  pub nothing : r ≡ Err faults.Memory → Appends c d []

-- Examples of `rest_text` and `rest_ending`.

none_refused : rest_text wants.First None 3 ≡ codes "3 messages, none refused\n"
unfolding digits
none_refused = refl

no_memory : rest_ending wants.Each (Some (Err (record {}))) ≡ Err faults.Memory
no_memory = refl

fewer : rest_text (wants.Number 5) None 3 ≡ codes "3 messages\n"
unfolding digits
fewer = refl
