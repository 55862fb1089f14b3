-- A run of `cmp`: its fold, its first state and its result. (Our own.)
use Rattle.std.specs.Prelude.{ℕ, nat_lt, List, Bool, cond, Option, Result, Ok, Err}
use Rattle.capn_serve.specs.Fold.{Fold, fold_until}
use Rattle.capn_serve.specs.Finish.{Finish, Finished, finish_of, last_result, no_closing, nothing_told}
use Rattle.capn_serve.specs.FormRun.{form_of}
use Rattle.capn_serve.specs.StreamRun as runs
use Rattle.capn_serve.specs.declared.fault.RunFault.{RunFault}
use Rattle.capn_serve.specs.declared.position.Position.{Position}
use Rattle.capn_serve.specs.declared.service.Run.{Run}
use Rattle.capn_cmp.specs.CmpMessages.{CmpState, done, first_state, refuses, serves}
use Rattle.capn_cmp.specs.declared.cmp_order.CmpOrder.{CmpOrder}
use Rattle.capn_cmp.specs.declared.cmp_run.Comparison.{Comparison}
use Rattle.capn_cmp.specs.declared.cmp_run.Comparison.TheVariants as comparisons
use Rattle.capn_cmp.specs.declared.fault.CmpFault.{CmpFault}
use Rattle.capn_cmp.specs.declared.fault.CmpFault.TheVariants as faults

-- The fold of a run of `cmp` with the options `order`. A state is `done` after a message that differs from the first.
abbrev pub cmp_fold : CmpOrder → Fold (Run CmpState)
cmp_fold order = fold_until serves refuses done order.limits.message_words

-- The state of a run before its first message.
abbrev pub first_run : CmpOrder → Run CmpState
first_run order = runs.first_run (first_state order.limits)

-- The result of a run whose loop ended with `Ok`. It is `Different` if `differs` is `true`, `TooFew` after fewer than
-- two messages, and `Same` otherwise.
abbrev pub found_by : Bool → ℕ → Result Comparison CmpFault
found_by differs messages = cond differs (Ok comparisons.Different)
    (cond (nat_lt messages 2) (Err faults.TooFew) (Ok comparisons.Same))

-- The result of a run whose loop ended without a fault in the state `s`.
abbrev pub found : CmpState → Position → Result Comparison CmpFault
found s at = found_by s.differs at.index

-- The fault of a run after a `RunFault`.
abbrev pub stops : CmpState → Position → RunFault → CmpFault
stops s at fault = faults.Run fault

-- The end of a run of `cmp`, without a closing text.
abbrev pub cmp_finish : Finish (Run CmpState) Comparison CmpFault
cmp_finish = finish_of no_closing nothing_told found stops

-- The result of a run whose loop ended with the first argument, in the state `y`.
abbrev pub outcome : Result (Unit {0}) RunFault → Run CmpState → Result Comparison CmpFault
outcome served y = last_result cmp_finish served y

-- The effect of a run with the options `order` that ends with the result `r`. `a` and `b` are the reader before and
-- after the run, and `c` and `d` the writer.
abbrev pub Compared : CmpOrder → Option (List ℕ) → Option (List ℕ) → Option (List ℕ) → Option (List ℕ) → Bool → Bool
    → Result Comparison CmpFault → Type 0
Compared order a b c d reader_failed writer_failed r =
    Finished (cmp_fold order) (first_run order) cmp_finish (form_of order.form) a b c d reader_failed writer_failed r
