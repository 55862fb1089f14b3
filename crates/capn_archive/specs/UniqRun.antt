-- A run of `uniq`: its fold, its first state and its end. (Our own.)
use Rattle.std.specs.Prelude.{◌≡◌, ℕ, List, [], ◌++◌, codes, Bool, true, false, Option, Result, refl}
use Rattle.std.specs.FinSet as set
use Rattle.std.specs.Fmt.{decimal, digits}
use Rattle.capn_serve.specs.declared.fault.RunFault.{RunFault}
use Rattle.capn_serve.specs.declared.position.Position.{Position}
use Rattle.capn_serve.specs.declared.service.Run.{Run}
use Rattle.capn_serve.specs.Finish.{Finish, Finished, finish_of, nothing_told}
use Rattle.capn_serve.specs.Fold.{Fold, fold_of}
use Rattle.capn_serve.specs.StreamRun as streams
use Rattle.capn_archive.specs.declared.fault.ArchiveFault.{ArchiveFault}
use Rattle.capn_archive.specs.declared.uniq_order.UniqOrder.{UniqOrder}
use Rattle.capn_archive.specs.Outcome.{outcome_after, stopped_after}
use Rattle.capn_archive.specs.UniqMessages.{UniqState, first_state, serves, refuses}

-- The fold of a run of `uniq` with the options `order`.
abbrev pub uniq_fold : UniqOrder → Fold (Run UniqState)
uniq_fold order = fold_of serves refuses order.limits.message_words

-- The state of a run before its first message.
abbrev pub first_run : UniqOrder → Run UniqState
first_run order = streams.first_run (first_state order)

-- The line that `uniq --count` writes, with the numbers `kept` and `served`.
abbrev pub count_line : ℕ → ℕ → List ℕ
count_line kept served = decimal kept ++ (codes " of " ++ (decimal served ++ codes "\n"))

two_of_five : count_line 2 5 ≡ codes "2 of 5\n"
unfolding digits
two_of_five = refl

-- The closing text. If the first argument is `true`, messages are only counted, and the text is `count_line`. Otherwise
-- the text is empty.
abbrev pub closing_by : Bool → ℕ → ℕ → List ℕ
closing_by true kept served = count_line kept served
closing_by false kept served = []

-- The closing text for the state `s` of the service.
abbrev pub closing : UniqState → Position → List ℕ
closing s at = closing_by s.order.count (set.len s.digests) s.served

-- The result of a run whose loop ended without a fault in the state `s`.
abbrev pub outcome : UniqState → Position → Result (Unit {0}) ArchiveFault
outcome s at = outcome_after s.skipped at.index

-- The fault of a run after a `RunFault` in the state `s`.
abbrev pub stops : UniqState → Position → RunFault → ArchiveFault
stops s at fault = stopped_after s.skipped at.index fault

-- The end of a run of `uniq`.
abbrev pub uniq_finish : Finish (Run UniqState) (Unit {0}) ArchiveFault
uniq_finish = finish_of closing nothing_told outcome stops

-- The effect of a run with the options `order` that ends with the result `r`. `a` and `b` are the reader before and
-- after the run, and `c` and `d` the writer.
abbrev pub Deduplicated : UniqOrder → Option (List ℕ) → Option (List ℕ) → Option (List ℕ) → Option (List ℕ) → Bool
    → Bool → Result (Unit {0}) ArchiveFault → Type 0
Deduplicated order a b c d reader_failed writer_failed r =
    Finished (uniq_fold order) (first_run order) uniq_finish order.form a b c d reader_failed writer_failed r
