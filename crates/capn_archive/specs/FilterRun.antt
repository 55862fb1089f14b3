-- A run of `filter`: its fold, its first state and its end. (Our own.)
use Rattle.std.specs.Prelude.{ℕ, List, Bool, Option, Result}
use Rattle.capn_serve.specs.declared.fault.RunFault.{RunFault}
use Rattle.capn_serve.specs.declared.position.Position.{Position}
use Rattle.capn_serve.specs.declared.service.Run.{Run}
use Rattle.capn_serve.specs.Finish.{Finish, Finished, finish_of, no_closing, nothing_told}
use Rattle.capn_serve.specs.Fold.{Fold, fold_until}
use Rattle.capn_serve.specs.StreamRun as streams
use Rattle.capn_archive.specs.declared.fault.ArchiveFault.{ArchiveFault}
use Rattle.capn_archive.specs.declared.filter_order.FilterOrder.{FilterOrder}
use Rattle.capn_archive.specs.declared.filter_service.FilterService.{FilterService}
use Rattle.capn_archive.specs.FilterMessages.{done, first_state, refuses, serves}
use Rattle.capn_archive.specs.Outcome.{outcome_unless, stopped_after}

-- The fold of a run of `filter` with the options `order`. A state is `done` if its `ended` has a position.
abbrev pub filter_fold : FilterOrder → Fold (Run FilterService)
filter_fold order = fold_until serves refuses done order.limits.message_words

-- The state of a run before its first message.
abbrev pub first_run : FilterOrder → Run FilterService
first_run order = streams.first_run (first_state order)

-- The result of a run whose loop ended without a fault in the state `s`. Either a message that is not canonical ended
-- the loop, or all of the input was read.
abbrev pub outcome : FilterService → Position → Result (Unit {0}) ArchiveFault
outcome s at = outcome_unless s.ended s.skipped at.index

-- The fault of a run after a `RunFault` in the state `s`.
abbrev pub stops : FilterService → Position → RunFault → ArchiveFault
stops s at fault = stopped_after s.skipped at.index fault

-- The end of a run of `filter`, without a closing text.
abbrev pub filter_finish : Finish (Run FilterService) (Unit {0}) ArchiveFault
filter_finish = finish_of no_closing nothing_told outcome stops

-- The effect of a run with the options `order` that ends with the result `r`. `a` and `b` are the reader before and
-- after the run, and `c` and `d` the writer.
abbrev pub Filtered : FilterOrder → Option (List ℕ) → Option (List ℕ) → Option (List ℕ) → Option (List ℕ) → Bool → Bool
    → Result (Unit {0}) ArchiveFault → Type 0
Filtered order a b c d reader_failed writer_failed r =
    Finished (filter_fold order) (first_run order) filter_finish order.form a b c d reader_failed writer_failed r
