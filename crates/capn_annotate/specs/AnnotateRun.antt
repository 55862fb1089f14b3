-- The effect of a run of `annotate`. (Our own.)
use Rattle.std.specs.Prelude.{ℕ, List, Bool, Option, Result}
use Rattle.capn_serve.specs.Fold.{Fold, fold_of}
use Rattle.capn_serve.specs.FormRun.{ServesMessages}
use Rattle.capn_serve.specs.StreamRun.{first_run}
use Rattle.capn_serve.specs.declared.service.Run.{Run}
use Rattle.capn_serve.specs.declared.fault.RunFault.{RunFault}
use Rattle.capn_annotate.specs.Annotation.{refuses, serves}
use Rattle.capn_annotate.specs.declared.annotate_order.AnnotateOrder.{AnnotateOrder}

-- The fold of `annotate` over the messages of an input, each of at most `most` words.
abbrev pub annotate_fold : ℕ → Fold (Run AnnotateOrder)
annotate_fold most = fold_of serves refuses most

-- A run of `annotate` with the options `order` has the result `r`. Before and after the run, the bytes left in the
-- reader are `a` and `b`, and the contents of the writer are `c` and `d`.
abbrev pub Annotated : AnnotateOrder → Option (List ℕ) → Option (List ℕ) → Option (List ℕ) → Option (List ℕ) → Bool
    → Bool → Result (Unit {0}) RunFault → Type 0
Annotated order a b c d reader_failed writer_failed r = (last : Run AnnotateOrder)
    × ServesMessages (annotate_fold order.limits.message_words) (first_run order) order.form a b c d reader_failed
    writer_failed r last
