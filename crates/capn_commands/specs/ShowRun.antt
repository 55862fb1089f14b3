-- The effect of a run that shows messages or parts of them, in a style or with marks. (Our own.)
use Rattle.std.specs.Prelude.{ℕ, List, Bool, Option, Result}
use Rattle.capn_serve.specs.Fold.{Fold, fold_of}
use Rattle.capn_serve.specs.FormRun.{ServesMessages}
use Rattle.capn_serve.specs.StreamRun.{first_run}
use Rattle.capn_serve.specs.declared.service.Run.{Run}
use Rattle.capn_serve.specs.declared.fault.RunFault.{RunFault}
use Rattle.capn_commands.specs.PartTexts.{refuses, serves}
use Rattle.capn_commands.specs.declared.part_texts.PartTexts.{PartTexts}

-- The fold of `show` over the messages of an input, each of at most `most` words.
abbrev pub part_fold : ℕ → Fold (Run PartTexts)
part_fold most = fold_of serves refuses most

-- A run of `show` with the options `texts` has the result `r`. Before and after the run, the bytes left in the reader
-- are `a` and `b`, and the contents of the writer are `c` and `d`.
abbrev pub Shown : PartTexts → Option (List ℕ) → Option (List ℕ) → Option (List ℕ) → Option (List ℕ) → Bool → Bool
    → Result (Unit {0}) RunFault → Type 0
Shown texts a b c d reader_failed writer_failed r = (last : Run PartTexts)
    × ServesMessages (part_fold texts.limits.message_words) (first_run texts) texts.form a b c d reader_failed
    writer_failed r last
