-- The effect of a run that picks the messages of a list. (Our own.)
use Rattle.std.specs.Prelude.{◌≡◌, ◌⊎◌, List, ℕ, Bool, false, Option, Some, Result, Err}
use Rattle.capn_serve.specs.PickRun.{PicksRanges}
use Rattle.capn_serve.specs.declared.fault.RunFault.{RunFault}
use Rattle.capn_serve.specs.declared.fault.RunFault.TheVariants as faults
use Rattle.capn_serve.specs.declared.pick.Range.{Range}
use Rattle.capn_args.specs.RangeList.{ranges_in}
use Rattle.capn_args.specs.declared.invocation.Only.{Only}

-- Memory was refused for the ranges of the list, and nothing was read or written.
abbrev pub NeedsMemory : Option (List ℕ) → Option (List ℕ) → Option (List ℕ) → Option (List ℕ) → Bool → Bool
    → Result (Unit {0}) RunFault → Type 0
NeedsMemory a b c d reader_failed writer_failed r = (r ≡ Err faults.Memory)
    × (b ≡ a) × (d ≡ c) × (reader_failed ≡ false) × (writer_failed ≡ false)

-- The effect of a run that picks the messages of `only.list`, if that text is a list. Memory was refused for the
-- ranges, or the run picked the messages with the result `r`.
abbrev pub OnlyPicked : Only → Option (List ℕ) → Option (List ℕ) → Option (List ℕ) → Option (List ℕ) → Bool → Bool
    → Result (Unit {0}) RunFault → Type 0
OnlyPicked only a b c d reader_failed writer_failed r = (ranges : List Range) → ranges_in only.list.now ≡ Some ranges
    → NeedsMemory a b c d reader_failed writer_failed r
    ⊎ PicksRanges only.limits.message_words ranges only.form a b c d reader_failed writer_failed r
