use Rattle.std.proofs.Common.{◌≡◌, ℕ, List, ◌++◌, drop}
use Rattle.std.specs.Fmt.{IsPlainFormatter, HasWritten}
use Rattle.capn_diagnostics.specs.MessageTexts.{behind_commas, listed}
use Rattle.capn_diagnostics.proofs.segments_text.ListedDisplay.fmt.Given as goal

-- The bytes `done` are written. These bytes, and then the text of the numbers from `i` on, are the text of the list.
abbrev pub invariant-loop-i : goal.invariant-loop-i
invariant-loop-i g l =
    IsPlainFormatter l.fn.f
    → (done : List ℕ) × HasWritten g.W.Write.write_str_gives l.fn.f done l.f
    × (done ++ behind_commas (drop l.i l.numbers) ≡ listed l.numbers)
