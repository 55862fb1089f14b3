-- A run that reads its complete input first. `makes` relates the input to its output, and `fails` relates the input to
-- the reason why there is no output. (Our own.)
use Rattle.std.specs.Prelude.{◌≡◌, ◌⊎◌, ◌↔◌, ℕ, ◌+◌, ◌≤◌, List, [], length, take, Bool, true, Option, IfSome, Result}
use Rattle.std.specs.Prelude.{Ok, Err}
use Rattle.std.specs.Io.KnownBytes.{Consumes, Appends, IsAtEnd}
use Rattle.capn_serve.specs.StreamRun.{TakesBytes}
use Rattle.capn_commands.specs.Limits.{most_input}
use Rattle.capn_commands.specs.Text.{IsDueOf, taken_of, has_more}
use Rattle.capn_commands.specs.declared.fault.ToolFault.{ToolFault}
use Rattle.capn_commands.specs.declared.fault.ToolFault.TheVariants as faults

module _ (makes : List ℕ → List ℕ → Type 0) (fails : List ℕ → ToolFault → Type 0) where
  -- `ending` is `Memory` or `Io`, or `IsDueOf` holds for `bytes`, `ending` and some `text`. In the last case `text` was
  -- written. `old` and `new` are the writer before and after.
  abbrev pub WholeEnds : Option (List ℕ) → Option (List ℕ) → Result (Unit {0}) ToolFault → List ℕ → Bool → Type 0
  WholeEnds old new ending bytes is_longer =
      (ending ≡ Err faults.Memory)
      ⊎ ((ending ≡ Err faults.Io)
      ⊎ ((text : List ℕ) × IsDueOf makes fails bytes is_longer text ending × Appends old new text))

  -- A reader returned `bytes`, at most 2^32 + 1 of them. A prefix of some `text` was written. `text` is empty, or the
  -- output for `bytes`.
  pub record WholeBegins (a b c d : Option (List ℕ)) : Type 0 where
    pub bytes : List ℕ
    pub read : Consumes a b bytes
    pub bounded : length bytes ≤ most_input + 1
    pub written : (text : List ℕ) × (count : ℕ)
        × ((text ≡ []) ⊎ IsDueOf makes fails (taken_of bytes) (has_more bytes) text (Ok tt))
        × Appends c d (take count text)

  -- A run has the result `r`. Before and after the run, the bytes left in the reader are `a` and `b`, and the contents
  -- of the writer are `c` and `d`.
  pub record RunsWhole (a b c d : Option (List ℕ)) (reader_failed writer_failed : Bool)
      (r : Result (Unit {0}) ToolFault) : Type 0 where
    pub exact : IfSome a (λ input. WholeEnds c d r (taken_of input) (has_more input))
    pub io : (r ≡ Err faults.Io) ↔ ((reader_failed ≡ true) ⊎ (writer_failed ≡ true))
    pub begun : WholeBegins a b c d
    pub heard : reader_failed ≡ true → Appends c d []
    pub memory : r ≡ Err faults.Memory → TakesBytes a b ⊎ IsAtEnd b
