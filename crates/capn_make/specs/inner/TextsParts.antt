-- Definitions for the steps of a run over texts with lists between quotes.
use Rattle.std.specs.Prelude.{◌≡◌, ◌≢◌, ◌≤◌, ℕ, List, [], ◌++◌, length, true}
use Rattle.std.specs.Prelude.{Option, Result, Ok, Err}
use Rattle.capn_text.specs.Streams.{ended_lines}
use Rattle.capn_text.specs.PlainForm.{plain, plain_after, digits_after, count_to}
use Rattle.capn_text.specs.Unquoting.{Unquoting, digits_on, plain_on}
use Rattle.capn_canon.specs.declared.form.Form.{Form}
use Rattle.capn_make.specs.MakeRun.{HasBegunText}
use Rattle.capn_make.specs.MadeTexts.{EndsTexts, at_own}
use Rattle.capn_make.specs.inner.RunParts.{IsUnderWay}
use Rattle.capn_make.specs.declared.fault.MakeFault.{MakeFault}
use Rattle.capn_make.specs.declared.fault.MakeFault.TheVariants as faults

-- `bytes` were read, and `input` is the plain form that the converter `q` gave for them. The lines of digits that `q`
-- has forgotten are `gone`. They are all at or before `line`.
pub record HasSeen (q : Unquoting) (line : ℕ) (bytes input : List ℕ) : Type 0 where
  pub gone : List ℕ
  pub plain : (more : List ℕ) → plain_after [] (bytes ++ more) ≡ input ++ plain_on q more
  pub digits : (more : List ℕ)
      → digits_after 1 [] (bytes ++ more) ≡ gone ++ (q.digits ++ digits_on q more)
  pub passed : q.passed ≡ length gone
  pub before : (n : ℕ) → line ≤ n → count_to n gone ≡ length gone
  pub quiet : ended_lines q.front ≡ 0
  pub empty : q.through ≡ true → q.front ≡ []

-- `bytes` were read, and `input` is the plain form that the converter `q` gave for them (`HasSeen`). `IsUnderWay` holds
-- for `input`.
pub record IsUnderTexts (form : Form) (bytes : List ℕ) (c d : Option (List ℕ)) (made rest : List ℕ)
    (line tested : ℕ) (q : Unquoting) : Type 0 where
  pub input : List ℕ
  pub seen : HasSeen q line bytes input
  pub way : IsUnderWay form input c d made rest line tested

-- The result with the line `n` of its fault, if it has one, replaced by `own n`.
abbrev pub ending_at : (ℕ → ℕ) → Result (Unit {0}) MakeFault → Result (Unit {0}) MakeFault
ending_at own (Ok u) = Ok u
ending_at own (Err fault) = Err (at_own own fault)

-- `EndsTexts` holds for an input of `bytes`, which were read, and then `more`. `HasBegunText` holds for its plain form.
-- If the result `r` is `Memory`, `bytes` are not empty.
abbrev pub GivesTexts : Form → List ℕ → List ℕ → Option (List ℕ) → Option (List ℕ) → Result (Unit {0}) MakeFault
    → Type 0
GivesTexts form bytes more c d r = EndsTexts form c d r bytes (bytes ++ more)
    × HasBegunText form (plain (bytes ++ more)) c d × (r ≡ Err faults.Memory → bytes ≢ [])
