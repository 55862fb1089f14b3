-- Definitions for the steps of a run of `make`.
use Rattle.std.specs.Prelude.{◌≡◌, ◌≢◌, ◌⊎◌, ◌≤◌, ◌<◌, ⊤, ℕ, ◌+◌, ◌*◌, ◌-◌, ◌^◌, ◌==◌, List, [], ◌∷◌, ◌++◌}
use Rattle.std.specs.Prelude.{length, take, drop}
use Rattle.std.specs.Prelude.{Bool, true, false, not, cond}
use Rattle.std.specs.Prelude.{Option, Some, None, Result, Ok, Err, Vec}
use Rattle.std.specs.Io.KnownBytes.{Appends}
use Rattle.capn_words.specs.Watched.{HasBegun}
use Rattle.capn_value.specs.Tree.{Tree}
use Rattle.capn_value.specs.FirstCap.{first_cap}
use Rattle.capn_value.specs.Text.{show_text}
use Rattle.capn_text.specs.Streams.{Place, end_line, ended_lines, MayGoOn, few}
use Rattle.capn_text.specs.declared.fault.TextFault.{TextFault}
use Rattle.capn_text.specs.declared.fault.TextFault.TheVariants as texts
use Rattle.capn_canon.specs.declared.form.Form.{Form}
use Rattle.capn_canon.specs.declared.form.Form.TheVariants as forms
use Rattle.capn_make.specs.WrittenValue.{IsMakeable, IsWrittenValue, AreMade}
use Rattle.capn_make.specs.MadeInput.{AreFirst, IsTextRefused, IsUnended, IsWrong, IsNotOne, Follows}
use Rattle.capn_make.specs.MadeInput.{line_after, MakesEach, MakesOne}
use Rattle.capn_make.specs.MakeRun.{EndsAs, HasBegunText}
use Rattle.capn_make.specs.Endings.{IsRefusedForGood, IsLostForGood}
use Rattle.capn_make.specs.declared.fault.MakeFault.{MakeFault}
use Rattle.capn_make.specs.declared.fault.MakeFault.TheVariants as faults

-- `made` is what `form` writes for `values`, whose texts are at the front of `input`, and `place` is after those texts.
-- In form `Bare`, `values` has at most one value.
pub record HasMade (form : Form) (input : List ℕ) (place : Place) (made : List ℕ) : Type 0 where
  pub values : List Tree
  pub first : AreFirst values input place.rest
  pub are : AreMade form values made
  pub line : place.line ≡ line_after values
  pub few : form ≡ forms.Bare → length values ≤ 1

-- A run on exactly `input` in the given form has the given result, and `made` is what it writes. For a fault in form
-- `Bare`, nothing is stated on `made`.
abbrev pub IsMadeSo : Form → List ℕ → List ℕ → Result (Unit {0}) MakeFault → Type 0
IsMadeSo forms.Stream input made r = MakesEach forms.Stream input made r
IsMadeSo forms.Packed input made r = MakesEach forms.Packed input made r
IsMadeSo forms.Bare input made (Ok u) = MakesOne input made (Ok u)
IsMadeSo forms.Bare input made (Err fault) = IsNotOne input fault

-- `fault` is `Capability n index` for some `n` and `index`.
abbrev pub HasCapability : MakeFault → Type 0
HasCapability fault = (n : ℕ) × (index : ℕ) × (fault ≡ faults.Capability n index)

-- A step parsed the texts of `input` up to `place`, with the result of a run on `input` (`IsMadeSo`), or with `Memory`.
-- `HasMade` holds at `place`, except after `Memory` or `Capability`. After `Ok`, no bytes are left at `place`.
abbrev pub GoesOn : Form → List ℕ → Place → List ℕ → Result (Unit {0}) MakeFault → Type 0
GoesOn form input place made (Ok u) = HasMade form input place made × IsMadeSo form input made (Ok u)
    × (place.rest ≡ [])
GoesOn form input place made (Err fault) = (fault ≡ faults.Memory)
    ⊎ ((HasCapability fault ⊎ HasMade form input place made) × IsMadeSo form input made (Err fault))

-- Line `n` is wrong whatever bytes `more` follow those at `place`. Either no text at `place` continues with line `n`,
-- or line `n` follows the only text that form `Bare` takes, and begins no text.
abbrev pub IsLostAt : Form → Place → ℕ → Type 0
IsLostAt form place n =
    ((form ≡ forms.Bare → place.line ≡ 1) × ((more : List ℕ) → IsWrong place.line (place.rest ++ more) n))
    ⊎ ((form ≡ forms.Bare) × (place.line ≡ 1 → ⊥)
    × ((more : List ℕ) → Follows place.line (place.rest ++ more) (faults.NotText n)))

-- If `form` is `Bare` and `place.line` is not 1, at most `few` bytes are at `place`. In any other case, `MayGoOn` holds
-- for the bytes at `place`.
abbrev pub IsOpenAt : Form → Place → Type 0
IsOpenAt form place = ((form ≡ forms.Bare → place.line ≡ 1) × MayGoOn place.rest)
    ⊎ ((form ≡ forms.Bare) × (place.line ≡ 1 → ⊥) × (length place.rest ≤ few))

-- Let `fault` be `NotText n`. If `cut` is true, `IsOpenAt` holds at `place`, and `IsUnended` for its bytes. If `cut` is
-- false, line `n` is wrong whatever bytes follow (`IsLostAt`).
abbrev pub TellsCut : Form → Place → Bool → MakeFault → Type 0
TellsCut form place cut fault = (n : ℕ) → fault ≡ faults.NotText n
    → (cut ≡ true → IsOpenAt form place × IsUnended place.rest) × (cut ≡ false → IsLostAt form place n)

-- Let `fault` be `NotText n`. If `cut` is true, `MayGoOn` and `IsUnended` hold for the bytes at `place`. If `cut` is
-- false, line `n` is wrong whatever bytes `more` follow.
abbrev pub TellsNext : Place → Bool → MakeFault → Type 0
TellsNext place cut fault = (n : ℕ) → fault ≡ faults.NotText n
    → (cut ≡ true → MayGoOn place.rest × IsUnended place.rest)
    × (cut ≡ false → (more : List ℕ) → IsWrong place.line (place.rest ++ more) n)

-- Let `fault` be `NotText n`. If `cut` is true, at most `few` bytes are at `place`, and `IsUnended` holds for them. If
-- `cut` is false, `Follows` holds with `fault`, whatever bytes `more` follow.
abbrev pub TellsEnd : Place → Bool → MakeFault → Type 0
TellsEnd place cut fault = (n : ℕ) → fault ≡ faults.NotText n
    → (cut ≡ true → (length place.rest ≤ few) × IsUnended place.rest)
    × (cut ≡ false → (more : List ℕ) → Follows place.line (place.rest ++ more) (faults.NotText n))

-- `rest` begins at `line`, and the bytes of `rest` that cause the fault are complete. If the fault is `NotText n`, line
-- `n` has its newline.
abbrev pub IsWholeFrom : ℕ → List ℕ → MakeFault → Type 0
IsWholeFrom line rest faults.Memory = ⊤
IsWholeFrom line rest faults.Io = ⊤
IsWholeFrom line rest faults.InputTooLong = ⊤
IsWholeFrom line rest (faults.NotText n) = n < line + ended_lines rest
IsWholeFrom line rest (faults.Misfit n m) = ⊤
IsWholeFrom line rest (faults.Capability n index) = ⊤
IsWholeFrom line rest (faults.Another n) = ⊤
IsWholeFrom line rest faults.NoText = ⊥

-- True if the fault is `NotText` and `cut` is false.
abbrev pub is_lost : MakeFault → Bool → Bool
is_lost faults.Memory cut = false
is_lost faults.Io cut = false
is_lost faults.InputTooLong cut = false
is_lost (faults.NotText n) cut = not cut
is_lost (faults.Misfit n m) cut = false
is_lost (faults.Capability n index) cut = false
is_lost (faults.Another n) cut = false
is_lost faults.NoText cut = false

-- `input` is not refused for good. If `few` or more bytes of `input` follow its first `n` bytes, `IsLostForGood` does
-- not hold for these `n` bytes.
abbrev pub IsNotYet : Form → List ℕ → Type 0
IsNotYet form input = (IsRefusedForGood form input → ⊥)
    × ((n : ℕ) → n + few ≤ length input → IsLostForGood form (take n input) → ⊥)

-- If a fault is given, `IsMadeSo` holds with that fault, whatever bytes `more` follow `input`. If no fault is given,
-- `HasMade` holds at `place`, `IsNotYet` for `input`, and `IsUnended` for the bytes at `place`.
abbrev pub TellsRefusal : Form → List ℕ → Place → List ℕ → Option MakeFault → Type 0
TellsRefusal form input place made (Some fault) = (more : List ℕ) → IsMadeSo form (input ++ more) made (Err fault)
TellsRefusal form input place made None = HasMade form input place made × IsNotYet form input × IsUnended place.rest

-- `front` is a prefix of `input`. The lengths of `front` and `rest` together are the length of `input` plus `tested`.
-- `IsNotYet` holds for `front`.
pub record HasTested (form : Form) (tested : ℕ) (input rest : List ℕ) : Type 0 where
  pub front : List ℕ
  pub more : List ℕ
  pub are : input ≡ front ++ more
  pub size : length front + length rest ≡ length input + tested
  pub not_yet : IsNotYet form front

-- The line `end` is at no place in `bytes`.
abbrev pub HoldsNoEnd : List ℕ → Type 0
HoldsNoEnd bytes = (front : List ℕ) (rest : List ℕ) → bytes ≢ front ++ (end_line ++ rest)

-- True if the second list begins with the first list.
abbrev pub begins_with : List ℕ → List ℕ → Bool
begins_with [] bytes = true
begins_with (c ∷ cs) [] = false
begins_with (c ∷ cs) (d ∷ ds) = cond (c == d) (begins_with cs ds) false

-- True if the line `end` is at some place in the bytes.
abbrev pub holds_end : List ℕ → Bool
holds_end [] = false
holds_end (c ∷ cs) = cond (begins_with end_line (c ∷ cs)) true (holds_end cs)

-- The sum of `line` and the length of `rest` is below 2^64. If `rest` begins at `line`, the numbers of its lines are
-- also below 2^64.
abbrev pub HasRoom : ℕ → List ℕ → Type 0
HasRoom line rest = line + length rest < 2 ^ 64

-- In form `Stream` or `Packed`, `made` is empty, since all messages were written. In form `Bare`, `written` is empty,
-- since no message was written.
abbrev pub IsKept : Form → List ℕ → List ℕ → Type 0
IsKept forms.Stream written made = made ≡ []
IsKept forms.Packed written made = made ≡ []
IsKept forms.Bare written made = written ≡ []

-- If the result is `Ok`, some `text` was written, `old` is `text ++ new`, and `IsKept` holds. If the result is a fault,
-- it is `Io`, the writer failed after a prefix of `old`, and the form is not `Bare`.
abbrev pub WritesMade : Form → Option (List ℕ) → Option (List ℕ) → Bool → List ℕ → List ℕ
    → Result (Unit {0}) MakeFault → Type 0
WritesMade form c d failed old new (Ok u) = (failed ≡ false)
    × (text : List ℕ) × Appends c d text × (old ≡ text ++ new) × IsKept form text new
WritesMade form c d failed old new (Err fault) = (failed ≡ true) × (fault ≡ faults.Io) × (form ≡ forms.Bare → ⊥)
    × HasBegun c d old

-- A run has read `input` and has written `written`. `written ++ made` are the messages of the texts before `rest`,
-- which begins at `line`. `IsUnended` holds for `rest`, and `HasTested` for `tested`, `input` and `rest`.
pub record IsUnderWay (form : Form) (input : List ℕ) (c d : Option (List ℕ)) (made rest : List ℕ) (line tested : ℕ)
    : Type 0 where
  pub written : List ℕ
  pub wrote : Appends c d written
  pub kept : IsKept form written made
  pub made_so_far : HasMade form input (record { rest = rest; line = line }) (written ++ made)
  pub tested_so_far : HasTested form tested input rest
  pub short : length rest ≤ 4 * tested
  pub unended : IsUnended rest

-- The state at the beginning of an input: `made` and `rest` are empty, `line` is 1, and `tested` is 0.
abbrev pub IsFresh : List ℕ → List ℕ → ℕ → ℕ → Type 0
IsFresh made rest line tested = (made ≡ []) × (rest ≡ []) × (line ≡ 1) × (tested ≡ 0)

-- `HasMade` and `HasTested` hold as in `IsUnderWay`. Bytes may have been added to `rest` after its first `before`
-- bytes. If the line `end` is nowhere after the first `before` - 3 bytes of `rest`, `IsUnended` holds for `rest`.
-- Whatever bytes `more` follow `input`, a prefix of the messages was written (`HasBegunText`).
pub record HasCome (form : Form) (input : List ℕ) (c d : Option (List ℕ)) (made rest : List ℕ)
    (line tested before : ℕ) : Type 0 where
  pub written : List ℕ
  pub wrote : Appends c d written
  pub kept : IsKept form written made
  pub made_so_far : HasMade form input (record { rest = rest; line = line }) (written ++ made)
  pub tested_so_far : HasTested form tested input rest
  pub unended : HoldsNoEnd (drop (before - 3) rest) → IsUnended rest
  pub begun : (more : List ℕ) → HasBegunText form (input ++ more) c d

-- `EndsAs` and `HasBegunText` hold for an input of `bytes`, which were read, and then `more`. If the result `r` is
-- `Memory`, `bytes` are not empty.
abbrev pub GivesMade : Form → List ℕ → List ℕ → Option (List ℕ) → Option (List ℕ) → Result (Unit {0}) MakeFault → Type 0
GivesMade form bytes more c d r = EndsAs form c d r (bytes ++ more) × HasBegunText form (bytes ++ more) c d
    × (r ≡ Err faults.Memory → bytes ≢ [])

-- True if the fault from parsing a text is `Cut`, the fault of an unfinished text.
abbrev pub is_cut : TextFault → Bool
is_cut texts.Memory = false
is_cut (texts.Line n) = false
is_cut (texts.Cut n) = true
is_cut (texts.Misfit m) = false

-- The fault of a run, from the fault of parsing its next text, which begins at `line`.
abbrev pub unread : ℕ → TextFault → MakeFault
unread line texts.Memory = faults.Memory
unread line (texts.Line n) = faults.NotText n
unread line (texts.Cut n) = faults.NotText n
unread line (texts.Misfit m) = faults.Misfit line m

-- The result is the bytes that the form writes for `v`, if `v` has no capability. Otherwise it is `Memory`, or
-- `Capability` at `line` with the `index` of the first capability of `v`.
abbrev pub MakesValue : {A : Type 0} → Form → ℕ → Tree → Result (Vec ℕ A) MakeFault → Type 0
MakesValue form line v (Ok piece) = IsWrittenValue form v piece.items × (first_cap v ≡ None)
MakesValue form line v (Err fault) = (fault ≡ faults.Memory)
    ⊎ ((index : ℕ) × (fault ≡ faults.Capability line index) × (first_cap v ≡ Some index))

-- The bytes at `old` end with those at `new`: `new` is at `old`, or after it.
abbrev pub IsAfter : Place → Place → Type 0
IsAfter old new = (front : List ℕ) × (old.rest ≡ front ++ new.rest)

-- For `None`, no bytes are at `old`. For a `piece`, the text of some `v` is at `old`, `piece` is written for `v`, and
-- `new` is after the text. A fault is `Memory`, or the fault with which the text at `old` is refused. In the second
-- case `new` is `old` unless `HasCapability` holds.
abbrev pub MakesNext : {A : Type 0} → Form → Place → Place → Result (Option (Vec ℕ A)) MakeFault → Type 0
MakesNext form old new (Ok None) = (old.rest ≡ []) × (new ≡ old)
MakesNext form old new (Ok (Some piece)) = (v : Tree) × IsMakeable v
    × (old.rest ≡ show_text v ++ (end_line ++ new.rest)) × IsWrittenValue form v piece.items
    × (new.line + ended_lines new.rest ≡ old.line + ended_lines old.rest)
MakesNext form old new (Err fault) = (fault ≡ faults.Memory)
    ⊎ ((HasCapability fault ⊎ (new ≡ old)) × IsTextRefused old.line old.rest fault)

-- If the result is `Ok`, no bytes are at `place`. If it is `fault`, the bytes at `place`, which follow the only text,
-- are refused with `fault` (`Follows`).
abbrev pub EndsOne : Place → Result (Unit {0}) MakeFault → Type 0
EndsOne place (Ok u) = place.rest ≡ []
EndsOne place (Err fault) = Follows place.line place.rest fault
