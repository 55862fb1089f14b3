-- Laws on texts, the messages that a run writes for them, and the result of the run. (Our own.)
use Rattle.std.specs.Prelude.{◌≡◌, ◌↔◌, ◌≤◌, ◌<◌, ◌^◌, ℕ, List, [], ◌∷◌, ◌++◌, length, Result, Ok, Err}
use Rattle.std.specs.List.{AllByRecursion}
use Rattle.capn_words.specs.Message.{IsBare}
use Rattle.capn_stream.specs.Frames.{Frames}
use Rattle.capn_value.specs.Tree.{Tree}
use Rattle.capn_value.specs.Fits.{Fits}
use Rattle.capn_value.specs.InRange.{InRange}
use Rattle.capn_text.specs.Showable.{IsShowable}
use Rattle.capn_text.specs.Streams.{stream_text}
use Rattle.capn_text.specs.PlainForm.{plain}
use Rattle.capn_text.specs.PlainLaws.{quoted_stream}
use Rattle.capn_canon.specs.Layout.{canon}
use Rattle.capn_canon.specs.declared.form.Form.{Form}
use Rattle.capn_canon.specs.declared.form.Form.TheVariants as forms
use Rattle.capn_make.specs.WrittenValue.{IsMakeable, AreMade, framed}
use Rattle.capn_make.specs.MadeInput.{AreFirst, IsStuck, IsUnended, Makes, MakesEach, MakesOne, line_after}
use Rattle.capn_make.specs.Endings.{Ends, IsFrom, IsWhole, IsRefusedForGood}
use Rattle.capn_make.specs.declared.fault.MakeFault.{MakeFault}

-- Let `text` be what `form` writes for `vs`. If `IsMakeable` holds for each value of `vs`, a run on their texts writes
-- `text` and ends with `Ok` (`MakesEach`).
abbrev pub ShownAreMade : Type 0
ShownAreMade = (form : Form) (vs : List Tree) (text : List ℕ) → AllByRecursion IsMakeable vs → AreMade form vs text
    → MakesEach form (stream_text vs) text (Ok tt)

-- Let `IsMakeable` hold for each value of `vs`. If a run on their texts writes `text` and has the result `ending`, then
-- `ending` is `Ok`, and `text` is what `form` writes for `vs`.
abbrev pub ShownAreMadeOnly : Type 0
ShownAreMadeOnly = (form : Form) (vs : List Tree) (text : List ℕ) (ending : Result (Unit {0}) MakeFault)
    → AllByRecursion IsMakeable vs → MakesEach form (stream_text vs) text ending
    → (ending ≡ Ok tt) × AreMade form vs text

-- If `IsMakeable` holds for `v`, a run in form `Bare` on the text of `v` writes the canonical bytes of `v` and ends
-- with `Ok`.
abbrev pub OneShownIsMade : Type 0
OneShownIsMade = (v : Tree) → IsMakeable v → MakesOne (stream_text (v ∷ [])) (canon v) (Ok tt)

-- Let `IsMakeable` hold for `v`. If a run in form `Bare` on the text of `v` writes `text` and has the result `ending`,
-- then `ending` is `Ok`, and `text` is the canonical bytes of `v`.
abbrev pub OneShownIsMadeOnly : Type 0
OneShownIsMadeOnly = (v : Tree) (text : List ℕ) (ending : Result (Unit {0}) MakeFault) → IsMakeable v
    → MakesOne (stream_text (v ∷ [])) text ending → (ending ≡ Ok tt) × (text ≡ canon v)

-- Let `MakesEach` hold for `input`, `text` and `r`. If it also holds for `input`, `other` and `s`, then `r` is `s`, and
-- `text` and `other` are both written for one list `vs` of values.
abbrev pub OneMaking : Type 0
OneMaking = (form : Form) (input text other : List ℕ) (r s : Result (Unit {0}) MakeFault)
    → MakesEach form input text r → MakesEach form input other s
    → (vs : List Tree) × (rest : List ℕ) × AreFirst vs input rest × AreMade form vs text × AreMade form vs other
    × (r ≡ s)

-- Let `MakesOne` hold for `input`, `text` and `r`. If it also holds for `input`, `other` and `s`, then `text` is
-- `other`, and `r` is `s`.
abbrev pub OneBareMaking : Type 0
OneBareMaking = (input text other : List ℕ) (r s : Result (Unit {0}) MakeFault) → MakesOne input text r
    → MakesOne input other s → (text ≡ other) × (r ≡ s)

-- Let the bytes of `input` that cause `fault` be complete (`IsWhole`). If a run on `input` writes `text` and ends with
-- `fault`, a run on `input ++ more` also writes `text` and ends with `fault`.
abbrev pub FaultStays : Type 0
FaultStays = (form : Form) (input more text : List ℕ) (fault : MakeFault) → IsWhole input fault
    → Makes form input text (Err fault) → Makes form (input ++ more) text (Err fault)

-- If `input` is refused for good in `form`, `input ++ more` is refused for good in `form`.
abbrev pub RefusalStays : Type 0
RefusalStays = (form : Form) (input more : List ℕ) → IsRefusedForGood form input
    → IsRefusedForGood form (input ++ more)

-- Let `bytes` be the texts of `vs` and then `rest`, and also the texts of `ws` and then `left` (`AreFirst`). If
-- `IsStuck` holds for `rest` and for `left`, then `vs` is `ws`, and `rest` is `left`.
abbrev pub OneDeciding : Type 0
OneDeciding = (vs ws : List Tree) (bytes rest left : List ℕ) → AreFirst vs bytes rest → IsStuck rest
    → AreFirst ws bytes left → IsStuck left → (vs ≡ ws) × (rest ≡ left)

-- Let `bytes` be the texts of `vs` and then `rest`, and `bytes ++ more` the texts of `ws` and then `left` (`AreFirst`).
-- If `IsStuck` holds for `rest` and for `left`, then `ws` begins with `vs`.
abbrev pub DecidedStay : Type 0
DecidedStay = (vs ws : List Tree) (bytes more rest left : List ℕ) → AreFirst vs bytes rest → IsStuck rest
    → AreFirst ws (bytes ++ more) left → IsStuck left → (us : List Tree) × (ws ≡ vs ++ us)

-- If `IsUnended` holds for `rest`, `IsStuck` holds for `rest`.
abbrev pub UnendedIsStuck : Type 0
UnendedIsStuck = (rest : List ℕ) → IsUnended rest → IsStuck rest

-- Let `input` be refused for good in a `form` other than `Bare`, and let `rest` follow the texts of `vs` in `input`. If
-- `IsStuck` holds for `rest`, it holds for `rest ++ more`.
abbrev pub RefusedIsStuck : Type 0
RefusedIsStuck = (form : Form) (vs : List Tree) (input rest more : List ℕ) → (form ≡ forms.Bare → ⊥)
    → IsRefusedForGood form input → AreFirst vs input rest → IsStuck rest → IsStuck (rest ++ more)

-- Let `input` begin with the texts of `vs`, which has at most one value in form `Bare`. If a run on `input` ends with
-- `fault`, then `fault` names no line before `line_after vs`.
abbrev pub RefusedAfter : Type 0
RefusedAfter = (form : Form) (vs : List Tree) (input rest text : List ℕ) (fault : MakeFault) → AreFirst vs input rest
    → (form ≡ forms.Bare → length vs ≤ 1) → Makes form input text (Err fault) → IsFrom (line_after vs) fault

-- Let `input` begin with the texts of `vs`, and also with the texts of `ws`. If `IsUnended` holds for the bytes after
-- the texts of `ws`, then `line_after vs` is at most `line_after ws`.
abbrev pub UnendedIsLast : Type 0
UnendedIsLast = (vs ws : List Tree) (input rest left : List ℕ) → AreFirst vs input rest → AreFirst ws input left
    → IsUnended left → line_after vs ≤ line_after ws

-- If `r` and `s` are results of a run on `input` in `form`, `r` is `s`.
abbrev pub OneEnding : Type 0
OneEnding = (form : Form) (input : List ℕ) (r s : Result (Unit {0}) MakeFault) → Ends form input r → Ends form input s
    → r ≡ s

-- If a run on `input` in `form` writes `text` and has the result `r`, `Ends form input r` holds.
abbrev pub MakingEnds : Type 0
MakingEnds = (form : Form) (input text : List ℕ) (r : Result (Unit {0}) MakeFault) → Makes form input text r
    → Ends form input r

-- If `Fits` and `InRange` hold for `v`, its canonical bytes are the bytes of some words `ws`. `framed` of these bytes
-- is the frame of a message whose only segment is `ws`.
abbrev pub FramedAreFrames : Type 0
FramedAreFrames = (v : Tree) → Fits v → InRange v
    → (ws : List ℕ) × IsBare (canon v) ws × Frames (framed (canon v)) (ws ∷ [])

-- If `text` and `other` are both written for `vs` in form `Stream`, `text` is `other`.
abbrev pub OneTextInFrames : Type 0
OneTextInFrames = (vs : List Tree) (text other : List ℕ) → AreMade forms.Stream vs text
    → AreMade forms.Stream vs other → text ≡ other

-- Let `IsShowable` hold for the values of `vs`, and let their texts with lists between quotes have fewer than 2^64
-- bytes. A run on the plain form of these texts writes `text` and has the result `r` exactly if a run on the texts
-- without quotes does.
abbrev pub QuotedAreMade : Type 0
QuotedAreMade = (form : Form) (vs : List Tree) (text : List ℕ) (r : Result (Unit {0}) MakeFault)
    → AllByRecursion IsShowable vs → length (quoted_stream vs) < 2 ^ 64
    → (Makes form (plain (quoted_stream vs)) text r ↔ Makes form (stream_text vs) text r)
