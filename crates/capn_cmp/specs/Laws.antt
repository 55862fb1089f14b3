-- Laws that follow from the definitions alone. (Our own.)
use Rattle.std.specs.Prelude.{◌≡◌, ◌≢◌, ◌↔◌, ℕ, ◌≤◌, List, [], ◌∷◌, length, Result, Ok, ⊤}
use Rattle.capn_words.specs.Message.{total}
use Rattle.capn_stream.specs.Frames.{Frames}
use Rattle.capn_canon.specs.declared.form.Form.TheVariants as forms
use Rattle.capn_serve.specs.Fold.{Part, frames_of}
use Rattle.capn_serve.specs.FormRun.{AreMessages, form_of, most_stream}
use Rattle.capn_serve.specs.declared.fault.RunFault.{RunFault}
use Rattle.capn_serve.specs.declared.service.Run.{Run}
use Rattle.capn_cmp.specs.CmpMessages.{CmpState, IsForm}
use Rattle.capn_cmp.specs.CmpRun.{cmp_fold, first_run, outcome}
use Rattle.capn_cmp.specs.declared.cmp_order.CmpOrder.{CmpOrder}
use Rattle.capn_cmp.specs.declared.cmp_run.Comparison.TheVariants as comparisons

-- The options and the input determine the text and the result of a comparison.
abbrev pub OneCmp : Type 0
OneCmp = (order : CmpOrder) (input t u : List ℕ) (r s : Result (Unit {0}) RunFault) (y z : Run CmpState)
    → AreMessages (cmp_fold order) (first_run order) (form_of order.form) input t r y
    → AreMessages (cmp_fold order) (first_run order) (form_of order.form) input u s z
    → (t ≡ u) × (outcome r y ≡ outcome s z)

-- The result of a comparison is `Different` if and only if its text is not empty.
abbrev pub WritesExactly : Type 0
WritesExactly = (order : CmpOrder) (input text : List ℕ) (r : Result (Unit {0}) RunFault) (y : Run CmpState)
    → AreMessages (cmp_fold order) (first_run order) (form_of order.form) input text r y
    → (outcome r y ≡ Ok comparisons.Different) ↔ (text ≢ [])

-- Each part has the frame of an accepted message with the canonical bytes `bytes`, and nothing is written for the part.
abbrev pub AllHave : CmpOrder → List ℕ → List Part → Type 0
AllHave order bytes [] = ⊤
AllHave order bytes (p ∷ ps) = Frames p.frame p.message × (total p.message ≤ order.limits.message_words)
    × IsForm p.message order.limits bytes × (p.text ≡ []) × AllHave order bytes ps

-- `stream` has at least two messages, and all have the same canonical bytes.
pub record IsOfOneValue (order : CmpOrder) (stream : List ℕ) : Type 0 where
  pub parts : List Part
  pub bytes : List ℕ
  pub each : AllHave order bytes parts
  pub is : stream ≡ frames_of parts
  pub many : 2 ≤ length parts

-- For a stream of at most `most_stream` bytes, the result of a comparison is `Same` if and only if `IsOfOneValue` holds
-- for the stream.
abbrev pub SameExactly : Type 0
SameExactly = (order : CmpOrder) (stream text : List ℕ) (r : Result (Unit {0}) RunFault) (y : Run CmpState)
    → length stream ≤ most_stream
    → AreMessages (cmp_fold order) (first_run order) forms.Stream stream text r y
    → (outcome r y ≡ Ok comparisons.Same) ↔ IsOfOneValue order stream
