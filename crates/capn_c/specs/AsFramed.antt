-- Laws: a message that is held in segments has the result and the refusals that a frame of the same segments has.
-- (Our own.)
use Rattle.std.specs.Prelude.{◌↔◌, ℕ, List}
use Rattle.capn_stream.specs.Frames.{Frames}
use Rattle.capn_walk.specs.Limits.{Bounds}
use Rattle.capn_canon.specs.Denotes.{Answers}
use Rattle.capn_canon.specs.Refusal.{IsRefused}
use Rattle.capn_canon.specs.declared.form.Form.TheVariants as forms
use Rattle.capn_canon.specs.declared.refusal.Refusal.{Refusal}
use Rattle.capn_c.specs.Held.{AnswersHeld, IsRefusedHeld}

-- If `bs` is a frame of `message`, the segments of `message` have the canonical bytes `text` and the price `price` if
-- and only if `bs` has them.
abbrev pub HeldAreAnsweredAsFramed : Type 0
HeldAreAnsweredAsFramed = (bs : List ℕ) (message : List (List ℕ)) (limits : Bounds) → Frames bs message
    → (text : List ℕ) (price : ℕ)
    → AnswersHeld message limits text price ↔ Answers forms.Stream bs limits text price

-- If `bs` is a frame of `message`, each refusal `e` of the segments of `message` is a refusal of `bs`.
abbrev pub HeldAreRefusedAsFramed : Type 0
HeldAreRefusedAsFramed = (bs : List ℕ) (message : List (List ℕ)) (limits : Bounds) → Frames bs message
    → (e : Refusal) → IsRefusedHeld message limits e → IsRefused forms.Stream bs limits e
