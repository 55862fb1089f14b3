-- A fold over the messages of a stream: what each message writes, the state after each message, and how a run ends.
-- (Page: serialization over a stream; the order of the faults is our own.)
use Rattle.std.specs.Prelude.{◌≡◌, ◌≢◌, ◌⊎◌, ℕ, ◌+◌, ◌≤◌, List, [], ◌∷◌, ◌++◌, length, Bool, true, Option}
use Rattle.std.specs.Prelude.{false, Some, None, Result, Ok, Err}
use Rattle.std.specs.List.{flat_map}
use Rattle.capn_words.specs.Message.{total}
use Rattle.capn_stream.specs.Frames.{Frames}
use Rattle.capn_stream.specs.FrameRefusal as frames
use Rattle.capn_stream.specs.declared.fault.FrameFault.{FrameFault}
use Rattle.capn_stream.specs.declared.fault.FrameFault.TheVariants as frame_faults
use Rattle.capn_canon.specs.declared.refusal.Refusal.{Refusal}
use Rattle.capn_canon.specs.declared.refusal.Refusal.TheVariants as refusals
use Rattle.capn_serve.specs.declared.position.Position.{Position}
use Rattle.capn_serve.specs.declared.service.Run.{Run}
use Rattle.capn_serve.specs.declared.fault.RunFault.{RunFault}
use Rattle.capn_serve.specs.declared.fault.RunFault.TheVariants as faults

-- A fold with states of type `X`: `step` relates a message to its text and the next state, and `refuses` relates a
-- message to its refusal. `place` is the position of the next message, and `most` is the greatest number of words of a
-- message. In a state that is `done` no further message is served.
pub record Fold (X : Type 0) : Type 1 where
  pub step : X → List ℕ → List (List ℕ) → List ℕ → X → Type 0
  pub refuses : X → List ℕ → List (List ℕ) → Refusal → Type 0
  pub place : X → Position
  pub most : ℕ
  pub done : X → Bool

-- `P` holds, and the first argument is `false`. The first argument says whether a state is `done`.
abbrev pub IfGoing : Bool → Type 0 → Type 0
IfGoing true P = ⊥
IfGoing false P = P

-- The position of the message after `frame`.
abbrev pub after : Position → List ℕ → Position
after at frame = record { index = at.index + 1; offset = at.offset + length frame }

-- The fold of a service, with runs of the service as states. A state is `done` if the service is `done` at the position
-- of the run.
abbrev pub fold_until : {S : Type 0} → (S → Position → List ℕ → List (List ℕ) → List ℕ → S → Type 0)
    → (S → Position → List ℕ → List (List ℕ) → Refusal → Type 0) → (S → Position → Bool) → ℕ → Fold (Run S)
fold_until serves refuses done most = record {
  step = λ x frame message text y. serves x.service x.at frame message text y.service × (y.at ≡ after x.at frame);
  refuses = λ x frame message r. refuses x.service x.at frame message r;
  place = λ x. x.at;
  most = most;
  done = λ x. done x.service x.at;
}

-- The `done` of a service that serves all messages: `false` at every position.
abbrev pub never : {S : Type 0} → S → Position → Bool
never s at = false

-- The fold of a service that serves all messages.
abbrev pub fold_of : {S : Type 0} → (S → Position → List ℕ → List (List ℕ) → List ℕ → S → Type 0)
    → (S → Position → List ℕ → List (List ℕ) → Refusal → Type 0) → ℕ → Fold (Run S)
fold_of serves refuses most = fold_until serves refuses never most

-- The bytes of one frame, its message, and the text that is written for the message.
pub record Part : Type 0 where
  pub frame : List ℕ
  pub message : List (List ℕ)
  pub text : List ℕ

-- The frame of `part`.
abbrev pub frame_of : Part → List ℕ
frame_of part = part.frame

-- The text of `part`.
abbrev pub text_of : Part → List ℕ
text_of part = part.text

-- The frames of `parts`, joined.
abbrev pub frames_of : List Part → List ℕ
frames_of parts = flat_map frame_of parts

-- The texts of `parts`, joined.
abbrev pub texts_of : List Part → List ℕ
texts_of parts = flat_map text_of parts

module _ {X : Type 0} (f : Fold X) where
  -- `part.frame` is a frame of `part.message`, and that message has at most `f.most` words. The state `x` is not
  -- `done`.
  pub record IsPart (x : X) (part : Part) : Type 0 where
    pub frame : Frames part.frame part.message
    pub room : total part.message ≤ f.most
    pub going : f.done x ≡ false

  -- The messages of the parts are served one after the other, from the state `x` to the state `y`. Each message writes
  -- the text of its part.
  abbrev pub AreServed : X → List Part → X → Type 0
  AreServed x [] y = x ≡ y
  AreServed x (p ∷ ps) y =
      (mid : X) × IsPart x p × f.step x p.frame p.message p.text mid × AreServed mid ps y

  -- `bytes` are the frames of `parts`, followed by `rest`. The messages of `parts` are served from the state `x` to
  -- `y`.
  pub record AreParts (x : X) (bytes : List ℕ) (parts : List Part) (rest : List ℕ) (y : X) : Type 0 where
    pub each : AreServed x parts y
    pub is : bytes ≡ frames_of parts ++ rest

-- The end of a run at the position `at`, if the given fault is the reason why no complete frame begins there. For
-- `Empty` and `Cut` the end is the fault `behind`, if there is one. Otherwise `Empty` gives `Ok`, `Memory` gives
-- `Memory`, and any other fault gives `Refused`.
abbrev pub end_of : Position → FrameFault → Option RunFault → Result (Unit {0}) RunFault
end_of at frame_faults.Empty (Some fault) = Err fault
end_of at frame_faults.Empty None = Ok tt
end_of at frame_faults.Cut (Some fault) = Err fault
end_of at frame_faults.Cut None = Err (faults.Refused at (refusals.Frame frame_faults.Cut))
end_of at frame_faults.Memory behind = Err faults.Memory
end_of at (frame_faults.TooManySegments n) behind =
    Err (faults.Refused at (refusals.Frame (frame_faults.TooManySegments n)))
end_of at (frame_faults.TooManyWords n) behind = Err (faults.Refused at (refusals.Frame (frame_faults.TooManyWords n)))
end_of at frame_faults.Failed behind = Err (faults.Refused at (refusals.Frame frame_faults.Failed))

module _ {X : Type 0} (f : Fold X) where
  -- `rest` begins with no complete frame, for the reason `e`. `ending` is the end of the run that `end_of` gives for
  -- `e`.
  abbrev pub EndsUnframed : X → List ℕ → Option RunFault → Result (Unit {0}) RunFault → Type 0
  EndsUnframed x rest behind ending =
      (e : FrameFault) × (e ≢ frame_faults.Memory) × frames.IsFrameRefused rest f.most e
      × (ending ≡ end_of (f.place x) e behind)

  -- `rest` begins with a message that is refused in the state `x`, and `ending` is the refusal of that message.
  abbrev pub EndsRefused : X → List ℕ → Result (Unit {0}) RunFault → Type 0
  EndsRefused x rest ending =
      (frame more : List ℕ) × (message : List (List ℕ)) × (r : Refusal) × (rest ≡ frame ++ more)
      × Frames frame message × (total message ≤ f.most) × f.refuses x frame message r
      × (ending ≡ Err (faults.Refused (f.place x) r))

  -- `fault` is the refusal of some message in the state `x`.
  abbrev pub RefusesOne : X → RunFault → Type 0
  RefusesOne x fault =
      (frame : List ℕ) × (message : List (List ℕ)) × (r : Refusal) × f.refuses x frame message r
      × (fault ≡ faults.Refused (f.place x) r)

  -- `y` is the state `x`, or `fault` is the refusal of some message in the state `x`.
  abbrev pub Leaves : X → RunFault → X → Type 0
  Leaves x fault y = (x ≡ y) ⊎ RefusesOne x fault

  -- `ending` is the end of a run in the state `y`. If the first argument is `true`, `y` is `done`, and `ending` is
  -- `Ok`. If the first argument is `false`, `EndsUnframed` or `EndsRefused` holds for `rest`.
  abbrev pub EndsBy : Bool → X → List ℕ → Option RunFault → Result (Unit {0}) RunFault → Type 0
  EndsBy true y rest behind ending = ending ≡ Ok tt
  EndsBy false y rest behind ending = EndsUnframed y rest behind ending ⊎ EndsRefused y rest ending

  -- A run over `bytes` from the state `x` writes `text`, reaches the state `y`, and ends there with `ending`. `behind`
  -- is the fault, if there is one, that comes after `bytes`. `text` is the joined texts of the messages in `parts`.
  pub record IsFolded (x : X) (bytes : List ℕ) (behind : Option RunFault) (text : List ℕ)
      (ending : Result (Unit {0}) RunFault) (y : X) : Type 0 where
    pub parts : List Part
    pub rest : List ℕ
    pub are : AreParts f x bytes parts rest y
    pub joined : text ≡ texts_of parts
    pub ends : EndsBy (f.done y) y rest behind ending
