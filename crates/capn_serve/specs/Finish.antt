-- The end of a run over messages: the text after the messages, the result, and the bytes that the run reads and writes.
-- (Our own.)
use Rattle.std.specs.Prelude.{◌≡◌, ◌≢◌, ◌⊎◌, ◌↔◌, ℕ, List, [], ◌++◌, Bool, true, false, Option, IfErr, IfSome}
use Rattle.std.specs.Prelude.{Result, Ok, Err}
use Rattle.std.specs.Io.KnownBytes.{Consumes, Appends}
use Rattle.capn_words.specs.Watched.{HasBegun}
use Rattle.capn_canon.specs.declared.form.Form.{Form}
use Rattle.capn_canon.specs.declared.refusal.Refusal.{Refusal}
use Rattle.capn_serve.specs.declared.fault.RunFault.{RunFault}
use Rattle.capn_serve.specs.declared.fault.RunFault.TheVariants as faults
use Rattle.capn_serve.specs.declared.position.Position.{Position}
use Rattle.capn_serve.specs.declared.service.Run.{Run}
use Rattle.capn_serve.specs.Fold.{Fold}
use Rattle.capn_serve.specs.FormRun.{AreMessages, HasWritten, IsNeededSoFar, IsReadSoFar, KeepsUp, MayNeedMemory}
use Rattle.capn_serve.specs.FormRun.{ServesMessages}
use Rattle.capn_serve.specs.WhatCame.{Came, TellsInput}

-- The end of a run with states of type `X`, results of type `A` and faults of type `E`. `closing` is the text after the
-- last message. `told` is the text about a refusal that ended the loop over the messages: its arguments are the last
-- state, the position, the refusal, and the bytes of the refused message that were read and kept. `outcome` is the
-- result of a run whose loop ended with `Ok`. `stops` is the fault of a run after a `RunFault`.
pub record Finish (X A E : Type 0) : Type 0 where
  pub closing : X → List ℕ
  pub told : X → Position → Refusal → Came → List ℕ
  pub outcome : X → Result A E
  pub stops : X → RunFault → E

-- The end of the runs of a service. The state of a run is the service with the position of the next message.
abbrev pub finish_of : {S A E : Type 0} → (S → Position → List ℕ) → (S → Position → Refusal → Came → List ℕ)
    → (S → Position → Result A E) → (S → Position → RunFault → E) → Finish (Run S) A E
finish_of closing told outcome stops = record {
  closing = λ y. closing y.service y.at;
  told = λ y at r came. told y.service at r came;
  outcome = λ y. outcome y.service y.at;
  stops = λ y fault. stops y.service y.at fault;
}

-- The `closing` of a service without a text after the last message.
abbrev pub no_closing : {S : Type 0} → S → Position → List ℕ
no_closing s at = []

-- The `told` of a service without a text about a refusal.
abbrev pub nothing_told : {S : Type 0} → S → Position → Refusal → Came → List ℕ
nothing_told s at r came = []

-- The `outcome` of a service whose runs find nothing: `Ok`.
abbrev pub nothing_found : {S : Type 0} → S → Position → Result (Unit {0}) RunFault
nothing_found s at = Ok tt

-- The `stops` of a service whose runs end with the fault of the loop itself.
abbrev pub same_fault : {S : Type 0} → S → Position → RunFault → RunFault
same_fault s at fault = fault

-- The end of the runs of a service that adds nothing to the loop: no text after the messages, and the result of the
-- loop as the result of the run.
abbrev pub plain_finish : {S : Type 0} → Finish (Run S) (Unit {0}) RunFault
plain_finish = finish_of no_closing nothing_told nothing_found same_fault

-- After `Ok`, `text` was written. After a fault, `text` is not empty: after `Memory` nothing was written, and after
-- `Io` the writer failed within `text`. `failed` says whether the writer has failed.
abbrev pub PutsText : List ℕ → Option (List ℕ) → Option (List ℕ) → Bool → Result (Unit {0}) RunFault → Type 0
PutsText text old new failed (Ok u) = Appends old new text × (failed ≡ false)
PutsText text old new failed (Err fault) =
    (text ≢ [])
    × (((fault ≡ faults.Memory) × (new ≡ old) × (failed ≡ false))
    ⊎ ((fault ≡ faults.Io) × HasBegun old new text × (failed ≡ true)))

-- If the loop over the messages ended with `Ok` or with a refusal, the writer had not failed before, and `PutsText`
-- holds. After any other fault nothing was written, and the result is `Ok`.
abbrev pub PutsLast : Result (Unit {0}) RunFault → List ℕ → Option (List ℕ) → Option (List ℕ) → Bool → Bool
    → Result (Unit {0}) RunFault → Type 0
PutsLast (Ok u) text old new before after put = PutsText text old new after put
PutsLast (Err (faults.Refused at r)) text old new before after put = PutsText text old new after put
PutsLast (Err faults.Memory) text old new before after put = (put ≡ Ok tt) × (new ≡ old) × (after ≡ before)
PutsLast (Err faults.Io) text old new before after put = (put ≡ Ok tt) × (new ≡ old) × (after ≡ before)
PutsLast (Err faults.InputTooLong) text old new before after put = (put ≡ Ok tt) × (new ≡ old) × (after ≡ before)

-- If `served` is `Err fault`, `TellsInput` holds for `input`, `fault`, `came` and `y`. If `served` is `Ok`, nothing is
-- stated.
abbrev pub TellsEnd : {X : Type 0} → Fold X → X → Form → List ℕ → Result (Unit {0}) RunFault → Came → X → Type 0
TellsEnd f x form input served came y = IfErr served (λ fault. TellsInput f x form input fault came y)

module _ {X A E : Type 0} (finish : Finish X A E) where
  -- The text after the messages. If the loop ended with `Ok` in the state `y`, it is the closing text. If a refusal
  -- ended the loop, it is the text about this refusal. After any other fault it is empty.
  abbrev pub last_text : Result (Unit {0}) RunFault → X → Came → List ℕ
  last_text (Ok u) y came = finish.closing y
  last_text (Err (faults.Refused at r)) y came = finish.told y at r came
  last_text (Err faults.Memory) y came = []
  last_text (Err faults.Io) y came = []
  last_text (Err faults.InputTooLong) y came = []

  -- The result of a run whose loop ended in the state `y`, and whose text after the messages was written.
  abbrev pub last_result : Result (Unit {0}) RunFault → X → Result A E
  last_result (Ok u) y = finish.outcome y
  last_result (Err fault) y = Err (finish.stops y fault)

  -- The result of a run. `put` is the result of writing the text after the messages. A fault of `put` ends the run.
  abbrev pub answer : Result (Unit {0}) RunFault → Result (Unit {0}) RunFault → X → Result A E
  answer served (Ok u) y = last_result served y
  answer served (Err fault) y = Err (finish.stops y fault)

module _ {X A E : Type 0} (f : Fold X) (x : X) (finish : Finish X A E) where
  -- A run in its steps. The loop over the messages ended with `served` in the state `last`, and then the text after the
  -- messages was written. `r` is the result. `a` and `b` are the reader before and after the run, `c` and `d` the
  -- writer, and `middle` is the writer after the loop.
  pub record Ends (form : Form) (a b c d : Option (List ℕ)) (reader_failed writer_failed : Bool) (r : Result A E)
      : Type 0 where
    pub served : Result (Unit {0}) RunFault
    pub last : X
    pub came : Came
    pub middle : Option (List ℕ)
    pub failed : Bool
    pub loop : ServesMessages f x form a b c middle reader_failed failed served last
    pub tells : IfSome a (λ input. TellsEnd f x form input served came last)
    pub put : Result (Unit {0}) RunFault
    pub puts : PutsLast served (last_text finish served last came) middle d failed writer_failed put
    pub is : r ≡ answer finish served put last

  -- `text` is the complete text that a run over `input` writes: the text of its messages, and then the text after the
  -- messages. `r` is the result of the run.
  abbrev pub IsWholeText : Form → List ℕ → List ℕ → Result A E → Type 0
  IsWholeText form input text r =
      (messages : List ℕ) × (served : Result (Unit {0}) RunFault) × (y : X) × (came : Came)
      × AreMessages f x form input messages served y × TellsEnd f x form input served came y
      × (text ≡ messages ++ last_text finish served y came) × (r ≡ last_result finish served y)

  -- The result `r` is the fault for `Memory` or the fault for `Io`, or a run over `input` writes `text` and has the
  -- result `r`. In the last case `text` was written.
  abbrev pub EndsAs : Form → Option (List ℕ) → Option (List ℕ) → Result A E → List ℕ → Type 0
  EndsAs form old new r input =
      (r ≡ Err (finish.stops x faults.Memory))
      ⊎ ((r ≡ Err (finish.stops x faults.Io))
      ⊎ ((text : List ℕ) × IsWholeText form input text r × Appends old new text))

  -- `last_text served y came` is a text after the messages of `input`, and is not empty. `messages` is the text of
  -- these messages. If `input` is not known, `messages`, `served`, `y` and `came` are arbitrary.
  abbrev pub IsLast : Form → Option (List ℕ) → List ℕ → Result (Unit {0}) RunFault → X → Came → Type 0
  IsLast form input messages served y came =
      IfSome input (λ bytes. AreMessages f x form bytes messages served y × TellsEnd f x form bytes served came y)
      × (last_text finish served y came ≢ [])

  -- A prefix was written of the text of the messages of `input`, joined to the text after the messages.
  abbrev pub HasBegunLast : Form → Option (List ℕ) → Option (List ℕ) → Option (List ℕ) → Type 0
  HasBegunLast form input old new =
      (messages : List ℕ) × (served : Result (Unit {0}) RunFault) × (y : X) × (came : Came)
      × IsLast form input messages served y came × HasBegun old new (messages ++ last_text finish served y came)

  -- `input` has a text after its messages, and that text is not empty.
  abbrev pub HasLast : Form → Option (List ℕ) → Type 0
  HasLast form input =
      (messages : List ℕ) × (served : Result (Unit {0}) RunFault) × (y : X) × (came : Came)
      × IsLast form input messages served y came

  -- All messages of `input` were served, and the outcome is the fault for `Memory`. If `input` is not known, the last
  -- state `y` is arbitrary.
  abbrev pub EndsForMemory : Form → Option (List ℕ) → Type 0
  EndsForMemory form input = (y : X)
      × IfSome input (λ bytes. (messages : List ℕ) × AreMessages f x form bytes messages (Ok tt) y)
      × (finish.outcome y ≡ Err (finish.stops x faults.Memory))

  -- A reader returned `bytes`, no more than the run needs. A prefix was written: either of the text of the messages in
  -- `bytes`, or of that text joined to the text after the messages of the complete input `a`.
  pub record Begins (form : Form) (a b c d : Option (List ℕ)) : Type 0 where
    pub bytes : List ℕ
    pub read : Consumes a b bytes
    pub bounded : IsReadSoFar f x form bytes c d
    pub needed : IsNeededSoFar f x form bytes
    pub written : HasWritten f x form bytes c d ⊎ HasBegunLast form a c d

  -- The effect of a run that ends with the result `r`. `a` and `b` are the reader before and after the run, and `c` and
  -- `d` the writer.
  pub record Finished (form : Form) (a b c d : Option (List ℕ)) (reader_failed writer_failed : Bool) (r : Result A E)
      : Type 0 where
    pub exact : IfSome a (EndsAs form c d r)
    pub io : (r ≡ Err (finish.stops x faults.Io)) ↔ ((reader_failed ≡ true) ⊎ (writer_failed ≡ true))
    pub begun : Begins form a b c d
    pub heard : reader_failed ≡ true → KeepsUp f x form a b c d
    pub memory : r ≡ Err (finish.stops x faults.Memory)
        → MayNeedMemory form a b ⊎ (HasLast form a ⊎ EndsForMemory form a)
