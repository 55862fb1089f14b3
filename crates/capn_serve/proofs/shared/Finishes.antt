-- Lemmas for the callers of `run_messages`: a run that ends as `Ends` states has the effect `Finished`.
use Rattle.std.proofs.Common.{◌≡◌, ◌≢◌, ◌↔◌, ◌⊎◌, inl, inr, ℕ, List, [], ◌∷◌, ◌++◌, length, take, Bool, true, false}
use Rattle.std.proofs.Common.{Option, None, Some, IfSome, Result, Ok, Err, refl, ap, sym, subst, ◌∙◌, append-nil}
use Rattle.std.proofs.Math.Seq.{take-length}
use Rattle.std.specs.Io.KnownBytes.{Appends}
use Rattle.std.proofs.KnownBytes.{Appends-trans}
use Rattle.capn_words.specs.Watched.{HasBegun}
use Rattle.capn_canon.specs.declared.form.Form.{Form}
use Rattle.capn_canon.specs.declared.form.Form.TheVariants as forms
use Rattle.capn_canon.specs.declared.refusal.Refusal.{Refusal}
use Rattle.capn_serve.specs.declared.position.Position.{Position}
use Rattle.capn_serve.specs.declared.fault.RunFault.{RunFault}
use Rattle.capn_serve.specs.declared.fault.RunFault.TheVariants as faults
use Rattle.capn_serve.specs.Finish.{Ends, EndsAs, EndsForMemory, Finish, Finished, HasBegunLast, HasLast, PutsLast}
use Rattle.capn_serve.specs.Finish.{PutsText, TellsEnd, answer, last_result, last_text}
use Rattle.capn_serve.specs.Fold.{Fold, Leaves}
use Rattle.capn_serve.specs.FormRun.{AreMessages, BeginsMessages, HasWritten, IsReadSoFar, MessagesEnd, ServesMessages}
use Rattle.capn_serve.specs.WhatCame.{Came, TellsInput}
use Rattle.capn_serve.specs.inner.Last.{IsFineIfLast}
use Rattle.capn_serve.proofs.shared.AfterMessages.{begun_after, begun_text, read_so_far, written_still}

abbrev pub Ending : Type 0
Ending = Result (Unit {0}) RunFault

-- The result `r` of a loop over messages, with the type `Ending`.
abbrev ended : Ending → Ending
ended r = r

-- The result of a loop that ends with the fault `e`.
abbrev pub stopped : RunFault → Ending
stopped e = Err e

-- The result of a run that ends with the fault `e`.
abbrev pub answered : {A E : Type 0} → E → Result A E
answered e = Err e

pub one_fault : {A E : Type 0} (e g : E) → answered {A = A} e ≡ answered g → e ≡ g
one_fault e g is = let k : e ≡ g = cc in k

-- ---- a run whose loop ended with `Ok` or with a refusal

not_true : (failed : Bool) → (failed ≡ true → ⊥) → failed ≡ false
not_true false none = refl
not_true true none = absurd (none refl)

-- Neither the reader nor the writer has failed.
abbrev pub BothFine : Bool → Bool → Type 0
BothFine reader writer = (reader ≡ true → ⊥) × (writer ≡ false)

pub refused_fine : (at : Position) (r : Refusal) (reader writer : Bool)
    → ((stopped (faults.Refused at r) ≡ Err faults.Io) ↔ ((reader ≡ true) ⊎ (writer ≡ true))) → BothFine reader writer
refused_fine at r reader writer (to, from) = (
  λ h. let k = from (inl h) in absurd (cc),
  not_true writer (λ h. let k = from (inr h) in absurd (cc)),
)

pub done_fine : (reader writer : Bool)
    → ((ended (Ok tt) ≡ Err faults.Io) ↔ ((reader ≡ true) ⊎ (writer ≡ true))) → BothFine reader writer
done_fine reader writer (to, from) = (
  λ h. let k = from (inl h) in absurd (cc),
  not_true writer (λ h. let k = from (inr h) in absurd (cc)),
)

pub fine_if_last : (served : Ending) (reader writer : Bool)
    → ((served ≡ Err faults.Io) ↔ ((reader ≡ true) ⊎ (writer ≡ true))) → IsFineIfLast served writer
fine_if_last (Ok u) reader writer io = (done_fine reader writer io).1
fine_if_last (Err (faults.Refused at r)) reader writer io = (refused_fine at r reader writer io).1
fine_if_last (Err faults.Memory) reader writer io = tt
fine_if_last (Err faults.Io) reader writer io = tt
fine_if_last (Err faults.InputTooLong) reader writer io = tt

-- ---- the state after a refusal

-- No bytes of a message or a group.
nothing : Came
nothing = record { rest = []; group = [] }

tells_left : {X : Type 0} (f : Fold X) (x : X) (form : Form) (input : List ℕ) (fault : RunFault) (came : Came) (z y : X)
    → Leaves f z fault y → TellsInput f x form input fault came y → TellsInput f x form input fault came z
tells_left f x form input fault came z y (inl same) tells =
    subst (TellsInput f x form input fault came) (sym same) tells
tells_left f x forms.Stream input fault came z y (inr refuses) tells = inl (z, refuses)
tells_left f x forms.Packed input fault came z y (inr refuses) tells = inl (z, refuses)
tells_left f x forms.Bare input fault came z y (inr refuses) tells = tt

-- The fault of a run for `Memory` and the one for `Io` do not depend on the state, and no other fault of a loop gives
-- them. No outcome is the fault for `Io`. After a message that the fold refuses, the fault of the run and the text
-- about the refusal do not depend on the state.
pub record IsFaithful {X A E : Type 0} (f : Fold X) (x : X) (finish : Finish X A E) : Type 0 where
  pub memory : (y : X) → finish.stops y faults.Memory ≡ finish.stops x faults.Memory
  pub io : (y : X) → finish.stops y faults.Io ≡ finish.stops x faults.Io
  pub of_memory : (y : X) (e : RunFault) → finish.stops y e ≡ finish.stops x faults.Memory → e ≡ faults.Memory
  pub of_io : (y : X) (e : RunFault) → finish.stops y e ≡ finish.stops x faults.Io → e ≡ faults.Io
  pub not_io : (y : X) → finish.outcome y ≡ Err (finish.stops x faults.Io) → ⊥
  pub left : (z y : X) (frame : List ℕ) (message : List (List ℕ)) (r : Refusal) → f.refuses z frame message r
      → (finish.stops z (faults.Refused (f.place z) r) ≡ finish.stops y (faults.Refused (f.place z) r))
      × ((came : Came) → finish.told z (f.place z) r came ≡ finish.told y (f.place z) r came)

module _ {X A E : Type 0} (f : Fold X) (x : X) (finish : Finish X A E) (faithful : IsFaithful f x finish) (form : Form)
  where
    left_fault : (z y : X) (e : RunFault) → Leaves f z e y → finish.stops z e ≡ finish.stops y e
    left_fault z y e (inl same) = ap (λ (w : X). finish.stops w e) same
    left_fault z y e (inr (frame, message, r, refuses, is)) =
        subst (λ (g : RunFault). finish.stops z g ≡ finish.stops y g) (sym is)
        (faithful.left z y frame message r refuses).0

    left_text : (z y : X) (e : RunFault) (came : Came) → Leaves f z e y
        → last_text finish (stopped e) z came ≡ last_text finish (stopped e) y came
    left_text z y e came (inl same) = ap (λ (w : X). last_text finish (stopped e) w came) same
    left_text z y e came (inr (frame, message, r, refuses, is)) =
        subst (λ (g : RunFault). last_text finish (stopped g) z came ≡ last_text finish (stopped g) y came) (sym is)
        ((faithful.left z y frame message r refuses).1 came)

    -- `text`, the text of the messages of `input`, was written, and `served` is the result of the loop. `last` is the
    -- text after the messages, and `result` is the result of the run.
    abbrev Serves : Option (List ℕ) → Option (List ℕ) → Ending → List ℕ → Result A E → List ℕ → Type 0
    Serves c m served last result input =
        (text : List ℕ) × (z : X) × (came : Came)
        × (AreMessages f x form input text served z × TellsEnd f x form input served came z) × Appends c m text
        × (last_text finish served z came ≡ last) × (last_result finish served z ≡ result)

    -- The loop over the messages ended with `served`, and neither the reader nor the writer has failed. `last` is the
    -- text after the messages, and `result` is the result of the run.
    record IsOver (a b c m : Option (List ℕ)) (reader before : Bool) (served : Ending) (last : List ℕ)
        (result : Result A E) : Type 0 where
      pub state : X
      pub came : Came
      pub same : last_text finish served state came ≡ last
      pub exact : IfSome a (Serves c m served last result)
      pub begun : BeginsMessages f x form a b c m
      pub fine : BothFine reader before
      pub not_io : result ≡ answered (finish.stops x faults.Io) → ⊥
      pub for_memory : result ≡ answered (finish.stops x faults.Memory) → EndsForMemory f x finish form a

    -- ---- all messages were served

    over_done_exact : (a c m : Option (List ℕ)) (y : X) → IfSome a (MessagesEnd f x form c m (Ok tt) y)
        → IfSome a (Serves c m (Ok tt) (finish.closing y) (finish.outcome y))
    over_done_exact None c m y is = tt
    over_done_exact (Some input) c m y (text, are, wrote) = (text, y, nothing, (are, tt), wrote, refl, refl)

    over_done_memory : (a c m : Option (List ℕ)) (y : X) → IfSome a (MessagesEnd f x form c m (Ok tt) y)
        → finish.outcome y ≡ answered (finish.stops x faults.Memory) → EndsForMemory f x finish form a
    over_done_memory None c m y is ends = (y, tt, ends)
    over_done_memory (Some input) c m y (text, are, wrote) ends = (y, (text, are), ends)

    over_done : (a b c m : Option (List ℕ)) (reader before : Bool) (y : X)
        → ServesMessages f x form a b c m reader before (Ok tt) y
        → IsOver a b c m reader before (Ok tt) (finish.closing y) (finish.outcome y)
    over_done a b c m reader before y run = record {
      state = y;
      came = nothing;
      same = refl;
      exact = over_done_exact a c m y run.exact;
      begun = run.begun;
      fine = done_fine reader before run.io;
      not_io = λ h. faithful.not_io y h;
      for_memory = λ h. over_done_memory a c m y run.exact h;
    }

    -- ---- a refusal ended the loop

    over_refused_exact : (a c m : Option (List ℕ)) (at : Position) (r : Refusal) (y : X) (came : Came)
        → IfSome a (MessagesEnd f x form c m (stopped (faults.Refused at r)) y)
        → IfSome a (λ input. TellsEnd f x form input (stopped (faults.Refused at r)) came y)
        → IfSome a (Serves c m (stopped (faults.Refused at r)) (finish.told y at r came)
        (answered (finish.stops y (faults.Refused at r))))
    over_refused_exact None c m at r y came is tells = tt
    over_refused_exact (Some input) c m at r y came (inl memory) tells = absurd (cc)
    over_refused_exact (Some input) c m at r y came (inr (inl io)) tells = absurd (cc)
    over_refused_exact (Some input) c m at r y came (inr (inr (text, z, are, wrote, leaves))) tells =
        let tells_z = tells_left f x form input (faults.Refused at r) came z y leaves tells in (
          text,
          z,
          came,
          (are, tells_z),
          wrote,
          left_text z y (faults.Refused at r) came leaves,
          ap answered (left_fault z y (faults.Refused at r) leaves),
        )

    over_refused : (a b c m : Option (List ℕ)) (reader before : Bool) (at : Position) (r : Refusal) (y : X)
        (came : Came) → ServesMessages f x form a b c m reader before (stopped (faults.Refused at r)) y
        → IfSome a (λ input. TellsEnd f x form input (stopped (faults.Refused at r)) came y)
        → IsOver a b c m reader before (stopped (faults.Refused at r)) (finish.told y at r came)
        (answered (finish.stops y (faults.Refused at r)))
    over_refused a b c m reader before at r y came run tells = record {
      state = y;
      came = came;
      same = refl;
      exact = over_refused_exact a c m at r y came run.exact tells;
      begun = run.begun;
      fine = refused_fine at r reader before run.io;
      not_io = λ h. let k = faithful.of_io y (faults.Refused at r) (one_fault _ _ h) in absurd (cc);
      for_memory = λ h. let k = faithful.of_memory y (faults.Refused at r) (one_fault _ _ h) in absurd (cc);
    }

    -- ---- a fault ended the loop, and no text follows the messages

    still_exact : (e : RunFault) (y : X) (came : Came) (a c d : Option (List ℕ))
        → last_text finish (stopped e) y came ≡ [] → IfSome a (MessagesEnd f x form c d (stopped e) y)
        → IfSome a (λ input. TellsEnd f x form input (stopped e) came y)
        → IfSome a (EndsAs f x finish form c d (answered (finish.stops y e)))
    still_exact e y came None c d none is tells = tt
    still_exact e y came (Some input) c d none (inl memory) tells =
        inl (ap answered (ap (finish.stops y) memory ∙ faithful.memory y))
    still_exact e y came (Some input) c d none (inr (inl io)) tells =
        inr (inl (ap answered (ap (finish.stops y) io ∙ faithful.io y)))
    still_exact e y came (Some input) c d none (inr (inr (text, z, are, wrote, leaves))) tells =
        let empty = left_text z y e came leaves ∙ none in
        let joined = sym (append-nil text) ∙ ap (λ (l : List ℕ). text ++ l) (sym empty) in
        let tells_z = tells_left f x form input e came z y leaves tells in
        inr (inr (
          text,
          (text, stopped e, z, came, are, tells_z, joined, ap answered (sym (left_fault z y e leaves))),
          wrote,
        ))

    finished_still : (a b c d : Option (List ℕ)) (reader writer : Bool) (e : RunFault) (y : X) (came : Came)
        → last_text finish (stopped e) y came ≡ [] → ServesMessages f x form a b c d reader writer (stopped e) y
        → IfSome a (λ input. TellsEnd f x form input (stopped e) came y)
        → Finished f x finish form a b c d reader writer (answered (finish.stops y e))
    finished_still a b c d reader writer e y came none run tells = record {
      exact = still_exact e y came a c d none run.exact tells;
      io = (
        λ h. run.io.0 (ap stopped (faithful.of_io y e (one_fault _ _ h))),
        λ h. let k = run.io.1 h in let is : e ≡ faults.Io = cc in ap answered (ap (finish.stops y) is ∙ faithful.io y),
      );
      begun = record {
        bytes = run.begun.bytes;
        read = run.begun.read;
        bounded = run.begun.bounded;
        needed = run.begun.needed;
        written = inl run.begun.written;
      };
      heard = run.heard;
      memory = λ h. inl (run.memory (ap stopped (faithful.of_memory y e (one_fault _ _ h))));
    }

    -- ---- the text after the messages

    written_exact : (a c m d : Option (List ℕ)) (served : Ending) (last : List ℕ) (result : Result A E)
        → IfSome a (Serves c m served last result) → Appends m d last
        → IfSome a (EndsAs f x finish form c d result)
    written_exact None c m d served last result is wrote = tt
    written_exact (Some input) c m d served last result (text, z, came, (are, tells), before, same, ends) wrote =
        inr (inr (
          text ++ last,
          (text, served, z, came, are, tells, ap (λ (l : List ℕ). text ++ l) (sym same), sym ends),
          Appends-trans c m d text last before wrote,
        ))

    memory_exact : (a c d : Option (List ℕ))
        → IfSome a (EndsAs f x finish form c d (answered (finish.stops x faults.Memory)))
    memory_exact None c d = tt
    memory_exact (Some input) c d = inl refl

    failed_exact : (a c d : Option (List ℕ))
        → IfSome a (EndsAs f x finish form c d (answered (finish.stops x faults.Io)))
    failed_exact None c d = tt
    failed_exact (Some input) c d = inr (inl refl)

    parted : answered {A = A} (finish.stops x faults.Io) ≡ answered (finish.stops x faults.Memory) → ⊥
    parted h = let k = faithful.of_memory x faults.Io (one_fault _ _ h) in absurd (cc)

    module _ (a b c m : Option (List ℕ)) (reader before : Bool) (served : Ending) (last : List ℕ) (result : Result A E)
        (over : IsOver a b c m reader before served last result) where
      begins_by : (input : Option (List ℕ)) (d : Option (List ℕ)) → IfSome input (Serves c m served last result)
          → last ≢ [] → HasBegun m d last → HasBegunLast f x finish form input c d
      begins_by None d is some (count, wrote) =
          let (text, first) = begun_text f x form over.begun.bytes c m over.begun.written in (
            text,
            served,
            over.state,
            over.came,
            (tt, λ h. some (sym over.same ∙ h)),
            subst (λ (l : List ℕ). HasBegun c d (text ++ l)) (sym over.same)
                (begun_after c m d text last count first wrote),
          )
      begins_by (Some bytes) d (text, z, came, are, first, same, ends) some (count, wrote) = (
        text,
        served,
        z,
        came,
        (are, λ h. some (sym same ∙ h)),
        subst (λ (l : List ℕ). HasBegun c d (text ++ l)) (sym same) (begun_after c m d text last count first wrote),
      )

      closes_by : (input : Option (List ℕ)) → IfSome input (Serves c m served last result) → last ≢ []
          → HasLast f x finish form input
      closes_by None is some = ([], served, over.state, over.came, (tt, λ h. some (sym over.same ∙ h)))
      closes_by (Some bytes) (text, z, came, are, first, same, ends) some =
          (text, served, z, came, (are, λ h. some (sym same ∙ h)))

      neither : (after : Bool) → after ≡ false → (reader ≡ true) ⊎ (after ≡ true) → ⊥
      neither after fine (inl failed) = over.fine.0 failed
      neither after fine (inr failed) = let e : true ≡ false = sym failed ∙ fine in absurd (cc)

      written_all : (text : List ℕ) → last ≡ text → (d : Option (List ℕ)) → Appends m d last
          → HasWritten f x form over.begun.bytes c d ⊎ HasBegunLast f x finish form a c d
      written_all [] none d wrote =
          inl (written_still f x form over.begun.bytes c m d over.begun.written (subst (Appends m d) none wrote))
      written_all (byte ∷ more) some d wrote =
          inr (begins_by a d over.exact (λ h. let k : byte ∷ more ≡ [] = sym some ∙ h in absurd (cc))
          (length last, subst (Appends m d) (sym (take-length last)) wrote))

      -- Case: if `last`, the text after the messages, was written, `Finished` holds.
      finished_written : (d : Option (List ℕ)) (after : Bool) → Appends m d last → after ≡ false
          → Finished f x finish form a b c d reader after result
      finished_written d after wrote fine = record {
        exact = written_exact a c m d served last result over.exact wrote;
        io = (λ h. absurd (over.not_io h), λ h. absurd (neither after fine h));
        begun = record {
          bytes = over.begun.bytes;
          read = over.begun.read;
          bounded = read_so_far f x form over.begun.bytes last c m d over.begun.bounded wrote;
          needed = over.begun.needed;
          written = written_all last refl d wrote;
        };
        heard = λ h. absurd (over.fine.0 h);
        memory = λ h. inr (inr (over.for_memory h));
      }

      -- Case: if an allocation was refused for `last`, the text after the messages, `Finished` holds for `Memory`.
      unclosed : (d : Option (List ℕ)) (after : Bool) → d ≡ m → after ≡ false → last ≢ []
          → Finished f x finish form a b c d reader after (answered (finish.stops x faults.Memory))
      unclosed d after same fine some = record {
        exact = memory_exact a c d;
        io = (λ h. absurd (parted (sym h)), λ h. absurd (neither after fine h));
        begun = record {
          bytes = over.begun.bytes;
          read = over.begun.read;
          bounded = subst (IsReadSoFar f x form over.begun.bytes c) (sym same) over.begun.bounded;
          needed = over.begun.needed;
          written = inl (subst (HasWritten f x form over.begun.bytes c) (sym same) over.begun.written);
        };
        heard = λ h. absurd (over.fine.0 h);
        memory = λ h. inr (inl (closes_by a over.exact some));
      }

      -- Case: if the writer failed within `last`, the text after the messages, `Finished` holds for `Io`.
      broken : (d : Option (List ℕ)) (after : Bool) → last ≢ [] → HasBegun m d last → after ≡ true
          → Finished f x finish form a b c d reader after (answered (finish.stops x faults.Io))
      broken d after some begun failed = record {
        exact = failed_exact a c d;
        io = (λ h. inr failed, λ h. refl);
        begun = record {
          bytes = over.begun.bytes;
          read = over.begun.read;
          bounded = read_so_far f x form over.begun.bytes (take begun.0 last) c m d over.begun.bounded begun.1;
          needed = over.begun.needed;
          written = inr (begins_by a d over.exact some begun);
        };
        heard = λ h. absurd (over.fine.0 h);
        memory = λ h. absurd (parted h);
      }

      finished_unwritten : (y : X) (d : Option (List ℕ)) (after : Bool) (fault : RunFault)
          → PutsText last m d after (stopped fault)
          → Finished f x finish form a b c d reader after (answered (finish.stops y fault))
      finished_unwritten y d after fault (some, inl (memory, same, fine)) =
          subst (λ (e : E). Finished f x finish form a b c d reader after (answered e))
          (sym (ap (finish.stops y) memory ∙ faithful.memory y)) (unclosed d after same fine some)
      finished_unwritten y d after fault (some, inr (io, begun, failed)) =
          subst (λ (e : E). Finished f x finish form a b c d reader after (answered e))
          (sym (ap (finish.stops y) io ∙ faithful.io y)) (broken d after some begun failed)

    -- ---- each end of the loop

    module _ (a b c m d : Option (List ℕ)) (reader before after : Bool) (y : X) (came : Came) where
      kept : (e : RunFault) → last_text finish (stopped e) y came ≡ [] → d ≡ m → after ≡ before
          → ServesMessages f x form a b c m reader before (stopped e) y
          → IfSome a (λ input. TellsEnd f x form input (stopped e) came y)
          → Finished f x finish form a b c d reader after (answered (finish.stops y e))
      kept e none same fine run tells =
          subst (λ (w : Bool). Finished f x finish form a b c d reader w (answered (finish.stops y e))) (sym fine)
          (subst (λ (n : Option (List ℕ)). Finished f x finish form a b c n reader before
          (answered (finish.stops y e))) (sym same) (finished_still a b c m reader before e y came none run tells))

      by_ends : (served put : Ending) → ServesMessages f x form a b c m reader before served y
          → IfSome a (λ input. TellsEnd f x form input served came y)
          → PutsLast served (last_text finish served y came) m d before after put
          → Finished f x finish form a b c d reader after (answer finish served put y)
      by_ends (Ok u) (Ok v) run tells (wrote, fine) =
          finished_written a b c m reader before (Ok tt) (finish.closing y) (finish.outcome y)
          (over_done a b c m reader before y run) d after wrote fine
      by_ends (Ok u) (Err fault) run tells put =
          finished_unwritten a b c m reader before (Ok tt) (finish.closing y) (finish.outcome y)
          (over_done a b c m reader before y run) y d after fault put
      by_ends (Err (faults.Refused at r)) (Ok v) run tells (wrote, fine) =
          finished_written a b c m reader before (stopped (faults.Refused at r)) (finish.told y at r came)
          (answered (finish.stops y (faults.Refused at r))) (over_refused a b c m reader before at r y came run tells) d
          after wrote fine
      by_ends (Err (faults.Refused at r)) (Err fault) run tells put =
          finished_unwritten a b c m reader before (stopped (faults.Refused at r)) (finish.told y at r came)
          (answered (finish.stops y (faults.Refused at r))) (over_refused a b c m reader before at r y came run tells) y
          d after fault put
      by_ends (Err faults.Memory) (Ok v) run tells (done, same, fine) = kept faults.Memory refl same fine run tells
      by_ends (Err faults.Memory) (Err fault) run tells (done, same, fine) = absurd (cc)
      by_ends (Err faults.Io) (Ok v) run tells (done, same, fine) = kept faults.Io refl same fine run tells
      by_ends (Err faults.Io) (Err fault) run tells (done, same, fine) = absurd (cc)
      by_ends (Err faults.InputTooLong) (Ok v) run tells (done, same, fine) =
          kept faults.InputTooLong refl same fine run tells
      by_ends (Err faults.InputTooLong) (Err fault) run tells (done, same, fine) = absurd (cc)

    pub finished : (a b c d : Option (List ℕ)) (reader writer : Bool) (r : Result A E)
        → Ends f x finish form a b c d reader writer r → Finished f x finish form a b c d reader writer r
    finished a b c d reader writer r ends =
        subst (Finished f x finish form a b c d reader writer) (sym ends.is)
        (by_ends a b c ends.middle d reader ends.failed writer ends.last ends.came ends.served ends.put ends.loop
        ends.tells ends.puts)
