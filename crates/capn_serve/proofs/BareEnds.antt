-- Lemmas for `read_bare` and `run_bare`: the end of a run over a bare input, derived from what was read.
use Rattle.std.proofs.Common.{◌≡◌, ◌⊎◌, ◌↔◌, inl, inr, ℕ, ◌≤◌, List, [], ◌∷◌, ◌++◌, length, take, Bool, true, false}
use Rattle.std.proofs.Common.{Option, None, Some, IfSome, Result, Ok, Err, Vec, OnOk, IsErrOf, IsOkUnless, refl, ap}
use Rattle.std.proofs.Common.{sym, subst, ◌∙◌, append-nil, arith}
use Rattle.std.specs.Io.KnownBytes.{Appends}
use Rattle.std.proofs.KnownBytes.{Appends-nil, Consumes-nil}
use Rattle.std.proofs.Math.Seq.{take-nil, take_all}
use Rattle.capn_words.specs.Watched.{HasBegun}
use Rattle.capn_words.specs.Message.{IsBare, ReadsBare}
use Rattle.capn_words.specs.declared.bare.BareFault.{BareFault}
use Rattle.capn_canon.specs.declared.refusal.Refusal.TheVariants as refusals
use Rattle.capn_serve.specs.declared.position.Position.{Position}
use Rattle.capn_serve.specs.declared.whole_input.WholeInput.{WholeInput}
use Rattle.capn_serve.specs.declared.fault.RunFault.{RunFault}
use Rattle.capn_serve.specs.declared.fault.RunFault.TheVariants as faults
use Rattle.capn_serve.specs.Fold.{Fold, IfGoing, Leaves}
use Rattle.capn_serve.specs.Outgoing.{Adds, Breaks, RunsOut, outgoing, sent}
use Rattle.capn_serve.specs.WholeInput.{HasGivenAll, IsBeginning, IsUntaken, TakesAll, most_input}
use Rattle.capn_serve.specs.BareRun.{Begins, EndsAs, EndsBare, HasWritten, WritesBare, WritesBy, IsShortBare, IsUnbare}
use Rattle.capn_serve.specs.BareRun.{RefusesBare, RunsBare, ServesBare}
use Rattle.capn_serve.proofs.Sends.{adds_all, adds_begun, adds_sent, begun_less, breaks_rest}
use Rattle.capn_serve.proofs.shared.Until.{if_going, not_both}

abbrev Ending : Type 0
Ending = Result (Unit {0}) RunFault

abbrev stopped : RunFault → Ending
stopped fault = Err fault

-- `fault` says why a bare input was not read to its end, or that the input is not one segment.
abbrev Unread : Position → Option (List ℕ) → Option (List ℕ) → Bool → RunFault → Type 0
Unread at a b failed fault =
    IsUntaken a b failed fault ⊎ ((bytes : List ℕ) × HasGivenAll a b failed bytes × IsUnbare at bytes fault)

-- ---- what was read

pub unread_bare : (at : Position) (a b : Option (List ℕ)) (failed : Bool) (fault : RunFault)
    → IsUntaken a b failed fault ⊎ ((bytes : List ℕ) × HasGivenAll a b failed bytes × ⊥)
    → Unread at a b failed fault
unread_bare at a b failed fault (inl untaken) = inl untaken
unread_bare at a b failed fault (inr (bytes, all, none)) = absurd none

module _ {A : Type 0} (at : Position) (a b : Option (List ℕ)) (failed : Bool) (n : ℕ) (input : WholeInput A)
    (takes : TakesAll {T = WholeInput A} (IsBeginning n) a b failed (Ok input)) where
  -- Case: the input is no longer than a segment, and all of its bytes are the result.
  pub read_short : input.len ≤ n → TakesAll {T = Vec ℕ A} (IsShortBare at) a b failed (Ok input.bytes)
  read_short short = let is = takes.2 in (
    takes.0,
    takes.1,
    sym (take_all n takes.0 (omega (arith, short, is.1))) ∙ is.0,
  )

  -- Case: the input is longer than a segment, and `e` refuses its bytes.
  pub read_long : (e : BareFault) (len : ℕ) → len ≡ input.len
      → ((bytes : List ℕ) → length bytes ≡ len → ReadsBare bytes (Err e))
      → Unread at a b failed (faults.Refused at (refusals.Bare e))
  read_long e len same why = inr (takes.0, takes.1, (e, refl, why takes.0 (takes.2.1 ∙ sym same)))

-- ---- a fact about the input of a reader, if that input is known

some_so : (a : Option (List ℕ)) (P Q : List ℕ → Type 0) → ((all : List ℕ) → P all → Q all) → IfSome a P → IfSome a Q
some_so None P Q change h = tt
some_so (Some all) P Q change h = change all h

some_all : (a : Option (List ℕ)) (P : List ℕ → Type 0) → ((all : List ℕ) → P all) → IfSome a P
some_all None P h = tt
some_all (Some all) P h = h all

is_given : (a b : Option (List ℕ)) (failed : Bool) (bytes : List ℕ) → HasGivenAll a b failed bytes
    → IfSome a (λ all. bytes ≡ all)
is_given None b failed bytes h = tt
is_given (Some all) None failed bytes h = absurd h.given.read
is_given (Some all) (Some rest) failed bytes h =
    sym (h.given.read ∙ ap (λ (r : List ℕ). bytes ++ r) h.ended ∙ append-nil bytes)

-- ---- how the run ends

module _ {X : Type 0} (f : Fold X) (x y : X) (going : f.done x ≡ false) (a b c : Option (List ℕ)) where
  ends_bare : (bytes : List ℕ) (fault : RunFault) → EndsBare f x bytes fault → IfGoing (f.done x) (EndsBare f x bytes
      fault)
  ends_bare bytes fault why = if_going (f.done x) (EndsBare f x bytes fault) going why

  writes_bare : (bytes text : List ℕ) → length bytes ≤ most_input → WritesBare f x bytes text y
      → WritesBy f x (f.done x) bytes text y
  writes_bare bytes text short writes = subst (λ (m : Bool). WritesBy f x m bytes text y) (sym going) (short, writes)

  none_needed : (bytes : List ℕ) → f.done x ≡ true → bytes ≡ []
  none_needed bytes done = absurd (not_both (f.done x) done going)

  -- Case: `fault` refuses `bytes` or their message, and nothing was written.
  ends_none : (d : Option (List ℕ)) (failed : Bool) (bytes : List ℕ) (fault : RunFault) → HasGivenAll a b failed bytes
      → IsUnbare (f.place x) bytes fault ⊎ RefusesBare f x bytes fault → Appends c d [] → Leaves f x fault y
      → IfSome a (EndsAs f x c d (Err fault) y)
  ends_none d failed bytes fault all why wrote leaves =
      some_so a (λ input. bytes ≡ input) (EndsAs f x c d (Err fault) y)
      (λ input same. subst (EndsAs f x c d (Err fault) y) same (inr (inr (
        ends_bare bytes fault (inr (all.within, why)),
        wrote,
        leaves,
      )))) (is_given a b failed bytes all)

  ends_unread : (d : Option (List ℕ)) (fault : RunFault) → (fault ≡ faults.Memory) ⊎ (fault ≡ faults.Io)
      → IfSome a (EndsAs f x c d (Err fault) y)
  ends_unread d fault (inl memory) = some_all a (EndsAs f x c d (Err fault) y) (λ input. inl memory)
  ends_unread d fault (inr io) = some_all a (EndsAs f x c d (Err fault) y) (λ input. inr (inl io))

  heard_none : (d : Option (List ℕ)) → Appends c d [] → IfGoing (f.done x) (Appends c d [])
  heard_none d wrote = if_going (f.done x) (Appends c d []) going wrote

  io_none : (r w : Bool) (fault : RunFault) → r ≡ false → w ≡ false → (fault ≡ faults.Io → ⊥)
      → (stopped fault ≡ Err faults.Io) ↔ ((r ≡ true) ⊎ (w ≡ true))
  io_none r w fault fine good other = (
    λ h. absurd (other (cc)),
    λ h. absurd (elim h [
      | inl bad ↦ (let e : true ≡ false = sym bad ∙ fine in cc)
      | inr bad ↦ (let e : true ≡ false = sym bad ∙ good in cc)
    ]),
  )

  known : (bytes : List ℕ) (fault : RunFault) → IsUnbare (f.place x) bytes fault ⊎ RefusesBare f x bytes fault
      → fault ≡ faults.Io → ⊥
  known bytes fault (inl (e, is, why)) io =
      let bad : faults.Refused (f.place x) (refusals.Bare e) ≡ faults.Io = sym is ∙ io in cc
  known bytes fault (inr (words, r, bare, refuses, is)) io =
      let bad : faults.Refused (f.place x) r ≡ faults.Io = sym is ∙ io in cc

  module _ {A : Type 0} (r w : Bool) (bytes : List ℕ) (input : Vec ℕ A)
      (takes : TakesAll {T = Vec ℕ A} (IsShortBare (f.place x)) a b r (Ok input)) (same : bytes ≡ input.items) where
    is_all : takes.0 ≡ bytes
    is_all = takes.2 ∙ sym same

    all_given : HasGivenAll a b r bytes
    all_given = subst (HasGivenAll a b r) is_all takes.1

    read_fine : r ≡ true → ⊥
    read_fine e = let bad : true ≡ false = sym e ∙ all_given.given.fine in cc

    begins_so : (d : Option (List ℕ)) → HasWritten f x bytes c d → Begins f x a b c d
    begins_so d wrote = record {
      bytes = bytes;
      read = all_given.given.read;
      bounded = all_given.given.bounded;
      needed = none_needed bytes;
      written = wrote;
    }

    nothing : (d : Option (List ℕ)) (kept : List ℕ) → Adds (sent c) (outgoing d kept) [] → Appends c d []
    nothing d kept none =
        let begun = adds_begun c (outgoing d kept) [] none in subst (Appends c d) (take-nil begun.0) begun.1

    beginning : (d : Option (List ℕ)) (kept words : List ℕ) → IsBare bytes words
        → RunsOut (f.step x bytes (words ∷ [])) (f.refuses x bytes (words ∷ [])) (sent c) (outgoing d kept)
        → HasWritten f x bytes c d
    beginning d kept words bare (inl none) = inl (nothing d kept none.0)
    beginning d kept words bare (inr (text, mid, count, step, adds)) =
        let begun = begun_less c d count text (adds_begun c (outgoing d kept) (take count text) adds) in
        inr (text, mid, begun.0, (words, bare, step), begun.1)

    -- Case: `fault` refuses `bytes` or their message.
    runs_none : (d : Option (List ℕ)) (kept : List ℕ) (fault : RunFault) → w ≡ false
        → IsUnbare (f.place x) bytes fault ⊎ RefusesBare f x bytes fault → Adds (sent c) (outgoing d kept) []
        → Leaves f x fault y → RunsBare f x a b c d r w (Err fault) y
    runs_none d kept fault good why none leaves = record {
      exact = ends_none d r bytes fault all_given why (nothing d kept none) leaves;
      io = io_none r w fault all_given.given.fine good (known bytes fault why);
      begun = begins_so d (inl (nothing d kept none));
      heard = λ e. heard_none d (nothing d kept none);
      memory = λ e. inr all_given.ended;
    }

    -- Case: serving `bytes` ended with `fault`.
    runs_unserved : (d : Option (List ℕ)) (kept : List ℕ) (fault : RunFault)
        → ServesBare f x bytes (sent c) (outgoing d kept) w (Err fault) y → RunsBare f x a b c d r w (Err fault) y
    runs_unserved d kept fault (inr (why, none, good, same)) =
        runs_none d kept fault good (inl why) none (inl same)
    runs_unserved d kept (faults.Refused at e) (inl (words, bare, (place, refuses, none, good))) =
        runs_none d kept (faults.Refused at e) good
        (inr (words, e, bare, refuses, ap (λ (p : Position). faults.Refused p e) place)) none
        (inr (bytes, words ∷ [], e, refuses, ap (λ (p : Position). faults.Refused p e) place))
    runs_unserved d kept faults.Memory (inl (words, bare, (begun, good))) = record {
      exact = ends_unread d faults.Memory (inl refl);
      io = io_none r w faults.Memory all_given.given.fine good (λ e. cc);
      begun = begins_so d (beginning d kept words bare begun);
      heard = λ e. absurd (read_fine e);
      memory = λ e. inr all_given.ended;
    }
    runs_unserved d kept faults.Io (inl (words, bare, ((text, mid, count, step, wrote), broken))) = record {
      exact = ends_unread d faults.Io (inr refl);
      io = (λ h. inr broken, λ h. refl);
      begun = begins_so d (inr (text, mid, count, (words, bare, step), wrote));
      heard = λ e. absurd (read_fine e);
      memory = λ e. inr all_given.ended;
    }
    runs_unserved d kept faults.InputTooLong (inl (words, bare, none)) = absurd none

    pub runs_stopped : (d : Option (List ℕ)) (start kept : List ℕ) (fault : RunFault) → start ≡ []
        → ServesBare f x bytes (outgoing c start) (outgoing d kept) w (Err fault) y
        → RunsBare f x a b c d r w (Err fault) y
    runs_stopped d start kept fault none served =
        runs_unserved d kept fault
        (subst (λ (l : List ℕ). ServesBare f x bytes (outgoing c l) (outgoing d kept) w (Err fault) y) none served)

    -- Case: the message was served, and then the text `kept` was written, or the writer failed.
    runs_sent : (d e : Option (List ℕ)) (kept : List ℕ) (fine : Bool) (ending : Ending)
        → ServesBare f x bytes (sent c) (outgoing d kept) fine (Ok tt) y → OnOk ending (Appends d e kept)
        → HasBegun d e kept → (IsErrOf ending faults.Io ↔ (w ≡ true)) → IsOkUnless ending faults.Io
        → RunsBare f x a b c e r w ending y
    runs_sent d e kept fine ending (words, bare, (text, step, adds, good)) ok (count, wrote) io only = record {
      exact = sent_ends ending ok only;
      io = sent_io ending io only;
      begun = begins_so e (inr (text, y, begun.0, (words, bare, step), begun.1));
      heard = λ h. absurd (read_fine h);
      memory = λ h. inr all_given.ended;
    }
      where
        begun : (n : ℕ) × Breaks (sent c) (sent e) n text
        begun = breaks_rest (sent c) d e kept text count adds wrote

        sent_ends : (ending : Ending) → OnOk ending (Appends d e kept) → IsOkUnless ending faults.Io
            → IfSome a (EndsAs f x c e ending y)
        sent_ends (Ok u) ok only =
            let all = adds_sent c e text (adds_all (sent c) d e kept text adds ok) in
            some_so a (λ input. bytes ≡ input) (EndsAs f x c e (Ok u) y)
            (λ input same. subst (EndsAs f x c e (Ok u) y) same
            (text, writes_bare bytes text all_given.within (words, bare, step), all)) (is_given a b r bytes all_given)
        sent_ends (Err fault) ok only =
            some_all a (EndsAs f x c e (Err fault) y) (λ input. inr (inl only))

        sent_io : (ending : Ending) → (IsErrOf ending faults.Io ↔ (w ≡ true)) → IsOkUnless ending faults.Io
            → (ending ≡ Err faults.Io) ↔ ((r ≡ true) ⊎ (w ≡ true))
        sent_io (Ok u) io only = (
          λ h. absurd (cc),
          λ h. absurd (elim h [ inl bad ↦ read_fine bad | inr bad ↦ (let e = io.1 bad in cc) ]),
        )
        sent_io (Err fault) io only = (λ h. inr (io.0 (ap stopped only)), λ h. ap stopped only)

    pub runs_written : (d e : Option (List ℕ)) (start kept piece : List ℕ) (fine : Bool) (ending : Ending)
        → start ≡ [] → ServesBare f x bytes (outgoing c start) (outgoing d kept) fine (Ok tt) y → piece ≡ kept
        → OnOk ending (Appends d e piece) → HasBegun d e piece → (IsErrOf ending faults.Io ↔ (w ≡ true))
        → IsOkUnless ending faults.Io → RunsBare f x a b c e r w ending y
    runs_written d e start kept piece fine ending none served is ok begun io only =
        runs_sent d e kept fine ending
        (subst (λ (l : List ℕ). ServesBare f x bytes (outgoing c l) (outgoing d kept) fine (Ok tt) y) none served)
        (subst (λ (l : List ℕ). OnOk ending (Appends d e l)) is ok)
        (subst (λ (l : List ℕ). HasBegun d e l) is begun) io only

-- Case: the state `x` is `done` before the first read.
pub runs_done : {X : Type 0} (f : Fold X) (x : X) (a c : Option (List ℕ)) (r w : Bool) → f.done x ≡ true → r ≡ false
    → w ≡ false → RunsBare f x a a c c r w (Ok tt) x
runs_done f x a c r w done fine good = record {
  exact = some_all a (EndsAs f x c c (Ok tt) x)
      (λ input. ([], subst (λ (m : Bool). WritesBy f x m input [] x) (sym done) (refl, refl), Appends-nil c));
  io = (λ h. absurd (cc), λ h. absurd (elim h [ inl bad ↦ not_both r bad fine | inr bad ↦ not_both w bad good ]));
  begun = record {
    bytes = [];
    read = Consumes-nil a;
    bounded = omega arith;
    needed = λ h. refl;
    written = inl (Appends-nil c);
  };
  heard = λ h. absurd (not_both r h fine);
  memory = λ h. absurd (cc);
}
