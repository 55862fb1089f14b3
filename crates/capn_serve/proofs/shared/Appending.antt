-- Lemmas for a service that appends its texts, and calls `flush_long` at the end of each text.
use Rattle.std.proofs.Common.{◌≡◌, inl, inr, ℕ, List, [], Bool, false, Option, take, Result, Ok, Err, IsErrAnd, sym}
use Rattle.std.proofs.Common.{subst, ◌∙◌, append-nil}
use Rattle.std.specs.Io.KnownBytes.{Appends}
use Rattle.std.proofs.KnownBytes.{Appends-nil}
use Rattle.capn_canon.specs.declared.refusal.Refusal.{Refusal}
use Rattle.capn_serve.specs.declared.position.Position.{Position}
use Rattle.capn_serve.specs.declared.fault.ServeFault.{ServeFault}
use Rattle.capn_serve.specs.declared.fault.ServeFault.TheVariants as faults
use Rattle.capn_serve.specs.Outgoing.{Flushes, outgoing}
use Rattle.capn_serve.specs.Service.{DoesService, PutsMessage}

abbrev Ending : Type 0
Ending = Result (Unit {0}) ServeFault

abbrev done : Ending
done = Ok tt

abbrev stopped : ServeFault → Ending
stopped fault = Err fault

module _ {S : Type 0} (serves : S → Position → List ℕ → List (List ℕ) → List ℕ → S → Type 0)
    (refuses : S → Position → List ℕ → List (List ℕ) → Refusal → Type 0) (s t : S) (at : Position) (frame : List ℕ)
    (message : List (List ℕ)) (c : Option (List ℕ)) (old new : List ℕ) where
  -- Case: the message is refused, or an allocation was refused, and nothing was appended.
  put_stopped : (failed : Bool) (fault : ServeFault) → failed ≡ false
      → PutsMessage serves refuses s at frame message old new (stopped fault) t
      → DoesService serves refuses s at frame message (outgoing c old) (outgoing c new) failed (stopped fault) t
  put_stopped failed faults.Memory fine (inl (text, u, served), same) =
      (inr (text, u, 0, served, ([], Appends-nil c, same ∙ sym (append-nil old))), fine)
  put_stopped failed faults.Memory fine (inr free, same) =
      (inl (([], Appends-nil c, same ∙ sym (append-nil old)), free), fine)
  put_stopped failed faults.Io fine none = absurd none
  put_stopped failed (faults.Refused r) fine (refused, same) =
      (refused, ([], Appends-nil c, same ∙ sym (append-nil old)), fine)

  pub does_nothing : (failed : Bool) (fault : ServeFault) (r : Ending) → IsErrAnd r (λ e. e ≡ fault) → failed ≡ false
      → PutsMessage serves refuses s at frame message old new (stopped fault) t
      → DoesService serves refuses s at frame message (outgoing c old) (outgoing c new) failed r t
  does_nothing failed fault (Ok u) is fine put = absurd is
  does_nothing failed fault (Err e) is fine put =
      subst (λ (g : ServeFault). DoesService serves refuses s at frame message (outgoing c old) (outgoing c new) failed
      (stopped g) t) (sym is) (put_stopped failed fault fine put)

  -- Case: the text of the message was appended, and then `flush_long` was called.
  pub does_flush : (d : Option (List ℕ)) (kept : List ℕ) (failed : Bool) (r : Ending)
      → PutsMessage serves refuses s at frame message old new done t
      → Flushes (outgoing c new) (outgoing d kept) failed r
      → DoesService serves refuses s at frame message (outgoing c old) (outgoing d kept) failed r t
  does_flush d kept failed (Ok u) (text, served, joined) ((w, wrote, is), short, fine) =
      ((text, served, (w, wrote, is ∙ append-nil new ∙ joined), fine), λ h. short)
  does_flush d kept failed (Err faults.Io) (text, served, joined) (io, (count, wrote), broken) =
      ((text, t, count, served, subst (λ (l : List ℕ). Appends c d (take count l)) joined wrote), broken)
  does_flush d kept failed (Err faults.Memory) put (io, begun, broken) = absurd (cc)
  does_flush d kept failed (Err (faults.Refused r)) put (io, begun, broken) = absurd (cc)
