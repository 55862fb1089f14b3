-- Lemmas for a service that adds its texts to the output of a run, by `add_bytes` or by a flush after each text.
use Rattle.std.proofs.Common.{inr, ℕ, List, [], ◌++◌, length, Bool, take, Result, Ok, Err, sym, subst, append-nil}
use Rattle.std.proofs.Math.Seq.{take-append_seam}
use Rattle.std.specs.Io.KnownBytes.{Appends}
use Rattle.capn_canon.specs.declared.refusal.Refusal.{Refusal}
use Rattle.capn_serve.specs.declared.position.Position.{Position}
use Rattle.capn_serve.specs.declared.fault.ServeFault.{ServeFault}
use Rattle.capn_serve.specs.declared.fault.ServeFault.TheVariants as faults
use Rattle.capn_serve.specs.Outgoing.{Outgoing, Adds, AddsBytes, Breaks, Flushes}
use Rattle.capn_serve.specs.Service.{AddsOne, DoesService}
use Rattle.capn_serve.proofs.Sends.{adds_more, adds_none, breaks_behind, breaks_less}

abbrev Ending : Type 0
Ending = Result (Unit {0}) ServeFault

abbrev done : Ending
done = Ok tt

pub added_none : (a : Outgoing) → Adds a a []
added_none a = adds_none a

-- If the text `t` was added, and then the text `u`, then `t ++ u` was added.
pub added_both : (a b c : Outgoing) (t u : List ℕ) → Adds a b t → Adds b c u → Adds a c (t ++ u)
added_both a b c t u first second = adds_more a b c t u first second

-- If `Adds` holds for the text `t`, and after that `Breaks` holds for the text `u`, then `Breaks` holds for `t ++ u`
-- with some count `n`.
pub broken_after : (a b c : Outgoing) (t u : List ℕ) (count : ℕ) → Adds a b t → Breaks b c count u → (n : ℕ)
    × Breaks a c n (t ++ u)
broken_after a b c t u count first second = breaks_behind a b c t u count first second

-- If `Breaks` holds for the text `t`, it holds for `t ++ u` with some count `n`.
pub broken_before : (a b : Outgoing) (t u : List ℕ) (count : ℕ) → Breaks a b count t → (n : ℕ) × Breaks a b n (t ++ u)
broken_before a b t u count breaks =
    breaks_less a b count (length t) (t ++ u)
    (subst (λ (p : List ℕ). Breaks a b count p) (sym (take-append_seam t u)) breaks)

module _ {S : Type 0} (serves : S → Position → List ℕ → List (List ℕ) → List ℕ → S → Type 0)
    (refuses : S → Position → List ℕ → List (List ℕ) → Refusal → Type 0) (s t : S) (at : Position) (frame : List ℕ)
    (message : List (List ℕ)) where
  -- A service that adds the text `bytes` of a message with `add_bytes` does what `DoesService` states.
  pub does_add : (old new : Outgoing) (bytes : List ℕ) → serves s at frame message bytes t → (failed : Bool)
      (r : Ending) → AddsBytes bytes old new failed r
      → DoesService serves refuses s at frame message old new failed r t
  does_add old new bytes served failed (Ok u) (adds, short, fine) = ((bytes, served, adds, fine), λ h. short)
  does_add old new bytes served failed (Err faults.Memory) (none, short, fine) =
      (inr (bytes, t, 0, served, none), fine)
  does_add old new bytes served failed (Err faults.Io) ((count, breaks), broken) =
      ((bytes, t, count, served, breaks), broken)
  does_add old new bytes served failed (Err (faults.Refused r)) none = absurd none

  -- A service that adds the text of a message, and then calls `flush_long`, does what `DoesService` states.
  pub does_then_flush : (a b c : Outgoing) (fine failed : Bool) (r : Ending)
      → AddsOne serves refuses s at frame message a b fine done t → Flushes b c failed r
      → DoesService serves refuses s at frame message a c failed r t
  does_then_flush a b c fine failed (Ok u) (text, served, adds, is_fine) (none, short, still) =
      ((text, served, subst (Adds a c) (append-nil text) (adds_more a b c text [] adds none), still), λ h. short)
  does_then_flush a b c fine failed (Err faults.Io) (text, served, adds, is_fine) (io, (count, wrote), broken) =
      let rest = subst (λ (l : List ℕ). Appends b.taken c.taken (take count l)) (sym (append-nil b.kept)) wrote in
      let breaks = breaks_behind a b c text [] count adds rest in
      ((text, t, breaks.0, served, subst (Breaks a c breaks.0) (append-nil text) breaks.1), broken)
  does_then_flush a b c fine failed (Err faults.Memory) did (io, begun, broken) = absurd (cc)
  does_then_flush a b c fine failed (Err (faults.Refused r)) did (io, begun, broken) = absurd (cc)
