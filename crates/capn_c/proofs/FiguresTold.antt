-- The figures of a message are also the figures of what is read as that message. (For `message_figures.rt`.)
use Rattle.std.proofs.Common.{inl, inr, ℕ, List, refl, sym, subst, Result, Err}
use Rattle.std.proofs.lemmas.Result.{IfOk-weaker, IfErr-weaker}
use Rattle.capn_walk.specs.Limits.{Bounds}
use Rattle.capn_canon.specs.Answered.{IsAnswered}
use Rattle.capn_canon.specs.MemoryNeed.{MayNeedMemory}
use Rattle.capn_canon.specs.Refusal.{IsUnaccepted, IsUnacceptedIn}
use Rattle.capn_canon.specs.declared.form.Form.{Form}
use Rattle.capn_canon.specs.declared.refusal.Refusal.{Refusal}
use Rattle.capn_canon.proofs.shared.NotUnaccepted.{unaccepted_message}
use Rattle.capn_answers.proofs.shared.Reading.{reading_unaccepted, reading_wanted, reading_within}
use Rattle.capn_c.specs.Figures.{AreFigures, FiguresIn}
use Rattle.capn_c.specs.Held.{FiguresHeld, IsUnacceptedHeld}
use Rattle.capn_c.specs.declared.figures.CapnFigures.{CapnFigures}
use Rattle.capn_c.specs.inner.RunHeld.{IsRunHeld}
use Rattle.capn_c.specs.inner.Told.{AreFiguresTold}
use Rattle.capn_c.proofs.HeldRuns.{message_unaccepted_held, unheld_other, unheld_unaccepted, unheld_within}

-- What the task tells of the message `m`.
abbrev pub AreFiguresOf : List (List ℕ) → Bounds → Result CapnFigures Refusal → Type 0
AreFiguresOf m l x = AreFiguresTold (AreFigures m l) (IsUnaccepted m l) ⊥ l.budget x

-- ---- bytes in a form

module _ (form : Form) (bs : List ℕ) (limits : Bounds) where
  abbrev AreRead : Result CapnFigures Refusal → Type 0
  AreRead r =
      AreFiguresTold (FiguresIn form bs limits) (IsUnacceptedIn form bs limits) (MayNeedMemory form bs limits)
      limits.budget r

  pub figures_read : (r : Result CapnFigures Refusal) → IsAnswered form bs limits (λ m l x. AreFiguresOf m l x) r
      → AreRead r
  figures_read r (inl (m, reads, h)) = record {
    found = IfOk-weaker r _ _ (λ f a. record { message = m; reads = reads; are = a }) h.found;
    refused = IfErr-weaker r _ _ (λ e s. unaccepted_message form bs limits m e reads s) h.refused;
    memory = (λ e. absurd (h.memory e));
    bounded = h.bounded;
  }
  figures_read r (inr (e, is, h)) =
      subst (λ (x : Result CapnFigures Refusal). AreRead x) (sym is) (record {
        found = tt;
        refused = reading_unaccepted form bs limits e h;
        memory = (λ w. reading_wanted form bs limits (Err e) e refl h w);
        bounded = reading_within form bs limits e h;
      })

-- ---- segments

module _ (m : List (List ℕ)) (limits : Bounds) where
  abbrev AreOfSegments : Result CapnFigures Refusal → Type 0
  AreOfSegments r = AreFiguresTold (FiguresHeld m limits) (IsUnacceptedHeld m limits) ⊥ limits.budget r

  pub figures_of_held : {S : Type 0} (old : S) (r : Result CapnFigures Refusal) (new : S)
      → IsRunHeld m limits (λ task n l x after. AreFiguresOf n l x) old r new → AreOfSegments r
  figures_of_held old r new (inl (held, h)) = record {
    found = IfOk-weaker r _ _ (λ f a. record { held = held; are = a }) h.found;
    refused = IfErr-weaker r _ _ (λ e s. message_unaccepted_held m limits e held s) h.refused;
    memory = h.memory;
    bounded = h.bounded;
  }
  figures_of_held old r new (inr (e, is, h, same)) =
      subst (λ (x : Result CapnFigures Refusal). AreOfSegments x) (sym is) (record {
        found = tt;
        refused = unheld_unaccepted m limits e h;
        memory = (λ w. unheld_other m limits (Err e) e refl h w);
        bounded = unheld_within m limits e h;
      })
