use Rattle.std.proofs.Common.{◌≡◌, inl, inr, ℕ, List, Result, Err, refl, sym, subst}
use Rattle.capn_serve.specs.Service.{PutsMessage}
use Rattle.capn_serve.specs.declared.position.Position.{Position}
use Rattle.capn_serve.specs.declared.fault.ServeFault.{ServeFault}
use Rattle.capn_canon.specs.declared.refusal.Refusal.{Refusal}
use Rattle.capn_canon.specs.declared.refusal.Refusal.TheVariants as refusals
use Rattle.capn_commands.specs.MessageText.{IsNoMessageText, PutsMessageText}
use Rattle.capn_commands.specs.declared.plan.MessageText.{MessageText}
use Rattle.capn_commands.specs.declared.plan.MessageText.TheVariants as kinds
use Rattle.capn_commands.specs.inner.MessageTexts.{refuses, served_fault, serves}
use Rattle.capn_commands.specs.declared.message_texts.MessageTexts.{MessageTexts}
use Rattle.capn_commands.specs.declared.fault.ToolFault.{ToolFault}
use Rattle.capn_commands.specs.declared.fault.ToolFault.TheVariants as faults
use Rattle.capn_commands.proofs.message_texts.served.Goals as goal

abbrev Ending : Type 0
Ending = Result (Unit {0}) ServeFault

abbrev stopped : ServeFault → Ending
stopped fault = Err fault

module _ (s : MessageTexts) (at : Position) (frame : List ℕ) (message : List (List ℕ)) (old new : List ℕ) where
  -- The reason why a message has no text is a refusal.
  refusal : (k : MessageText) (fault : ToolFault) → IsNoMessageText k message s.limits fault → (r : Refusal)
      × (fault ≡ faults.Refused r)
  refusal kinds.Text fault (stop, is, why) = (refusals.Walk stop, is)
  refusal kinds.Price fault (stop, is, why) = (refusals.Walk stop, is)
  refusal kinds.Digest fault (r, is, other, why) = (r, is)

  -- Case: the text of the message was not appended.
  unput : (fault : ToolFault) → PutsMessageText s.piece message s.limits old new (Err fault)
      → PutsMessage serves refuses s at frame message old new (stopped (served_fault fault)) s
  unput (faults.Refused r) (inl (memory, some), same) = absurd (cc)
  unput (faults.Refused r) (inr why, same) = (why, same)
  unput faults.Memory (inl (memory, (text, is)), same) = (inl (text, s, (is, refl)), same)
  unput faults.Memory (inr why, same) = absurd (let is = (refusal s.piece faults.Memory why).1 in cc)
  unput faults.Io (inl (memory, some), same) = absurd (cc)
  unput faults.Io (inr why, same) = absurd (let is = (refusal s.piece faults.Io why).1 in cc)
  unput faults.InputTooLong (inl (memory, some), same) = absurd (cc)
  unput faults.InputTooLong (inr why, same) = absurd (let is = (refusal s.piece faults.InputTooLong why).1 in cc)
  unput (faults.NotWhole n) (inl (memory, some), same) = absurd (cc)
  unput (faults.NotWhole n) (inr why, same) = absurd (let is = (refusal s.piece (faults.NotWhole n) why).1 in cc)

pub returns-in-Ok : goal.returns-in-Ok
returns-in-Ok c s at frame message old new given =
    let put = rw c.in-Ok.is at given in
    (put.0, (put.1, refl), put.2)

pub returns-in-Err : goal.returns-in-Err
returns-in-Err c s at frame message old new given =
    subst (λ (f : ServeFault). PutsMessage serves refuses s at frame message old new (stopped f) s)
    (sym c.served_fault.ensures) (unput s at frame message old new c.in-Err.fault (rw c.in-Err.is at given))
