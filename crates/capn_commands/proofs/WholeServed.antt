-- Lemmas for `write_made`: the reason why there is no output is never `Io`.
use Rattle.std.proofs.Common.{◌≡◌, inl, inr, ℕ, List}
use Rattle.capn_commands.specs.MessageText.{IsNoMessageText}
use Rattle.capn_commands.specs.WholeInput.{MakesNothing}
use Rattle.capn_commands.specs.declared.plan.MessageText.{MessageText}
use Rattle.capn_commands.specs.declared.plan.MessageText.TheVariants as kinds
use Rattle.capn_commands.specs.declared.plan.Whole.{Whole}
use Rattle.capn_commands.specs.declared.plan.Whole.TheVariants as wholes
use Rattle.capn_walk.specs.Limits.{Bounds}
use Rattle.capn_canon.specs.declared.refusal.Refusal.{Refusal}
use Rattle.capn_commands.specs.declared.fault.ToolFault.{ToolFault}
use Rattle.capn_commands.specs.declared.fault.ToolFault.TheVariants as faults

pub record IsTold (fault : ToolFault) : Type 0 where
  pub no_io : fault ≡ faults.Io → ⊥

pub told_refused : (fault : ToolFault) (r : Refusal) → fault ≡ faults.Refused r → IsTold fault
told_refused fault r e = record { no_io = λ h. cc }

told_not_whole : (fault : ToolFault) (n : ℕ) → fault ≡ faults.NotWhole n → IsTold fault
told_not_whole fault n e = record { no_io = λ h. cc }

pub told_piece : (piece : MessageText) (message : List (List ℕ)) (limits : Bounds) (fault : ToolFault)
    → IsNoMessageText piece message limits fault → IsTold fault
told_piece kinds.Text message limits fault h = told_refused fault _ h.1
told_piece kinds.Price message limits fault h = told_refused fault _ h.1
told_piece kinds.Digest message limits fault h = told_refused fault _ h.1

pub told_whole : (whole : Whole) (bytes : List ℕ) (fault : ToolFault) → MakesNothing whole bytes fault → IsTold fault
told_whole wholes.Packed bytes fault h = told_not_whole fault _ h.1
told_whole (wholes.Unpacked most) bytes fault h = told_refused fault _ h.1
told_whole (wholes.Canonical form limits) bytes fault h = told_refused fault _ h.1
told_whole (wholes.Bare piece limits) bytes fault (inl h) = told_refused fault _ h.1
told_whole (wholes.Bare piece limits) bytes fault (inr h) = told_piece piece _ limits fault h.2
told_whole (wholes.One piece form limits) bytes fault h = told_refused fault _ h.1
