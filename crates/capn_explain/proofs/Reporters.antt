-- Lemmas for `report_known` and `serve`: the effect of one message on a reporter.
use Rattle.std.proofs.Common.{ℕ, List, [], false, Result, Ok, Err, refl, sym, append-nil, inl, inr}
use Rattle.capn_serve.specs.declared.fault.ServeFault.{ServeFault}
use Rattle.capn_serve.specs.declared.fault.ServeFault.TheVariants as faults
use Rattle.capn_serve.specs.declared.position.Position.{Position}
use Rattle.capn_serve.specs.Service.{PutsMessage}
use Rattle.capn_explain.specs.Reports.{HasNumber, IsStopped, Keeps, MayNeedLines, Puts, Reporting, ServesBy}
use Rattle.capn_explain.specs.Reports.{TellsAccepted, TellsRefused, is_before, refuses, serves}

module _ (s t : Reporting) (at : Position) (message : List (List ℕ)) where
  -- Case: the message is accepted, and nothing is written.
  pub puts_accepted : (old : List ℕ) (r : Result (Unit {0}) ServeFault) → Keeps (TellsAccepted s at message)
      (HasNumber s.order.wanted) r t → Puts (ServesBy false s at message) (MayNeedLines s.order message) old old r t
  puts_accepted old (Ok u) told = ([], inr told, sym (append-nil old))
  puts_accepted old (Err fault) (is, number) = (is, inl number, refl)

  -- Case: the message is refused, and lines explain it.
  pub puts_refused : (old new : List ℕ) (r : Result (Unit {0}) ServeFault)
      → Puts (TellsRefused s at message) (IsStopped message s.order.limits) old new r t
      → Puts (ServesBy false s at message) (MayNeedLines s.order message) old new r t
  puts_refused old new (Ok u) (text, told, same) = (text, inl told, same)
  puts_refused old new (Err fault) (is, stop, same) = (is, inr stop, same)

  pub puts_message : (frame old new : List ℕ) (r : Result (Unit {0}) ServeFault)
      → Puts (ServesBy (is_before at s.order.wanted) s at message) (MayNeedLines s.order message) old new r t
      → PutsMessage serves refuses s at frame message old new r t
  puts_message frame old new (Ok u) put = put
  puts_message frame old new (Err faults.Memory) (is, needs, same) = (inr (λ r none. none), same)
  puts_message frame old new (Err faults.Io) (is, needs, same) = absurd (cc)
  puts_message frame old new (Err (faults.Refused r)) (is, needs, same) = absurd (cc)
