-- Lemmas for `put_price` and `put_digest`: the line of a message was appended, or an allocation was refused for it, or
-- the message has no such line.
use Rattle.std.proofs.Common.{◌≡◌, ◌≢◌, ◌⊎◌, inl, inr, ℕ, List, Result, Ok, Err, IsErrAnd, refl, ap, ◌∙◌}
use Rattle.capn_walk.specs.Accepted.{IsWalkRefused, number_of_visits, paid}
use Rattle.capn_walk.specs.Limits.{Bounds}
use Rattle.capn_walk.specs.Surveyed.{IsSurvey}
use Rattle.capn_walk.specs.declared.survey_answer.Surveyed.{Surveyed}
use Rattle.capn_walk.specs.declared.walk_answer.Stopped.{Stopped}
use Rattle.capn_target.specs.declared.target.Fault.TheVariants as walk_faults
use Rattle.capn_canon.specs.Denotes.{AnswersMessage}
use Rattle.capn_canon.specs.Layout.{canon}
use Rattle.capn_canon.specs.MemoryNeed.{MayNeedBytes}
use Rattle.capn_canon.specs.Refusal.{IsRefusedMessage}
use Rattle.capn_canon.specs.declared.refusal.Refusal.{Refusal}
use Rattle.capn_canon.specs.declared.refusal.Refusal.TheVariants as refusals
use Rattle.capn_commands.specs.MessageText.{IsMessageText, IsStopOf, PutsLine, PutsMessageText, digest_line, price_line}
use Rattle.capn_commands.specs.WholeInput.{IsFaultOf}
use Rattle.capn_commands.specs.declared.fault.ToolFault.{ToolFault}
use Rattle.capn_commands.specs.declared.plan.MessageText.TheVariants as kinds

module _ (m : List (List ℕ)) (limits : Bounds) where
  -- ---- the price line

  priced_text : (s : Surveyed) → IsSurvey m limits s → IsMessageText kinds.Price m limits (price_line s.paid s.visits)
  priced_text s told = (
    told.value,
    told.is,
    ap (λ (n : ℕ). price_line n s.visits) told.pays
        ∙ ap (λ (n : ℕ). price_line (paid m limits) n) told.counts,
  )

  pub price_put : (s : Surveyed) → IsSurvey m limits s → (old new : List ℕ) (r : Result (Unit {0}) ToolFault)
      → PutsLine (price_line s.paid s.visits) old new r → PutsMessageText kinds.Price m limits old new r
  price_put s told old new (Ok u) put = (price_line s.paid s.visits, priced_text s told, put)
  price_put s told old new (Err fault) (memory, same) =
      (inl (memory, (price_line s.paid s.visits, priced_text s told)), same)

  pub price_stopped : (s : Stopped) (old : List ℕ) (r : Result (Unit {0}) ToolFault)
      → (s.fault ≡ walk_faults.Memory) ⊎ IsWalkRefused m limits s.fault s.place s.paid s.visits
      → s.fault ≢ walk_faults.Memory → IsErrAnd r (IsStopOf s) → PutsMessageText kinds.Price m limits old old r
  price_stopped s old (Ok u) why never is = absurd is
  price_stopped s old (Err fault) (inl memory) never is = absurd (never memory)
  price_stopped s old (Err fault) (inr refused) never is = (inr (s, is, refused), refl)

  -- ---- the digest line

  pub digest_put : (answer : List ℕ) (price : ℕ) → AnswersMessage m limits answer price → (old new : List ℕ)
      (r : Result (Unit {0}) ToolFault) → PutsLine (digest_line answer) old new r
      → PutsMessageText kinds.Digest m limits old new r
  digest_put answer price is old new (Ok u) put = (digest_line answer, (answer, price, is, refl), put)
  digest_put answer price is old new (Err fault) (memory, same) =
      (inl (memory, (digest_line answer, (answer, price, is, refl))), same)

  digest_some : MayNeedBytes m limits → (text : List ℕ) × IsMessageText kinds.Digest m limits text
  digest_some (v, is, free) = (
    digest_line (canon v),
    (
      canon v,
      paid m limits,
      record { value = v; is = is; free = free; canonical = refl; priced = refl },
      refl,
    ),
  )

  pub digest_refused : (e : Refusal) (old : List ℕ) (r : Result (Unit {0}) ToolFault) → IsRefusedMessage m limits e
      → (e ≡ refusals.Memory → MayNeedBytes m limits) → IsErrAnd r (IsFaultOf e)
      → PutsMessageText kinds.Digest m limits old old r
  digest_refused e old (Ok u) why need is = absurd is
  digest_refused e old (Err fault) why need (inl (memory, is)) = (inl (is, digest_some (need memory)), refl)
  digest_refused e old (Err fault) why need (inr (other, is)) = (inr (e, is, other, why), refl)
