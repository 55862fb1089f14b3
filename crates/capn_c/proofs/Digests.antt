-- The digest of a message is also the digest of the bytes that are read as that message. (For `digest_in` and
-- `digest_held`.)
use Rattle.std.proofs.Common.{◌≡◌, ◌≤◌, inl, inr, ℕ, List, subst, Result, Ok, Err, IfOk, IfErr, IsErrOf, MatchResult}
use Rattle.sha2.specs.Sha256.{sha256}
use Rattle.capn_walk.specs.Limits.{Bounds}
use Rattle.capn_canon.specs.Answered.{IsAnswered, IsRefusedReading}
use Rattle.capn_canon.specs.Denotes.{Answers}
use Rattle.capn_canon.specs.MemoryNeed.{MayNeedBytes}
use Rattle.capn_canon.specs.Refusal.{IsPaidWithin, IsRefused}
use Rattle.capn_canon.specs.declared.form.Form.{Form}
use Rattle.capn_canon.specs.declared.refusal.Refusal.{Refusal}
use Rattle.capn_canon.specs.declared.refusal.Refusal.TheVariants as refusals
use Rattle.capn_canon.proofs.shared.NotRefused.{refused_message}
use Rattle.capn_answers.proofs.shared.Reading.{reading_unaccepted, reading_wanted, reading_within}
use Rattle.capn_c.specs.Held.{AnswersHeld, IsHeldOr, IsRefusedHeld}
use Rattle.capn_c.specs.MadeBytes.{MayNeedToMake}
use Rattle.capn_c.specs.declared.message_digest.Digested.{Digested}
use Rattle.capn_c.specs.inner.RunHeld.{IsRunHeld}
use Rattle.capn_c.specs.inner.Told.{IsDigestTold}
use Rattle.capn_c.proofs.HeldRuns.{unheld_other, unheld_within}
use Rattle.capn_c.proofs.OfMessage.{held_refused, held_refused_message}
use Rattle.capn_c.proofs.OutOfMemory.{unaccepted_refused}

module _ (form : Form) (bs : List ℕ) (limits : Bounds) where
  abbrev AreTold : Result Digested Refusal → Type 0
  AreTold r = IsAnswered form bs limits (λ m l x. IsDigestTold m l x) r

  pub digest_found : (r : Result Digested Refusal) → AreTold r
      → IfOk r (λ d. (text : List ℕ) × Answers form bs limits text d.paid × (d.digest ≡ sha256 text))
  digest_found (Ok d) (inl (m, is, h)) =
      let (text, answer, same) = h.found in
      (text, record { message = m; reads = is; answer = answer }, same)
  digest_found (Ok d) (inr (e, is, h)) = absurd cc
  digest_found (Err e) told = tt

  pub digest_refused : (r : Result Digested Refusal) → AreTold r → IfErr r (λ e. IsRefused form bs limits e)
  digest_refused (Err e) (inl (m, is, h)) = refused_message form bs limits m e is h.refused
  digest_refused (Err e) (inr (f, is, h)) =
      let same : f ≡ e = cc in
      unaccepted_refused form bs limits e
      (reading_unaccepted form bs limits e (subst (λ (x : Refusal). IsRefusedReading form bs limits x) same h))
  digest_refused (Ok d) told = tt

  pub digest_wanted : (r : Result Digested Refusal) → AreTold r → IsErrOf r refusals.Memory
      → MayNeedToMake form bs limits
  digest_wanted r (inl (m, is, h)) w =
      let (v, value, free) = h.memory w in
      inr (record { message = m; reads = is; value = v; is = value; free = free; not = h.made w v value })
  digest_wanted r (inr (e, is, h)) w = inl (reading_wanted form bs limits r e is h w)

  pub digest_bounded : (r : Result Digested Refusal) → AreTold r
      → MatchResult r (λ d. d.paid ≤ limits.budget) (λ e. IsPaidWithin limits.budget e)
  digest_bounded (Ok d) (inl (m, is, h)) = h.bounded
  digest_bounded (Ok d) (inr (e, is, h)) = absurd cc
  digest_bounded (Err e) (inl (m, is, h)) = h.bounded
  digest_bounded (Err e) (inr (f, is, h)) =
      let same : f ≡ e = cc in
      reading_within form bs limits e (subst (λ (x : Refusal). IsRefusedReading form bs limits x) same h)

-- ---- segments

module _ (m : List (List ℕ)) (limits : Bounds) {S : Type 0} (old : S) where
  abbrev IsHeldTold : Result Digested Refusal → S → Type 0
  IsHeldTold r new = IsRunHeld m limits (λ task n l x after. IsDigestTold n l x) old r new

  pub held_found : (r : Result Digested Refusal) (new : S) → IsHeldTold r new
      → IfOk r (λ d. (text : List ℕ) × AnswersHeld m limits text d.paid × (d.digest ≡ sha256 text))
  held_found (Ok d) new (inl (held, h)) =
      let (text, answer, same) = h.found in
      (text, record { held = held; answer = answer }, same)
  held_found (Ok d) new (inr (e, is, h, same)) = absurd cc
  held_found (Err e) new told = tt

  pub held_told : (r : Result Digested Refusal) (new : S) → IsHeldTold r new → IfErr r (λ e. IsRefusedHeld m limits e)
  held_told (Err e) new (inl (held, h)) = held_refused_message m limits e held h.refused
  held_told (Err e) new (inr (f, is, h, same)) =
      let one : f ≡ e = cc in
      held_refused m limits e (subst (λ (x : Refusal). IsHeldOr m limits (Err x)) one h)
  held_told (Ok d) new told = tt

  pub held_wanted : (r : Result Digested Refusal) (new : S) → IsHeldTold r new → IsErrOf r refusals.Memory
      → MayNeedBytes m limits
  held_wanted r new (inl (held, h)) w = h.memory w
  held_wanted r new (inr (e, is, h, same)) w = absurd (unheld_other m limits r e is h w)

  pub held_bounded : (r : Result Digested Refusal) (new : S) → IsHeldTold r new
      → MatchResult r (λ d. d.paid ≤ limits.budget) (λ e. IsPaidWithin limits.budget e)
  held_bounded (Ok d) new (inl (held, h)) = h.bounded
  held_bounded (Ok d) new (inr (e, is, h, same)) = absurd cc
  held_bounded (Err e) new (inl (held, h)) = h.bounded
  held_bounded (Err e) new (inr (f, is, h, same)) =
      let one : f ≡ e = cc in
      unheld_within m limits e (subst (λ (x : Refusal). IsHeldOr m limits (Err x)) one h)
