-- If bytes are read as a message, the outcome of its walk is also the outcome for the bytes. (For `walk_in`.)
use Rattle.std.proofs.Common.{◌≡◌, ℕ, ◌*◌, ◌≤◌, inl, inr, List, length, subst, arith, Result, Ok, Err, IfOk, IfErr}
use Rattle.std.proofs.Common.{IsErrOf, MatchResult}
use Rattle.capn_value.specs.Tree.{Tree}
use Rattle.capn_walk.specs.Accepted.{IsAccepted}
use Rattle.capn_walk.specs.Limits.{Bounds}
use Rattle.capn_canon.specs.Answered.{IsAnswered, IsRefusedReading}
use Rattle.capn_canon.specs.Denotes.{Denotes}
use Rattle.capn_canon.specs.declared.form.Form.{Form}
use Rattle.capn_canon.specs.declared.refusal.Refusal.{Refusal}
use Rattle.capn_canon.specs.declared.refusal.Refusal.TheVariants as refusals
use Rattle.capn_canon.proofs.shared.NotRefused.{accepted-not_refused}
use Rattle.capn_canon.proofs.shared.NotUnaccepted.{not_unaccepted}
use Rattle.capn_canon.proofs.shared.OneReading.{one_message}
use Rattle.capn_answers.specs.Walked.{AnswersAccepted, IsWalkedIn, IsWalkedWithin, MayNeedItsPath, walked_path}
use Rattle.capn_answers.specs.Paths.{IsUnread}
use Rattle.capn_answers.specs.declared.walked.Walked.{Walked}
use Rattle.capn_answers.specs.declared.walked.Walked.TheVariants.{Accepted, Refused}
use Rattle.capn_answers.specs.inner.Answered.{IsWalkTold}
use Rattle.capn_answers.proofs.shared.Reading.{misread, reading_wanted, unread_unaccepted}
use Rattle.capn_answers.proofs.PathLengths.{stop_short}

module _ {A : Type 0} (form : Form) (bs : List ℕ) (limits : Bounds) where
  abbrev AreTold : Result (Walked A) Refusal → Type 0
  AreTold r = IsAnswered form bs limits (λ m l x. IsWalkTold m l x) r

  pub walk_found : (r : Result (Walked A) Refusal) → AreTold r → IfOk r (λ w. IsWalkedIn form bs limits w)
  walk_found (Ok (Accepted s)) (inl (m, is, h)) = record { message = m; reads = is; survey = h.found }
  walk_found (Ok (Refused f)) (inl (m, is, h)) = record { message = m; reads = is; at = h.found }
  walk_found (Ok w) (inr (e, is, h)) = absurd cc
  walk_found (Err e) told = tt

  pub walk_short : (r : Result (Walked A) Refusal) → AreTold r → IfOk r (λ w. length (walked_path w) ≤ 2 * limits.depth)
  walk_short (Ok (Accepted s)) told = omega arith
  walk_short (Ok (Refused f)) (inl (m, is, h)) = stop_short m limits f.stopped f.path.items h.found
  walk_short (Ok (Refused f)) (inr (e, is, h)) = absurd cc
  walk_short (Err e) told = tt

  pub walk_unread : (r : Result (Walked A) Refusal) → AreTold r → IfErr r (λ e. IsUnread form bs limits e)
  walk_unread (Err e) (inl (m, is, h)) = λ n. absurd (n h.memory.0)
  walk_unread (Err e) (inr (f, is, h)) =
      let same : f ≡ e = cc in
      misread form bs limits e (subst (λ (x : Refusal). IsRefusedReading form bs limits x) same h)
  walk_unread (Ok w) told = tt

  pub walk_only : (r : Result (Walked A) Refusal) → AreTold r → (v : Tree) → Denotes form bs limits v
      → MatchResult r (λ w. AnswersAccepted w) (λ e. e ≡ refusals.Memory)
  walk_only (Ok (Accepted s)) told v d = tt
  walk_only (Ok (Refused f)) (inl (m, is, h)) v d =
      let same = one_message form bs limits.message_words d.message m d.reads is in
      accepted-not_refused m limits f.stopped
      (subst (λ (x : List (List ℕ)). IsAccepted x limits) same d.value.accepted) h.found.refused
  walk_only (Ok (Refused f)) (inr (e, is, h)) v d = absurd cc
  walk_only (Err e) told v d =
      not_unaccepted form bs limits v e d (unread_unaccepted form bs limits e (walk_unread (Err e) told))

  pub walk_wanted : (r : Result (Walked A) Refusal) → AreTold r → IsErrOf r refusals.Memory
      → MayNeedItsPath form bs limits
  walk_wanted (Err e) (inl (m, is, h)) w = let (s, stops) = h.memory.1 in inr (s, (m, is, stops))
  walk_wanted (Ok x) (inl (m, is, h)) w = absurd cc
  walk_wanted r (inr (e, is, h)) w = inl (reading_wanted form bs limits r e is h w)

  pub walk_bounded : (r : Result (Walked A) Refusal) → AreTold r → IfOk r (λ w. IsWalkedWithin limits.budget w)
  walk_bounded (Ok w) (inl (m, is, h)) = h.bounded
  walk_bounded (Ok w) (inr (e, is, h)) = absurd cc
  walk_bounded (Err e) told = tt
