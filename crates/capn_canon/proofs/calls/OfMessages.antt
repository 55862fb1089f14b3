-- Lemmas on the bytes that a call returns for a message. (For `canonical.rt` and `written_bytes.rt`.)
use Rattle.std.proofs.Common.{◌≡◌, ℕ, ◌+◌, ◌*◌, ◌^◌, ◌≤◌, List, length, Result, Ok, Err, IfOk, IsErrAnd}
use Rattle.std.proofs.Common.{sym, subst, ◌∙◌}
use Rattle.std.proofs.lemmas.Result.{IfOk-weaker}
use Rattle.capn_words.specs.Message.{IsMessage}
use Rattle.capn_value.specs.Tree.{Tree}
use Rattle.capn_walk.specs.Accepted.{IsValueOf}
use Rattle.capn_walk.specs.Limits.{Bounds}
use Rattle.capn_canon.specs.Denotes.{AnswersMessage}
use Rattle.capn_canon.specs.Canonicity.{IsCanonicalForm}
use Rattle.capn_canon.specs.declared.message_refusal.MessageRefusal.{MessageRefusal}
use Rattle.capn_canon.specs.declared.message_refusal.MessageRefusal.TheVariants as messages
use Rattle.capn_canon.specs.declared.refusal.Refusal.{Refusal}
use Rattle.capn_canon.specs.declared.refusal.Refusal.TheVariants as refusals
use Rattle.capn_canon.specs.MessageRefusal.{HasNoBytes, IsMessagePaidWithin}
use Rattle.capn_canon.specs.RefusalOf.{IsOfMessage}
use Rattle.capn_canon.specs.Refusal.{IsRefusedMessage, IsPaidWithin}
use Rattle.capn_canon.specs.inner.Outcomes.{IsCanonicalised}
use Rattle.capn_canon.proofs.calls.Answered.{answer_length, answer_form}
use Rattle.capn_canon.proofs.calls.IntoBuffers.{no_bytes}

pub answered_short : {T E : Type 0} (r : Result T E) (bytes_of : T → List ℕ) (price_of : T
    → ℕ) (m : List (List ℕ)) (limits : Bounds)
    → IsMessage m → limits.budget ≤ 2 ^ 28 → limits.depth ≤ 256
    → IfOk r (λ c. AnswersMessage m limits (bytes_of c) (price_of c))
    → IfOk r (λ c. length (bytes_of c) ≤ 8 * (price_of c + 1))
answered_short r bytes_of price_of m limits is small shallow =
    IfOk-weaker r _ _ (λ c h. answer_length m limits (bytes_of c) (price_of c) h is small shallow)

-- A property `Q` that follows from `IsCanonicalForm` holds of an `Ok` result and every value of `m`.
pub answered_form : {T E : Type 0} (r : Result T E) (bytes_of : T → List ℕ) (price_of : T
    → ℕ) (m : List (List ℕ)) (limits : Bounds)
    (Q : T → Tree → Type 0) → ((c : T) (v : Tree) → IsCanonicalForm (bytes_of c) limits v → Q c v)
    → IsMessage m → limits.budget ≤ 2 ^ 28 → limits.depth ≤ 256
    → IfOk r (λ c. AnswersMessage m limits (bytes_of c) (price_of c))
    → IfOk r (λ c. (v : Tree) → IsValueOf m limits v → Q c v)
answered_form r bytes_of price_of m limits Q part is small shallow =
    IfOk-weaker r _ _ (λ c h v k. part c v (answer_form m limits (bytes_of c) (price_of c) h is small shallow v k))

-- ---- a message without canonical bytes

as_refused : (m : List (List ℕ)) (limits : Bounds) (a : MessageRefusal) (e : Refusal) → IsOfMessage a e
    → HasNoBytes m limits a → IsRefusedMessage m limits e
as_refused m limits (messages.Walk s) e is h = subst (λ (x : Refusal). IsRefusedMessage m limits x) (sym is) h
as_refused m limits (messages.Capability k) e is h = subst (λ (x : Refusal). IsRefusedMessage m limits x) (sym is) h

as_within : (budget : ℕ) (a : MessageRefusal) (e : Refusal) → IsOfMessage a e → IsMessagePaidWithin budget a
    → IsPaidWithin budget e
as_within budget (messages.Walk s) e is h = subst (λ (x : Refusal). IsPaidWithin budget x) (sym is) h
as_within budget (messages.Capability k) e is h = subst (λ (x : Refusal). IsPaidWithin budget x) (sym is) tt

not_memory : (a : MessageRefusal) (e : Refusal) → IsOfMessage a e → e ≡ refusals.Memory → ⊥
not_memory (messages.Walk s) e is same = let x : refusals.Walk s ≡ refusals.Memory = sym is ∙ same in absurd cc
not_memory (messages.Capability k) e is same =
    let x : refusals.Capability k ≡ refusals.Memory = sym is ∙ same in absurd cc

pub not_canonicalised : {T : Type 0} (r : Result T Refusal) (bytes_of : T → List ℕ) (price_of : T → ℕ)
    (m : List (List ℕ)) (limits : Bounds) (a : MessageRefusal) → IsErrAnd r (IsOfMessage a) → HasNoBytes m limits a
    → IsMessagePaidWithin limits.budget a → IsCanonicalised m limits r bytes_of price_of
not_canonicalised (Ok c) bytes_of price_of m limits a is h b = absurd is
not_canonicalised (Err e) bytes_of price_of m limits a is h b = record {
  found = tt;
  only = λ v k free. absurd (no_bytes m limits a h (v, k, free));
  refused = as_refused m limits a e is h;
  wanted = λ x. absurd (not_memory a e is cc);
  bounded = as_within limits.budget a e is b;
}
