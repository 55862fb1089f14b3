-- The result for a message is also a result for the bytes that are read as that message. (For `canonicalise`.)
use Rattle.std.proofs.Common.{◌≡◌, ℕ, ◌+◌, ◌*◌, ◌^◌, ◌≤◌, List, length, Result}
use Rattle.std.proofs.Common.{Ok, Err, MatchResult, IfOk, IfErr, IsErrOf, None}
use Rattle.std.proofs.lemmas.Result.{IfOk-weaker, IfErr-weaker}
use Rattle.capn_value.specs.Tree.{Tree}
use Rattle.capn_value.specs.FirstCap.{first_cap}
use Rattle.capn_walk.specs.Limits.{Bounds}
use Rattle.capn_canon.specs.declared.form.Form.{Form}
use Rattle.capn_canon.specs.declared.refusal.Refusal.{Refusal}
use Rattle.capn_canon.specs.declared.refusal.Refusal.TheVariants as refusals
use Rattle.capn_layout.specs.Layout.{canon}
use Rattle.capn_canon.specs.Reads.{Reads}
use Rattle.capn_canon.specs.Denotes.{Denotes, AnswersMessage, Answers}
use Rattle.capn_canon.specs.Refusal.{IsRefusedMessage, IsRefused, IsPaidWithin}
use Rattle.capn_canon.specs.MemoryNeed.{MayNeedBytes, MayNeedBytesIn}
use Rattle.capn_canon.specs.Canonicity.{IsCanonicalForm}
use Rattle.capn_canon.specs.inner.Outcomes.{AreCanonicalised}
use Rattle.capn_canon.proofs.calls.Answered.{answers_only, answers_length, answers_form}
use Rattle.capn_canon.proofs.shared.NotRefused.{not_refused}

refused_as : (form : Form) (bs : List ℕ) (limits : Bounds) (m : List (List ℕ)) → Reads form bs limits.message_words m
    → (e : Refusal) → IsRefusedMessage m limits e → IsRefused form bs limits e
refused_as form bs limits m is (refusals.Walk s) h = (m, is, h)
refused_as form bs limits m is (refusals.Capability k) h = (m, is, h)
refused_as form bs limits m is refusals.Memory h = tt
refused_as form bs limits m is (refusals.Frame e) h = absurd h
refused_as form bs limits m is (refusals.Trailing at) h = absurd h
refused_as form bs limits m is (refusals.Bare e) h = absurd h
refused_as form bs limits m is (refusals.Packed e) h = absurd h

-- ---- results of calls

-- If `bs` are read as `m`, a result `r` for `m` is also a result for `bs`.
pub canonicalised_as : {T : Type 0} (r : Result T Refusal) (bytes_of : T → List ℕ) (price_of : T → ℕ) (form : Form)
    (bs : List ℕ) (limits : Bounds) (m : List (List ℕ)) → Reads form bs limits.message_words m
    → (MayNeedBytes m limits → MayNeedBytesIn form bs limits)
    → IfOk r (λ c. AnswersMessage m limits (bytes_of c) (price_of c)) → IfErr r (λ e. IsRefusedMessage m limits e)
    → (IsErrOf r refusals.Memory → MayNeedBytes m limits)
    → MatchResult r (λ c. price_of c ≤ limits.budget) (λ e. IsPaidWithin limits.budget e)
    → AreCanonicalised form bs limits r bytes_of price_of
canonicalised_as r bytes_of price_of form bs limits m is want f e w b = record {
  found = IfOk-weaker r _ _ (λ c h. record { message = m; reads = is; answer = h }) f;
  refused = IfErr-weaker r _ _ (refused_as form bs limits m is) e;
  wanted = λ x. want (w x);
  bounded = b;
}

-- If `bs` denote a value `v` without capabilities, `r` has the canonical bytes of `v`, or is `Memory`.
pub found_only : {T : Type 0} (r : Result T Refusal) (bytes_of : T → List ℕ) (price_of : T
    → ℕ) (form : Form) (bs : List ℕ) (limits : Bounds) →
    IfOk r (λ c. Answers form bs limits (bytes_of c) (price_of c)) → IfErr r (λ e. IsRefused form bs limits e) →
    (v : Tree) → Denotes form bs limits v → first_cap v ≡ None
    → MatchResult r (λ c. bytes_of c ≡ canon v) (λ e. e ≡ refusals.Memory)
found_only (Ok c) bytes_of price_of form bs limits h g v d n =
    answers_only form bs limits (bytes_of c) (price_of c) h v d
found_only (Err e) bytes_of price_of form bs limits h g v d n = not_refused form bs limits v e d n g

pub found_short : {T : Type 0} (r : Result T Refusal) (bytes_of : T → List ℕ) (price_of : T
    → ℕ) (form : Form) (bs : List ℕ) (limits : Bounds) →
    limits.message_words ≤ 2 ^ 28 → limits.budget ≤ 2 ^ 28 → limits.depth ≤ 256 →
    IfOk r (λ c. Answers form bs limits (bytes_of c) (price_of c))
    → IfOk r (λ c. length (bytes_of c) ≤ 8 * (price_of c + 1))
found_short r bytes_of price_of form bs limits few small shallow =
    IfOk-weaker r _ _ (λ c h. answers_length form bs limits (bytes_of c) (price_of c) h few small shallow)

-- A property `Q` that follows from `IsCanonicalForm` holds of an `Ok` result and every value that `bs` denote.
pub found_form : {T : Type 0} (r : Result T Refusal) (bytes_of : T → List ℕ) (price_of : T
    → ℕ) (form : Form) (bs : List ℕ) (limits : Bounds) (Q : T → Tree → Type 0) →
    ((c : T) (v : Tree) → IsCanonicalForm (bytes_of c) limits v → Q c v) →
    limits.message_words ≤ 2 ^ 28 → limits.budget ≤ 2 ^ 28 → limits.depth ≤ 256 →
    IfOk r (λ c. Answers form bs limits (bytes_of c) (price_of c))
    → IfOk r (λ c. (v : Tree) → Denotes form bs limits v → Q c v)
found_form r bytes_of price_of form bs limits Q part few small shallow =
    IfOk-weaker r _ _
    (λ c h v d. part c v (answers_form form bs limits (bytes_of c) (price_of c) h few small shallow v d))
