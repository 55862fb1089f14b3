-- A survey of a message is also a survey of the bytes that are read as that message. This survey is true of any value
-- that the bytes denote. (For `survey_bytes`.)
use Rattle.std.proofs.Common.{◌≡◌, ◌≢◌, ℕ, ◌+◌, ◌*◌, ◌^◌, ◌≤◌, List, length, refl, ap, subst, arith, ◌∙◌, Result, Ok}
use Rattle.std.proofs.Common.{Err, IfOk, IfErr, MatchResult}
use Rattle.std.proofs.lemmas.Result.{IfOk-weaker, IfErr-weaker}
use Rattle.capn_value.specs.Tree.{Tree}
use Rattle.capn_value.specs.FirstCap.{first_cap}
use Rattle.capn_walk.specs.declared.survey_answer.Surveyed.{Surveyed}
use Rattle.capn_walk.specs.Limits.{Bounds}
use Rattle.capn_canon.specs.declared.form.Form.{Form}
use Rattle.capn_canon.specs.declared.refusal.Refusal.{Refusal}
use Rattle.capn_canon.specs.declared.refusal.Refusal.TheVariants as refusals
use Rattle.capn_canon.specs.Reads.{Reads}
use Rattle.capn_canon.specs.Denotes.{Denotes}
use Rattle.capn_canon.specs.Refusal.{IsUnaccepted, IsUnacceptedIn}
use Rattle.capn_canon.specs.inner.Outcomes.{AreSurveyed, IsSurveyed}
use Rattle.capn_canon.specs.SurveyedBytes.{Surveys}
use Rattle.capn_canon.proofs.shared.OneReading.{one_value, is_message}
use Rattle.capn_canon.proofs.shared.NotUnaccepted.{not_unaccepted}
use Rattle.capn_layout.specs.Layout.{canon}
use Rattle.capn_canon.proofs.calls.Answered.{denoted_here}
use Rattle.capn_canon.proofs.theorem.Headline.{denoted_length}

unaccepted_as : (form : Form) (bs : List ℕ) (limits : Bounds) (m : List (List ℕ)) → Reads form bs limits.message_words m
    → (e : Refusal) → IsUnaccepted m limits e → IsUnacceptedIn form bs limits e
unaccepted_as form bs limits m is (refusals.Walk s) h = (m, is, h)
unaccepted_as form bs limits m is refusals.Memory h = tt
unaccepted_as form bs limits m is (refusals.Capability k) h = absurd h
unaccepted_as form bs limits m is (refusals.Frame e) h = absurd h
unaccepted_as form bs limits m is (refusals.Trailing at) h = absurd h
unaccepted_as form bs limits m is (refusals.Bare e) h = absurd h
unaccepted_as form bs limits m is (refusals.Packed e) h = absurd h

-- If `bs` are read as `m`, a result `r` of surveying `m` is also a result of surveying `bs`.
pub surveyed_as : (r : Result Surveyed Refusal) (form : Form) (bs : List ℕ) (limits : Bounds) (m : List (List ℕ))
    → Reads form bs limits.message_words m → IsSurveyed m limits r → AreSurveyed form bs limits r
surveyed_as r form bs limits m is h = record {
  found = IfOk-weaker r _ _ (λ s x. record { message = m; reads = is; survey = x }) h.found;
  refused = IfErr-weaker r _ _ (unaccepted_as form bs limits m is) h.refused;
  wanted = λ x. absurd (subst (λ y. IfErr y (λ e. e ≢ refusals.Memory)) x h.no_memory refl);
  bounded = h.bounded;
}

pub surveyed_only : (r : Result Surveyed Refusal) (form : Form) (bs : List ℕ) (limits : Bounds) →
    IfOk r (λ s. Surveys form bs limits s) → IfErr r (λ e. IsUnacceptedIn form bs limits e) →
    (v : Tree) → Denotes form bs limits v → MatchResult r (λ s. s.capability ≡ first_cap v) (λ e. e ≡ refusals.Memory)
surveyed_only (Ok s) form bs limits h g v d =
    h.survey.capability
    ∙ ap first_cap
    (one_value form bs limits h.survey.value v
    (record { message = h.message; reads = h.reads; value = h.survey.is }) d)
surveyed_only (Err e) form bs limits h g v d = not_unaccepted form bs limits v e d g

pub surveyed_short : (r : Result Surveyed Refusal) (form : Form) (bs : List ℕ) (limits : Bounds) →
    limits.message_words ≤ 2 ^ 28 → limits.budget ≤ 2 ^ 28 → limits.depth ≤ 256 →
    IfOk r (λ s. Surveys form bs limits s)
    → IfOk r (λ s. (v : Tree) → Denotes form bs limits v → length (canon v) ≤ 8 * (s.paid + 1))
surveyed_short r form bs limits few small shallow = IfOk-weaker r _ _ (λ s h v d.
    let m = is_message form bs limits.message_words h.message few h.reads in
    let l = denoted_length h.message limits v m small shallow (denoted_here form bs limits h.message v h.reads d) in
    let e = h.survey.pays in
    omega arith)
