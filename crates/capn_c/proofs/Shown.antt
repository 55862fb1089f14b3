-- The text of a message is also the text of the bytes that are read as that message, and bytes have only one text in a
-- style. (For `show_in` and `text_in`.)
use Rattle.std.proofs.Common.{◌≡◌, ◌∙◌, inl, inr, ℕ, List, ap, subst, Result, Ok, Err, IfOk, IfErr}
use Rattle.std.proofs.Common.{IsErrOf, MatchResult}
use Rattle.capn_value.specs.Tree.{Tree}
use Rattle.capn_walk.specs.Accepted.{IsBounded}
use Rattle.capn_walk.specs.Limits.{Bounds}
use Rattle.capn_canon.specs.Answered.{IsAnswered, IsRefusedReading}
use Rattle.capn_canon.specs.Denotes.{Denotes}
use Rattle.capn_canon.specs.Refusal.{IsPaidWithin, IsUnacceptedIn}
use Rattle.capn_canon.specs.SurveyedBytes.{Surveys}
use Rattle.capn_canon.specs.declared.form.Form.{Form}
use Rattle.capn_canon.specs.declared.refusal.Refusal.{Refusal}
use Rattle.capn_canon.specs.declared.refusal.Refusal.TheVariants as refusals
use Rattle.capn_canon.proofs.shared.NotUnaccepted.{unaccepted_message}
use Rattle.capn_canon.proofs.shared.OneReading.{one_value}
use Rattle.capn_answers.proofs.shared.Reading.{reading_unaccepted, reading_wanted, reading_within}
use Rattle.capn_show.specs.declared.style.Style.{Style}
use Rattle.capn_c.specs.Shown.{MayNeedText, ShowsIn, message_text}
use Rattle.capn_c.specs.declared.message_text.ShownText.{ShownText}
use Rattle.capn_c.specs.inner.Told.{IsTextTold}

pub text_only : (form : Form) (bs : List ℕ) (limits : Bounds) (style : Style) (text : List ℕ)
    → ShowsIn form bs limits style text → (v : Tree) → Denotes form bs limits v → text ≡ message_text style v
text_only form bs limits style text h v d =
    h.same ∙ ap (message_text style) (one_value form bs limits h.value v h.denotes d)

module _ (form : Form) (bs : List ℕ) (limits : Bounds) (style : Style) where
  abbrev AreTold : Result ShownText Refusal → Type 0
  AreTold r = IsAnswered form bs limits (λ m l x. IsTextTold m l style x) r

  pub text_found : (r : Result ShownText Refusal) → AreTold r → IfOk r (λ x. ShowsIn form bs limits style x.text.items)
  text_found (Ok x) (inl (m, is, h)) =
      let shows = h.found in
      record {
        value = shows.value;
        denotes = record { message = m; reads = is; value = shows.is };
        same = shows.same;
      }
  text_found (Ok x) (inr (e, is, h)) = absurd cc
  text_found (Err e) told = tt

  pub text_surveyed : (r : Result ShownText Refusal) → AreTold r → IfOk r (λ x. Surveys form bs limits x.survey)
  text_surveyed (Ok x) (inl (m, is, h)) = record { message = m; reads = is; survey = h.surveyed }
  text_surveyed (Ok x) (inr (e, is, h)) = absurd cc
  text_surveyed (Err e) told = tt

  pub text_refused : (r : Result ShownText Refusal) → AreTold r → IfErr r (λ e. IsUnacceptedIn form bs limits e)
  text_refused (Err e) (inl (m, is, h)) = unaccepted_message form bs limits m e is h.refused
  text_refused (Err e) (inr (f, is, h)) =
      let same : f ≡ e = cc in
      reading_unaccepted form bs limits e (subst (λ (x : Refusal). IsRefusedReading form bs limits x) same h)
  text_refused (Ok x) told = tt

  pub text_wanted : (r : Result ShownText Refusal) → AreTold r → IsErrOf r refusals.Memory → MayNeedText form bs limits
  text_wanted r (inl (m, is, h)) w =
      let (v, value) = h.memory w in
      inr (v, record { message = m; reads = is; value = value })
  text_wanted r (inr (e, is, h)) w = inl (reading_wanted form bs limits r e is h w)

  pub text_bounded : (r : Result ShownText Refusal) → AreTold r
      → MatchResult r (λ x. IsBounded limits.budget x.survey.paid x.survey.visits) (λ e. IsPaidWithin limits.budget e)
  text_bounded (Ok x) (inl (m, is, h)) = h.bounded
  text_bounded (Ok x) (inr (e, is, h)) = absurd cc
  text_bounded (Err e) (inl (m, is, h)) = h.bounded
  text_bounded (Err e) (inr (f, is, h)) =
      let same : f ≡ e = cc in
      reading_within form bs limits e (subst (λ (x : Refusal). IsRefusedReading form bs limits x) same h)
