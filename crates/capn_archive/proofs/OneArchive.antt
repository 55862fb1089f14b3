-- Lemmas for `one_text`: the state and the message determine the effect of a run over an archive.
use Rattle.std.proofs.Common.{◌≡◌, ◌↔◌, inl, inr, ℕ, List, Bool, true, false, Option, Some, None, refl, ap, sym, subst}
use Rattle.std.proofs.Common.{◌∙◌, arith}
use Rattle.std.proofs.lemmas.Bool.{cases_lt}
use Rattle.std.specs.Bool.{IsTrue}
use Rattle.sha2.specs.Sha256.{sha256}
use Rattle.capn_words.specs.Message.{total}
use Rattle.capn_value.specs.Tree.{Tree}
use Rattle.capn_value.specs.FirstCap.{first_cap}
use Rattle.capn_walk.specs.Limits.{Bounds}
use Rattle.capn_walk.specs.Accepted.{IsAccepted, paid, root}
use Rattle.capn_walk.specs.Depth.{IsDepth}
use Rattle.capn_walk.proofs.shared.Unique.{unique}
use Rattle.capn_canon.specs.Layout.{canon}
use Rattle.capn_canon.specs.Denotes.{AnswersMessage}
use Rattle.capn_canon.specs.Refusal.{IsRefusedMessage, IsUnaccepted}
use Rattle.capn_canon.specs.declared.refusal.Refusal.{Refusal}
use Rattle.capn_canon.specs.declared.refusal.Refusal.TheVariants as refusals
use Rattle.capn_canon.specs.declared.surveyed_bare.SurveyedBare.{SurveyedBare}
use Rattle.capn_canon.proofs.shared.NotRefused.{accepted-not_refused}
use Rattle.capn_canon.proofs.shared.OneRefusal.{message_part, one_message_refusal}
use Rattle.capn_serve.specs.declared.position.Position.{Position}
use Rattle.capn_serve.proofs.shared.OneServing.{IsOneWay}
use Rattle.capn_archive.specs.CanonicalFrame.{framed}
use Rattle.capn_canon.specs.Measure.{IsCanonicalOf, IsChecked, IsMeasure}
use Rattle.capn_archive.specs.MessageHead.{head_of}
use Rattle.capn_archive.specs.Digest.{IsDigest, IsDigestIfAny, IsUndigested}
use Rattle.capn_archive.specs.Lines.{digests_line, list_line}
use Rattle.capn_archive.specs.Tally.{counted}
use Rattle.capn_archive.specs.Tasks.{IsRefusedBy, IsServedBy, refuses, serves, skipped_text}
use Rattle.capn_archive.specs.ArchiveRun.{archive_fold}
use Rattle.capn_archive.specs.declared.archive_service.ArchiveService.{ArchiveService}
use Rattle.capn_canon.specs.declared.surveyed_bare.MeasuredBare.{MeasuredBare}
use Rattle.capn_archive.specs.declared.tally.Tally.{Tally}
use Rattle.capn_archive.specs.declared.task.ArchiveOrder.{ArchiveOrder}
use Rattle.capn_archive.specs.declared.task.Task.{Task}
use Rattle.capn_archive.specs.declared.task.Task.TheVariants as tasks

one_answer : (a b : Bool) (P : Type 0) → (IsTrue a ↔ P) → (IsTrue b ↔ P) → a ≡ b
one_answer true true P h k = refl
one_answer true false P h k = absurd (let bad : false ≡ true = k.1 (h.0 refl) in cc)
one_answer false true P h k = absurd (let bad : false ≡ true = h.1 (k.0 refl) in cc)
one_answer false false P h k = refl

module _ (m : List (List ℕ)) (limits : Bounds) where
  unaccepted_message : (r : Refusal) → IsUnaccepted m limits r → (r ≡ refusals.Memory → ⊥)
      → IsRefusedMessage m limits r
  unaccepted_message (refusals.Walk s) h other = h
  unaccepted_message refusals.Memory h other = absurd (other refl)
  unaccepted_message (refusals.Capability k) h other = absurd h
  unaccepted_message (refusals.Bare e) h other = absurd h
  unaccepted_message (refusals.Packed e) h other = absurd h
  unaccepted_message (refusals.Frame e) h other = absurd h
  unaccepted_message (refusals.Trailing at) h other = absurd h

  pub refused_message : (task : Task) (r : Refusal) → IsRefusedBy task m limits r → IsUndigested m limits r
  refused_message tasks.Canonical r h = h
  refused_message _ r (h, other) = (unaccepted_message r h other, other)

  pub not_accepted : (r : Refusal) → IsAccepted m limits → IsUnaccepted m limits r → (r ≡ refusals.Memory → ⊥) → ⊥
  not_accepted (refusals.Walk s) is h other = accepted-not_refused m limits s is h
  not_accepted refusals.Memory is h other = other refl
  not_accepted (refusals.Capability k) is h other = h
  not_accepted (refusals.Bare e) is h other = h
  not_accepted (refusals.Packed e) is h other = h
  not_accepted (refusals.Frame e) is h other = h
  not_accepted (refusals.Trailing at) is h other = h

  pub not_answered : (bytes : List ℕ) (price : ℕ) (r : Refusal) → AnswersMessage m limits bytes price
      → IsRefusedMessage m limits r → (r ≡ refusals.Memory → ⊥) → ⊥
  not_answered bytes price r a h other = elim (message_part m limits r other h) [
    | inl p ↦ accepted-not_refused m limits p.0 a.is.accepted p.2
    | inr p ↦
        let bad : Some p.0 ≡ None = sym p.2.2 ∙ ap first_cap (unique m p.2.0 a.value root p.2.1.is a.is.is)
        ∙ a.free in
        absurd (cc)
  ]

  pub one_canonical : (a b : List ℕ) (p q : ℕ) → AnswersMessage m limits a p → AnswersMessage m limits b q → a ≡ b
  one_canonical a b p q h k =
      h.canonical ∙ ap canon (unique m h.value k.value root h.is.is k.is.is) ∙ sym k.canonical

  pub one_digest : (d e : List ℕ) → IsDigest m limits d → IsDigest m limits e → d ≡ e
  one_digest d e (a, p, h, is) (b, q, k, also) = is ∙ ap sha256 (one_canonical a b p q h k) ∙ sym also

  digest_or_none : (d : List ℕ) (index : ℕ) → IsDigest m limits d
      → IsRefusedMessage m limits (refusals.Capability index) → ⊥
  digest_or_none d index (a, p, h, is) k = not_answered a p (refusals.Capability index) h k (λ e. cc)

  one_digest_if_any : (d e : Option (List ℕ)) → IsDigestIfAny m limits d → IsDigestIfAny m limits e → d ≡ e
  one_digest_if_any (Some d) (Some e) h k = ap (λ (x : List ℕ). Some x) (one_digest d e h k)
  one_digest_if_any (Some d) None h (index, k) = absurd (digest_or_none d index h k)
  one_digest_if_any None (Some e) (index, h) k = absurd (digest_or_none e index k h)
  one_digest_if_any None None h k = refl

  one_depth : (d e : ℕ) → IsDepth m limits d → IsDepth m limits e → d ≡ e
  one_depth d e h k = elim (cases_lt d e) [
    | inl less ↦ absurd (k.least d less h.accepted)
    | inr more ↦ elim (cases_lt e d) [
      | inl less ↦ absurd (h.least e less k.accepted)
      | inr few ↦ omega (arith, more, few)
    ]
  ]

  one_checked : (c d : SurveyedBare) → IsChecked m limits c → IsChecked m limits d → c ≡ d
  one_checked c d h k =
      let value : h.value ≡ k.value = unique m h.value k.value root h.is.is k.is.is in
      let answer = subst (λ (v : Tree). IsTrue d.is_canonical ↔ IsCanonicalOf m v) (sym value) k.answer in
      let pays : c.paid ≡ d.paid = h.pays ∙ sym k.pays in
      let counts : c.visits ≡ d.visits = h.counts ∙ sym k.counts in
      let caps : c.capability ≡ d.capability = h.capability ∙ ap first_cap value ∙ sym k.capability in
      let canonical : c.is_canonical ≡ d.is_canonical =
      one_answer c.is_canonical d.is_canonical (IsCanonicalOf m h.value) h.answer answer in
      λ i. record { paid = pays i; visits = counts i; capability = caps i; is_canonical = canonical i }

  one_measured : (f g : MeasuredBare) → IsMeasure m limits f → IsMeasure m limits g → f ≡ g
  one_measured f g h k =
      let checked = one_checked f.survey g.survey h.checked k.checked in
      let depth = one_depth f.depth g.depth h.depth k.depth in
      λ i. record { survey = checked i; depth = depth i }

  module _ (tally : Tally) (at : Position) (frame : List ℕ) where
    one_served : (task : Task) (t u : List ℕ) (p q : Tally) → IsServedBy task limits tally at frame m t p
        → IsServedBy task limits tally at frame m u q → (t ≡ u) × (p ≡ q)
    one_served tasks.List t u p q (f, is, e, a) (g, also, h, b) = (
      e ∙ ap (λ (x : MeasuredBare). list_line (head_of at frame m) x) (one_measured f g is also) ∙ sym h,
      a ∙ sym b,
    )
    one_served tasks.Digests t u p q (f, d, is, has, e, a) (g, c, also, owns, h, b) = (
      e ∙ ap (λ (x : MeasuredBare). digests_line (head_of at frame m) x d) (one_measured f g is also)
          ∙ ap (λ (x : Option (List ℕ)). digests_line (head_of at frame m) g x) (one_digest_if_any d c has owns)
          ∙ sym h,
      a ∙ sym b,
    )
    one_served tasks.Canonical t u p q (x, c, is, e, a) (y, d, also, h, b) =
        (e ∙ ap framed (one_canonical x y c d is also) ∙ sym h, a ∙ sym b)
    one_served tasks.Limits t u p q (d, is, deep, e, a) (c, also, high, h, b) = (
      e ∙ sym h,
      a ∙ ap (λ (n : ℕ). counted tally at.index (total m) (paid m limits) n) (one_depth d c deep high) ∙ sym b,
    )

    served_refused : (task : Task) (t : List ℕ) (p : Tally) (r : Refusal)
        → IsServedBy task limits tally at frame m t p → IsRefusedBy task m limits r → ⊥
    served_refused tasks.List t p r (f, is, e, a) (h, other) = not_accepted r is.checked.is.accepted h other
    served_refused tasks.Digests t p r (f, d, is, has, e, a) (h, other) =
        not_accepted r is.checked.is.accepted h other
    served_refused tasks.Canonical t p r (x, c, is, e, a) (h, other) = not_answered x c r is h other
    served_refused tasks.Limits t p r (d, is, deep, e, a) (h, other) = not_accepted r is h other

  pub one_refused : (task : Task) (r s : Refusal) → IsRefusedBy task m limits r → IsRefusedBy task m limits s → r ≡ s
  one_refused task r s h k =
      let (refused, other) = refused_message task r h in
      let (also, another) = refused_message task s k in
      one_message_refusal m limits r s other another refused also

module _ (s : ArchiveService) (at : Position) (frame : List ℕ) (m : List (List ℕ)) where
  one_tally : (t u : List ℕ) (p q : ArchiveService) → serves s at frame m t p → serves s at frame m u q
      → (t ≡ u) × (p.tally ≡ q.tally)
  one_tally t u p q (o, inl h) (e, inl k) =
      one_served m s.order.limits s.tally at frame s.order.task t u p.tally q.tally h k
  one_tally t u p q (o, inl h) (e, inr (going, r, refused, line, a)) =
      absurd (served_refused m s.order.limits s.tally at frame s.order.task t p.tally r h refused)
  one_tally t u p q (o, inr (going, r, refused, line, a)) (e, inl k) =
      absurd (served_refused m s.order.limits s.tally at frame s.order.task u q.tally r k refused)
  one_tally t u p q (o, inr (going, r, refused, line, a)) (e, inr (on, g, also, text, b)) =
      let same = one_refused m s.order.limits s.order.task r g refused also in
      (line ∙ ap (λ (x : Refusal). skipped_text s.order.task at frame m x) same ∙ sym text, a ∙ sym b)

  one_step : (t u : List ℕ) (p q : ArchiveService) → serves s at frame m t p → serves s at frame m u q
      → (t ≡ u) × (p ≡ q)
  one_step t u p q h k =
      let same = one_tally t u p q h k in
      let order : p.order ≡ q.order = h.0 ∙ sym k.0 in
      (same.0, λ i. record { order = order i; tally = same.1 i })

  not_both : (t : List ℕ) (p : ArchiveService) (r : Refusal) → serves s at frame m t p → refuses s at frame m r → ⊥
  not_both t p r (o, inl h) (stays, refused) =
      served_refused m s.order.limits s.tally at frame s.order.task t p.tally r h refused
  not_both t p r (o, inr (going, other, why, line, a)) (stays, refused) = let bad : true ≡ false = sym going
      ∙ stays in cc

-- In a run over an archive each message has one effect: one text and one next state, or one refusal.
pub archive_one_way : (order : ArchiveOrder) → IsOneWay (archive_fold order)
archive_one_way order = record {
  steps = λ x frame m t u y z h k.
      let same = one_step x.service x.at frame m t u y.service z.service h.0 k.0 in
      let at : y.at ≡ z.at = h.1 ∙ sym k.1 in
      (same.0, λ i. record { service = same.1 i; at = at i });
  refusals = λ x frame m r s h k. one_refused m x.service.order.limits x.service.order.task r s h.1 k.1;
  never_both = λ x frame m t y r h k. not_both x.service x.at frame m t y.service r h.0 k;
}
