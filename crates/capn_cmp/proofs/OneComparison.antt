-- Lemmas for `one_text`: the state and the message determine the effect of `cmp`.
use Rattle.std.proofs.Common.{◌≡◌, inl, inr, ℕ, List, [], ◌∷◌, Some, None, Result, refl, ap, ap₂, sym, subst, ◌∙◌}
use Rattle.capn_words.proofs.shared.OneSegment.{one_bare}
use Rattle.capn_value.specs.Tree.{Tree}
use Rattle.capn_value.specs.FirstCap.{first_cap}
use Rattle.capn_walk.specs.Limits.{Bounds}
use Rattle.capn_walk.specs.Accepted.{root}
use Rattle.capn_walk.specs.ValueAt.{IsAt}
use Rattle.capn_walk.proofs.shared.Unique.{unique}
use Rattle.capn_canon.specs.Layout.{canon}
use Rattle.capn_canon.specs.Denotes.{AnswersMessage}
use Rattle.capn_canon.specs.Refusal.{IsRefusedMessage}
use Rattle.capn_canon.specs.declared.refusal.Refusal.{Refusal}
use Rattle.capn_canon.specs.declared.refusal.Refusal.TheVariants as refusals
use Rattle.capn_canon.proofs.shared.NotRefused.{accepted-not_refused}
use Rattle.capn_canon.proofs.shared.OneRefusal.{message_part, one_message_refusal}
use Rattle.capn_serve.specs.FormRun.{form_of}
use Rattle.capn_serve.specs.declared.fault.RunFault.{RunFault}
use Rattle.capn_serve.specs.declared.position.Position.{Position}
use Rattle.capn_serve.specs.declared.service.Run.{Run}
use Rattle.capn_serve.proofs.shared.OneServing.{IsOneWay, one_serving}
use Rattle.capn_cmp.specs.CmpMessages.{CmpState, Compares, IsForm, IsReport, refuses, report, serves}
use Rattle.capn_cmp.specs.CmpRun.{cmp_fold, first_run, outcome}
use Rattle.capn_cmp.specs.Laws.{OneCmp}
use Rattle.capn_cmp.specs.LinesApart.{AreApart}
use Rattle.capn_cmp.specs.ShownText.{IsShown, shown_with_ways}
use Rattle.capn_cmp.specs.declared.cmp_order.CmpOrder.{CmpOrder}
use Rattle.capn_cmp.proofs.Lines.{one_apart}

-- ---- canonical bytes

module _ (m : List (List ℕ)) (limits : Bounds) where
  pub one_form : (a b : List ℕ) → IsForm m limits a → IsForm m limits b → a ≡ b
  one_form a b (p, h) (q, k) =
      h.canonical ∙ ap canon (unique m h.value k.value root h.is.is k.is.is) ∙ sym k.canonical

  -- A message with canonical bytes is not refused.
  pub not_formed : (bytes : List ℕ) (price : ℕ) (r : Refusal) → AnswersMessage m limits bytes price
      → IsRefusedMessage m limits r → (r ≡ refusals.Memory → ⊥) → ⊥
  not_formed bytes price r a h other = elim (message_part m limits r other h) [
    | inl p ↦ accepted-not_refused m limits p.0 a.is.accepted p.2
    | inr p ↦
        let bad : Some p.0 ≡ None = sym p.2.2 ∙ ap first_cap (unique m p.2.0 a.value root p.2.1.is a.is.is)
        ∙ a.free in
        absurd (cc)
  ]

-- ---- the report

one_shown : (bytes t u : List ℕ) → IsShown bytes t → IsShown bytes u → t ≡ u
one_shown bytes t u h k =
    let words : h.words ≡ k.words = one_bare bytes h.words k.words h.bare k.bare in
    let is : IsAt (k.words ∷ []) root h.value = subst (λ (ws : List ℕ). IsAt (ws ∷ []) root h.value) words h.is in
    h.shown ∙ ap (λ (ws : List ℕ). shown_with_ways ws h.value) words
    ∙ ap (λ (v : Tree). shown_with_ways k.words v) (unique (k.words ∷ []) h.value k.value root is k.is) ∙ sym k.shown

one_report : (at : Position) (first bytes t u : List ℕ) → IsReport at first bytes t → IsReport at first bytes u → t ≡ u
one_report at first bytes t u (a, b, l, m, is, has, apart, told) (c, d, n, o, also, owns, differs, said) =
    let one : a ≡ c = one_shown first a c is also in
    let two : b ≡ d = one_shown bytes b d has owns in
    let lines = one_apart c d l m n o
    (subst (λ (x : List ℕ). AreApart c x l m) two (subst (λ (x : List ℕ). AreApart x b l m) one apart)) differs in
    told ∙ ap₂ (λ (x y : List ℕ). report at x y) lines.0 lines.1 ∙ sym said

-- ---- a message

module _ (s : CmpState) (at : Position) (bytes : List ℕ) where
  one_compared : (t u : List ℕ) (p q : CmpState) → Compares s at bytes t p → Compares s at bytes u q
      → (t ≡ u) × (p ≡ q)
  one_compared t u p q (inl (z, e, a)) (inl (w, h, b)) = (e ∙ sym h, a ∙ sym b)
  one_compared t u p q (inl (z, e, a)) (inr (inl (later, same, h, b))) = absurd (later z)
  one_compared t u p q (inl (z, e, a)) (inr (inr (later, other, told, b))) = absurd (later z)
  one_compared t u p q (inr (inl (later, same, e, a))) (inl (z, h, b)) = absurd (later z)
  one_compared t u p q (inr (inr (later, other, told, a))) (inl (z, h, b)) = absurd (later z)
  one_compared t u p q (inr (inl (later, same, e, a))) (inr (inl (late, alike, h, b))) = (e ∙ sym h, a ∙ sym b)
  one_compared t u p q (inr (inl (later, same, e, a))) (inr (inr (late, other, told, b))) = absurd (other same)
  one_compared t u p q (inr (inr (later, other, told, a))) (inr (inl (late, same, h, b))) = absurd (other same)
  one_compared t u p q (inr (inr (later, other, told, a))) (inr (inr (late, differs, said, b))) =
      (one_report at s.first bytes t u told said, a ∙ sym b)

module _ (s : CmpState) (at : Position) (frame : List ℕ) (m : List (List ℕ)) where
  one_step : (t u : List ℕ) (p q : CmpState) → serves s at frame m t p → serves s at frame m u q → (t ≡ u) × (p ≡ q)
  one_step t u p q (a, is, h) (b, also, k) =
      one_compared s at b t u p q (subst (λ (x : List ℕ). Compares s at x t p) (one_form m s.limits a b is also) h) k

  not_both : (t : List ℕ) (p : CmpState) (r : Refusal) → serves s at frame m t p → refuses s at frame m r → ⊥
  not_both t p r (bytes, (price, is), compares) (h, other) = not_formed m s.limits bytes price r is h other

pub cmp_one_way : (order : CmpOrder) → IsOneWay (cmp_fold order)
cmp_one_way order = record {
  steps = λ x frame m t u y z h k.
      let same = one_step x.service x.at frame m t u y.service z.service h.0 k.0 in
      let at : y.at ≡ z.at = h.1 ∙ sym k.1 in
      (same.0, λ i. record { service = same.1 i; at = at i });
  refusals = λ x frame m r s h k. one_message_refusal m x.service.limits r s h.1 k.1 h.0 k.0;
  never_both = λ x frame m t y r h k. not_both x.service x.at frame m t y.service r h.0 k;
}

pub one_cmp : OneCmp
one_cmp order input t u r s y z h k =
    let same = one_serving (cmp_fold order) (cmp_one_way order) (first_run order) (form_of order.form) input t u r s y z
    h k in
    (same.0, ap₂ (λ (e : Result (Unit {0}) RunFault) (x : Run CmpState). outcome e x) same.1.0 same.1.1)
