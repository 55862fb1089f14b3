-- Lemmas for `one_text`: the state and the message determine the effect of `uniq`.
use Rattle.std.proofs.Common.{◌≡◌, inl, inr, ℕ, List, true, false, ap, sym, ◌∙◌}
use Rattle.capn_canon.specs.declared.refusal.Refusal.{Refusal}
use Rattle.capn_canon.proofs.shared.OneRefusal.{one_message_refusal}
use Rattle.capn_serve.specs.declared.position.Position.{Position}
use Rattle.capn_serve.proofs.shared.OneServing.{IsOneWay}
use Rattle.capn_archive.specs.Digest.{IsDigest, IsUndigested}
use Rattle.capn_archive.specs.UniqMessages.{UniqState, and_one, has, one_served, refuses, serves, kept_text}
use Rattle.capn_archive.specs.UniqRun.{uniq_fold}
use Rattle.capn_archive.specs.declared.uniq_order.UniqOrder.{UniqOrder}
use Rattle.capn_archive.proofs.OneArchive.{not_answered, one_digest}

module _ (s : UniqState) (at : Position) (frame : List ℕ) (m : List (List ℕ)) where
  digested : (d : List ℕ) (r : Refusal) → IsDigest m s.order.limits d → IsUndigested m s.order.limits r → ⊥
  digested d r (bytes, price, is, e) (h, other) = not_answered m s.order.limits bytes price r is h other

  one_step : (t u : List ℕ) (p q : UniqState) → serves s at frame m t p → serves s at frame m u q → (t ≡ u) × (p ≡ q)
  one_step t u p q (inl (d, is, e, a)) (inl (c, also, h, b)) =
      let same = one_digest m s.order.limits d c is also in (
        e ∙ ap (λ (x : List ℕ). kept_text s.order.count (has s.digests x) frame) same ∙ sym h,
        a ∙ ap (λ (x : List ℕ). record {
          order = s.order;
          digests = and_one s.digests x;
          served = one_served s.served;
          skipped = s.skipped;
        }) same ∙ sym b,
      )
  one_step t u p q (inl (d, is, e, a)) (inr (going, r, undigested, h, b)) = absurd (digested d r is undigested)
  one_step t u p q (inr (going, r, undigested, e, a)) (inl (c, also, h, b)) = absurd (digested c r also undigested)
  one_step t u p q (inr (going, r, undigested, e, a)) (inr (on, g, bare, h, b)) = (e ∙ sym h, a ∙ sym b)

  not_both : (t : List ℕ) (p : UniqState) (r : Refusal) → serves s at frame m t p → refuses s at frame m r → ⊥
  not_both t p r (inl (d, is, e, a)) (stays, undigested) = digested d r is undigested
  not_both t p r (inr (going, other, why, line, a)) (stays, undigested) = let bad : true ≡ false = sym going
      ∙ stays in cc

-- In a run of `uniq` each message has one effect: one text and one next state, or one refusal.
pub uniq_one_way : (order : UniqOrder) → IsOneWay (uniq_fold order)
uniq_one_way order = record {
  steps = λ x frame m t u y z h k.
      let same = one_step x.service x.at frame m t u y.service z.service h.0 k.0 in
      let at : y.at ≡ z.at = h.1 ∙ sym k.1 in
      (same.0, λ i. record { service = same.1 i; at = at i });
  refusals = λ x frame m r s h k.
      one_message_refusal m x.service.order.limits r s h.1.1 k.1.1 h.1.0 k.1.0;
  never_both = λ x frame m t y r h k. not_both x.service x.at frame m t y.service r h.0 k;
}
