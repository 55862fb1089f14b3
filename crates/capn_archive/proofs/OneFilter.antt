-- Lemmas for `one_text`: the state and the message determine the effect of `filter`.
use Rattle.std.proofs.Common.{◌≡◌, inl, inr, ℕ, List, Bool, true, false, sym, subst, ◌∙◌}
use Rattle.capn_value.specs.Tree.{Tree}
use Rattle.capn_walk.specs.Limits.{Bounds}
use Rattle.capn_walk.specs.Accepted.{IsAccepted, root}
use Rattle.capn_walk.proofs.shared.Unique.{unique}
use Rattle.capn_canon.specs.Measure.{IsCanonicalOf}
use Rattle.capn_canon.specs.declared.refusal.Refusal.{Refusal}
use Rattle.capn_serve.specs.declared.position.Position.{Position}
use Rattle.capn_serve.proofs.shared.OneServing.{IsOneWay}
use Rattle.capn_archive.specs.declared.filter_order.FilterOrder.{FilterOrder}
use Rattle.capn_archive.specs.declared.filter_service.FilterService.{FilterService}
use Rattle.capn_archive.specs.declared.task.Task.TheVariants as tasks
use Rattle.capn_archive.specs.FilterMessages.{IsHeldBack, IsUncanonical, Passes, refuses, serves}
use Rattle.capn_archive.specs.FilterRun.{filter_fold}
use Rattle.capn_archive.specs.Tasks.{IsRefusedBy}
use Rattle.capn_archive.proofs.OneArchive.{not_accepted, one_refused}

module _ (m : List (List ℕ)) (limits : Bounds) where
  pub accepted_of : (canonical : Bool) → Passes canonical m limits → IsAccepted m limits
  accepted_of false passes = passes
  accepted_of true (v, is, own) = is.accepted

  uncanonical_accepted : (canonical : Bool) → IsUncanonical canonical m limits → IsAccepted m limits
  uncanonical_accepted false none = absurd none
  uncanonical_accepted true (v, is, other) = is.accepted

  not_canonical : (canonical : Bool) → Passes canonical m limits → IsUncanonical canonical m limits → ⊥
  not_canonical false passes none = none
  not_canonical true (v, is, own) (w, also, other) =
      other (subst (λ (x : Tree). IsCanonicalOf m x) (unique m v w root is.is also.is) own)

  pub not_refused : (r : Refusal) → IsAccepted m limits → IsRefusedBy tasks.List m limits r → ⊥
  not_refused r is (h, other) = not_accepted m limits r is h other

module _ (s : FilterService) (at : Position) (frame : List ℕ) (m : List (List ℕ)) where
  not_held : Passes s.order.canonical m s.order.limits → IsHeldBack s m → ⊥
  not_held passes (inl uncanonical) = not_canonical m s.order.limits s.order.canonical passes uncanonical
  not_held passes (inr (r, refused)) =
      not_refused m s.order.limits r (accepted_of m s.order.limits s.order.canonical passes) refused

  both_ways : s.order.keep_going ≡ true → s.order.keep_going ≡ false → ⊥
  both_ways going stays = let bad : true ≡ false = sym going ∙ stays in cc

  one_step : (t u : List ℕ) (p q : FilterService) → serves s at frame m t p → serves s at frame m u q
      → (t ≡ u) × (p ≡ q)
  one_step t u p q (inl (passes, e, a)) (inl (also, h, b)) = (e ∙ sym h, a ∙ sym b)
  one_step t u p q (inl (passes, e, a)) (inr (inl (going, held, h, b))) = absurd (not_held passes held)
  one_step t u p q (inl (passes, e, a)) (inr (inr (stays, uncanonical, h, b))) =
      absurd (not_canonical m s.order.limits s.order.canonical passes uncanonical)
  one_step t u p q (inr (inl (going, held, e, a))) (inl (passes, h, b)) = absurd (not_held passes held)
  one_step t u p q (inr (inl (going, held, e, a))) (inr (inl (on, also, h, b))) = (e ∙ sym h, a ∙ sym b)
  one_step t u p q (inr (inl (going, held, e, a))) (inr (inr (stays, uncanonical, h, b))) =
      absurd (both_ways going stays)
  one_step t u p q (inr (inr (stays, uncanonical, e, a))) (inl (passes, h, b)) =
      absurd (not_canonical m s.order.limits s.order.canonical passes uncanonical)
  one_step t u p q (inr (inr (stays, uncanonical, e, a))) (inr (inl (going, held, h, b))) =
      absurd (both_ways going stays)
  one_step t u p q (inr (inr (stays, uncanonical, e, a))) (inr (inr (too, also, h, b))) = (e ∙ sym h, a ∙ sym b)

  not_both : (t : List ℕ) (p : FilterService) (r : Refusal) → serves s at frame m t p → refuses s at frame m r → ⊥
  not_both t p r (inl (passes, e, a)) (stays, refused) =
      not_refused m s.order.limits r (accepted_of m s.order.limits s.order.canonical passes) refused
  not_both t p r (inr (inl (going, held, e, a))) (stays, refused) = both_ways going stays
  not_both t p r (inr (inr (too, uncanonical, e, a))) (stays, refused) =
      not_refused m s.order.limits r (uncanonical_accepted m s.order.limits s.order.canonical uncanonical) refused

-- In a run of `filter` each message has one effect: one text and one next state, or one refusal.
pub filter_one_way : (order : FilterOrder) → IsOneWay (filter_fold order)
filter_one_way order = record {
  steps = λ x frame m t u y z h k.
      let same = one_step x.service x.at frame m t u y.service z.service h.0 k.0 in
      let at : y.at ≡ z.at = h.1 ∙ sym k.1 in
      (same.0, λ i. record { service = same.1 i; at = at i });
  refusals = λ x frame m r s h k. one_refused m x.service.order.limits tasks.List r s h.1 k.1;
  never_both = λ x frame m t y r h k. not_both x.service x.at frame m t y.service r h.0 k;
}
