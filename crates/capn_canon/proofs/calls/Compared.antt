-- Lemmas on the comparison of two messages. (For `comparison.rt`.)
use Rattle.std.proofs.Common.{◌≡◌, ◌↔◌, ◌^◌, ◌≤◌, ℕ, List, Bool, IsTrue, Result, Ok, Err, IfOk, IfErr, IsOk, None, Some}
use Rattle.std.proofs.Common.{ap, sym, subst, ◌∙◌, refl}
use Rattle.capn_words.specs.Message.{IsMessage}
use Rattle.capn_value.specs.Tree.{Tree}
use Rattle.capn_value.specs.FirstCap.{first_cap}
use Rattle.capn_value.specs.Same.{Same}
use Rattle.capn_walk.specs.Accepted.{IsValueOf, root}
use Rattle.capn_walk.specs.Limits.{Bounds}
use Rattle.capn_walk.proofs.shared.Unique.{unique}
use Rattle.capn_layout.specs.Layout.{canon}
use Rattle.capn_canon.specs.declared.refusal.Refusal.{Refusal}
use Rattle.capn_canon.specs.declared.refusal.Refusal.TheVariants as refusals
use Rattle.capn_canon.specs.declared.same_refusal.SameRefusal.{SameRefusal}
use Rattle.capn_canon.specs.declared.same_refusal.Side.{Side}
use Rattle.capn_canon.specs.declared.same_refusal.Side.TheVariants.{First, Second}
use Rattle.capn_canon.specs.CanonicalLength.{HasBytes}
use Rattle.capn_canon.specs.SameMessages.{SaysSame, IsUnfit, IsRefusedOn, IsNotCompared}
use Rattle.capn_canon.proofs.shared.NotRefused.{accepted-not_refused}
use Rattle.capn_canon.proofs.theorem.EqualExactlySame.{equal_exactly_same}
use Rattle.capn_canon.proofs.theorem.Headline.{denoted_fits, denoted_in_range}

module _ (a b : List (List ℕ)) (limits : Bounds) (ia : IsMessage a) (ib : IsMessage b) (small : limits.budget ≤ 2 ^ 28)
    (shallow : limits.depth ≤ 256) where
  equal-of : (same : Bool) → SaysSame a b limits same → (v w : Tree) → IsValueOf a limits v → IsValueOf b limits w
      → IsTrue same ↔ (canon v ≡ canon w)
  equal-of same s v w h g =
      let ev = unique a s.one v root s.first.is h.is in
      let ew = unique b s.two w root s.second.is g.is in
      let e = equal_exactly_same v w (denoted_fits a limits v ia small shallow h)
      (denoted_in_range a limits v ia small shallow h) (denoted_fits b limits w ib small shallow g)
      (denoted_in_range b limits w ib small shallow g) in
      let o = subst (λ (t : Tree). IsTrue same ↔ Same t w) ev
      (subst (λ (t : Tree). IsTrue same ↔ Same s.one t) ew s.answer) in
      ((λ y. e.1 (o.0 y)), (λ q. o.1 (e.0 q)))

  pub equal-bytes : (r : Result Bool SameRefusal) → IfOk r (λ same. SaysSame a b limits same)
      → IfOk r (λ same. (v w : Tree) → IsValueOf a limits v → IsValueOf b limits w → IsTrue same ↔ (canon v ≡ canon w))
  equal-bytes (Ok same) s = equal-of same s
  equal-bytes (Err e) s = tt

no-unfit : (m : List (List ℕ)) (limits : Bounds) (e : Refusal) → IsUnfit m limits e → HasBytes m limits → ⊥
no-unfit m limits (refusals.Walk s) u (v, is, free) = accepted-not_refused m limits s is.accepted u.0
no-unfit m limits (refusals.Capability k) u (v, is, free) =
    let o = u.0 in
    let f : Some k ≡ None = sym o.2 ∙ ap first_cap (unique m o.0 v root o.1.is is.is) ∙ free in
    absurd cc
no-unfit m limits refusals.Memory u h = u.1 refl
no-unfit m limits (refusals.Bare f) u h = absurd u.0
no-unfit m limits (refusals.Packed f) u h = absurd u.0
no-unfit m limits (refusals.Frame f) u h = absurd u.0
no-unfit m limits (refusals.Trailing n) u h = absurd u.0

neither : (a b : List (List ℕ)) (limits : Bounds) (s : Side) (e : Refusal) → IsRefusedOn a b limits s e
    → HasBytes a limits → HasBytes b limits → ⊥
neither a b limits First e u h g = no-unfit a limits e u h
neither a b limits Second e u h g = no-unfit b limits e u.1 g

-- The result `r` of comparing `a` and `b` is `Ok` if and only if both messages have canonical bytes.
pub compared : (a b : List (List ℕ)) (limits : Bounds) (r : Result Bool SameRefusal)
    → IfOk r (λ same. SaysSame a b limits same) → IfErr r (λ e. IsNotCompared a b limits e)
    → IsOk r ↔ (HasBytes a limits × HasBytes b limits)
compared a b limits (Ok same) s u =
    ((λ o. ((s.one, s.first, s.first_free), (s.two, s.second, s.second_free))), (λ h. refl))
compared a b limits (Err e) s u = ((λ o. absurd cc), (λ h. absurd (neither a b limits e.side e.refusal u h.0 h.1)))
