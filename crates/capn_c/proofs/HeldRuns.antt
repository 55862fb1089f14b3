-- Segments that are no message are refused for a true reason, which is not `Memory`. (For `hash_held`,
-- `message_figures.rt`, `canonical_fill.rt` and `DecidedHeld`.)
use Rattle.std.proofs.Common.{◌≡◌, ◌∙◌, ℕ, List, Some, None, refl, ap, sym, subst, Result, Err, arith}
use Rattle.capn_stream.specs.Segments.{IsHeld}
use Rattle.capn_stream.specs.declared.fault.FrameFault.{FrameFault}
use Rattle.capn_stream.specs.declared.fault.FrameFault.TheVariants as frame
use Rattle.capn_value.specs.FirstCap.{first_cap}
use Rattle.capn_value.specs.Tree.{Tree}
use Rattle.capn_walk.specs.Accepted.{root}
use Rattle.capn_walk.specs.Limits.{Bounds}
use Rattle.capn_walk.proofs.shared.Unique.{unique}
use Rattle.capn_canon.specs.Refusal.{IsPaidWithin, IsUnaccepted}
use Rattle.capn_canon.specs.declared.refusal.Refusal.{Refusal}
use Rattle.capn_canon.specs.declared.refusal.Refusal.TheVariants as refusals
use Rattle.capn_canon.proofs.shared.NotRefused.{accepted-not_refused}
use Rattle.capn_c.specs.Held.{DenotesHeld, IsHeldOr, IsMisheld, IsRefusedHeld, IsUnacceptedHeld}

pub held_not_misheld : (m : List (List ℕ)) (most : ℕ) (x : FrameFault) → IsHeld m most → IsMisheld m most x → ⊥
held_not_misheld m most frame.Empty h k = let a = h.some in absurd (omega (arith, k))
held_not_misheld m most (frame.TooManySegments n) h k =
    let a = h.few in let b = k.0 in let d = k.1 in absurd (omega arith)
held_not_misheld m most (frame.TooManyWords n) h k = let a = h.room in let b = k.2 in absurd (omega arith)
held_not_misheld m most frame.Memory h k = k
held_not_misheld m most frame.Cut h k = k
held_not_misheld m most frame.Failed h k = k

module _ (m : List (List ℕ)) (limits : Bounds) where
  -- If the segments of `m` denote a value, a refusal to accept them is `Memory`.
  pub held_not_unaccepted : (v : Tree) (e : Refusal) → DenotesHeld m limits v → IsUnacceptedHeld m limits e
      → e ≡ refusals.Memory
  held_not_unaccepted v refusals.Memory d h = refl
  held_not_unaccepted v (refusals.Frame x) d h = absurd (held_not_misheld m limits.message_words x d.held h)
  held_not_unaccepted v (refusals.Walk s) d h = absurd (accepted-not_refused m limits s d.value.accepted h.1)
  held_not_unaccepted v (refusals.Capability k) d h = absurd h
  held_not_unaccepted v (refusals.Trailing at) d h = absurd h
  held_not_unaccepted v (refusals.Bare x) d h = absurd h
  held_not_unaccepted v (refusals.Packed x) d h = absurd h

  -- If the segments of `m` denote a value without capabilities, a refusal of them is `Memory`.
  pub held_not_refused : (v : Tree) (e : Refusal) → DenotesHeld m limits v → first_cap v ≡ None
      → IsRefusedHeld m limits e → e ≡ refusals.Memory
  held_not_refused v refusals.Memory d free h = refl
  held_not_refused v (refusals.Frame x) d free h = absurd (held_not_misheld m limits.message_words x d.held h)
  held_not_refused v (refusals.Walk s) d free h = absurd (accepted-not_refused m limits s d.value.accepted h.1)
  held_not_refused v (refusals.Capability k) d free (held, (w, is, some)) =
      let same = unique m w v root is.is d.value.is in
      let none : Some k ≡ None = sym some ∙ ap first_cap same ∙ free in
      absurd cc
  held_not_refused v (refusals.Trailing at) d free h = absurd h
  held_not_refused v (refusals.Bare x) d free h = absurd h
  held_not_refused v (refusals.Packed x) d free h = absurd h

  -- A refusal to accept the message `m` is also a refusal to accept the segments that hold `m`.
  pub message_unaccepted_held : (e : Refusal) → IsHeld m limits.message_words → IsUnaccepted m limits e
      → IsUnacceptedHeld m limits e
  message_unaccepted_held refusals.Memory held h = tt
  message_unaccepted_held (refusals.Walk s) held h = (held, h)
  message_unaccepted_held (refusals.Frame x) held h = absurd h
  message_unaccepted_held (refusals.Capability k) held h = absurd h
  message_unaccepted_held (refusals.Trailing at) held h = absurd h
  message_unaccepted_held (refusals.Bare x) held h = absurd h
  message_unaccepted_held (refusals.Packed x) held h = absurd h

  -- ---- segments that are no message

  pub unheld_unaccepted : (e : Refusal) → IsHeldOr m limits (Err e) → IsUnacceptedHeld m limits e
  unheld_unaccepted refusals.Memory h = tt
  unheld_unaccepted (refusals.Frame x) h = h
  unheld_unaccepted (refusals.Walk s) h = absurd h
  unheld_unaccepted (refusals.Capability k) h = absurd h
  unheld_unaccepted (refusals.Trailing at) h = absurd h
  unheld_unaccepted (refusals.Bare x) h = absurd h
  unheld_unaccepted (refusals.Packed x) h = absurd h

  pub unheld_within : (e : Refusal) → IsHeldOr m limits (Err e) → IsPaidWithin limits.budget e
  unheld_within refusals.Memory h = tt
  unheld_within (refusals.Frame x) h = tt
  unheld_within (refusals.Walk s) h = absurd h
  unheld_within (refusals.Capability k) h = absurd h
  unheld_within (refusals.Trailing at) h = absurd h
  unheld_within (refusals.Bare x) h = absurd h
  unheld_within (refusals.Packed x) h = absurd h

  pub unheld_other : {T : Type 0} (r : Result T Refusal) (e : Refusal) → r ≡ Err e → IsHeldOr m limits (Err e)
      → r ≡ Err refusals.Memory → ⊥
  unheld_other r e is h w =
      let q = sym is ∙ w in
      let same : e ≡ refusals.Memory = cc in
      subst (λ (x : Refusal). IsHeldOr m limits (Err x)) same h
