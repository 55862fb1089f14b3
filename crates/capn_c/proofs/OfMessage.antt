-- The result for a message is also the result for the bytes that are read as that message. (For `canonical_fill.rt`,
-- `canonical_segments_call.rt` and `message_index.rt`.)
use Rattle.std.proofs.Common.{rules, ◌≡◌, ℕ, List, Err, sym, subst}
use Rattle.capn_value.specs.Tree.{Tree}
use Rattle.capn_walk.specs.Accepted.{IsValueOf}
use Rattle.capn_walk.specs.Limits.{Bounds}
use Rattle.capn_canon.specs.declared.form.Form.{Form}
use Rattle.capn_canon.specs.declared.refusal.Refusal.{Refusal}
use Rattle.capn_canon.specs.Denotes.{Denotes}
use Rattle.capn_canon.specs.Reads.{Reads}
use Rattle.capn_canon.specs.Refusal.{IsRefusedMessage}
use Rattle.capn_canon.proofs.shared.OneReading.{one_message}
use Rattle.capn_abi.specs.StatusCodes.{code}
use Rattle.capn_stream.specs.Segments.{IsHeld}
use Rattle.capn_c.specs.Held.{IsHeldOr, IsRefusedHeld}
use Rattle.capn_c.proofs.OutOfMemory.{held_memory}

-- If `bs` are read as `m` and denote the value `v`, `v` is the value of `m`.
pub value_of : (form : Form) (bs : List ℕ) (limits : Bounds) (m : List (List ℕ)) → Reads form bs limits.message_words m
    → (v : Tree) → Denotes form bs limits v → IsValueOf m limits v
value_of form bs limits m reads v d =
    let same = one_message form bs limits.message_words d.message m d.reads reads in
    subst (λ (x : List (List ℕ)). IsValueOf x limits v) same d.value

pub denoted : {f g : Form} {k l : Bounds} {bs : List ℕ} {v : Tree} → f ≡ g → k ≡ l → Denotes g bs l v
    → Denotes f bs k v
denoted {f} {g} {k} {l} {bs} {v} e h d =
    subst (λ (x : Bounds). Denotes f bs x v) (sym h) (subst (λ (x : Form). Denotes x bs l v) (sym e) d)

-- ---- segments

pub held_refused : (m : List (List ℕ)) (limits : Bounds) (r : Refusal) → IsHeldOr m limits (Err r)
    → IsRefusedHeld m limits r
held_refused m limits r h = search rules

pub held_asks : (m : List (List ℕ)) (limits : Bounds) (r : Refusal) → IsHeldOr m limits (Err r) → code r ≡ 8 → ⊥
held_asks m limits r h e =
    let memory = held_memory m limits r (held_refused m limits r h) e in
    subst (λ (x : Refusal). IsHeldOr m limits (Err x)) memory h

pub held_refused_message : (m : List (List ℕ)) (limits : Bounds) (r : Refusal) → IsHeld m limits.message_words
    → IsRefusedMessage m limits r → IsRefusedHeld m limits r
held_refused_message m limits r h e = search rules
