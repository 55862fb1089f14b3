-- Bytes that denote a value are read and accepted, or refused by `Memory`. (For `Accounted`, capn_answers and capn_c.)
use Rattle.std.proofs.Common.{◌≡◌, ℕ, List, refl, subst}
use Rattle.capn_value.specs.Tree.{Tree}
use Rattle.capn_walk.specs.Accepted.{IsAccepted}
use Rattle.capn_walk.specs.Limits.{Bounds}
use Rattle.capn_canon.specs.declared.form.Form.{Form}
use Rattle.capn_canon.specs.declared.refusal.Refusal.{Refusal}
use Rattle.capn_canon.specs.declared.refusal.Refusal.TheVariants as refusals
use Rattle.capn_canon.specs.Reads.{Reads}
use Rattle.capn_canon.specs.Denotes.{Denotes}
use Rattle.capn_canon.specs.Refusal.{IsUnaccepted, IsUnacceptedIn}
use Rattle.capn_canon.proofs.shared.OneReading.{one_message}
use Rattle.capn_canon.proofs.shared.NotRefused.{read-not_misread, accepted-not_refused}

-- If `bs` denote a value, a refusal to accept `bs` is `Memory` (`IsUnacceptedIn`).
pub not_unaccepted : (form : Form) (bs : List ℕ) (limits : Bounds) (v : Tree) (r : Refusal) → Denotes form bs limits v
    → IsUnacceptedIn form bs limits r → r ≡ refusals.Memory
not_unaccepted form bs limits v refusals.Memory h r = refl
not_unaccepted form bs limits v (refusals.Capability k) h r = absurd r
not_unaccepted form bs limits v (refusals.Walk s) h (m, i, r) =
    let same = one_message form bs limits.message_words h.message m h.reads i in
    absurd (accepted-not_refused m limits s (subst (λ (x : List (List ℕ)). IsAccepted x limits) same h.value.accepted)
    r)
not_unaccepted form bs limits v (refusals.Bare e) h r =
    absurd (read-not_misread form bs limits.message_words h.message (refusals.Bare e) h.reads r)
not_unaccepted form bs limits v (refusals.Packed e) h r =
    absurd (read-not_misread form bs limits.message_words h.message (refusals.Packed e) h.reads r)
not_unaccepted form bs limits v (refusals.Frame e) h r =
    absurd (read-not_misread form bs limits.message_words h.message (refusals.Frame e) h.reads r)
not_unaccepted form bs limits v (refusals.Trailing at) h r =
    absurd (read-not_misread form bs limits.message_words h.message (refusals.Trailing at) h.reads r)

-- If `bs` are read as `m`, a refusal to accept `m` is also a refusal to accept `bs`.
pub unaccepted_message : (form : Form) (bs : List ℕ) (limits : Bounds) (m : List (List ℕ)) (r : Refusal)
    → Reads form bs limits.message_words m → IsUnaccepted m limits r → IsUnacceptedIn form bs limits r
unaccepted_message form bs limits m (refusals.Walk s) h r = (m, h, r)
unaccepted_message form bs limits m refusals.Memory h r = tt
unaccepted_message form bs limits m (refusals.Capability k) h r = absurd r
unaccepted_message form bs limits m (refusals.Bare e) h r = absurd r
unaccepted_message form bs limits m (refusals.Packed e) h r = absurd r
unaccepted_message form bs limits m (refusals.Frame e) h r = absurd r
unaccepted_message form bs limits m (refusals.Trailing at) h r = absurd r
