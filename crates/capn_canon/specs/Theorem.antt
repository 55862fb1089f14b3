-- The theorem of the README, in definitions for its sentences. Each definition is a clause of `canonical_into` or of
-- `canonicalise`.
use Rattle.std.specs.Prelude.{◌≡◌, ◌≢◌, ◌↔◌, ℕ, ◌<◌, ◌≤◌, List, ◌++◌, length, drop, Some, None, Result, Err, IsOk}
use Rattle.std.specs.Prelude.{IfOk, MatchResult}
use Rattle.capn_value.specs.Tree.{Tree}
use Rattle.capn_value.specs.FirstCap.{first_cap}
use Rattle.capn_value.specs.Same.{Same}
use Rattle.capn_walk.specs.Accepted.{IsValueOf, IsWalkRefused, paid}
use Rattle.capn_walk.specs.Limits.{Bounds, AreLimits}
use Rattle.capn_walk.specs.declared.walk_answer.Stopped.{Stopped}
use Rattle.capn_canon.specs.declared.form.Form.{Form}
use Rattle.capn_canon.specs.declared.form.Form.TheVariants as forms
use Rattle.capn_canon.specs.declared.refusal.Refusal.{Refusal}
use Rattle.capn_canon.specs.declared.refusal.Refusal.TheVariants as refusals
use Rattle.capn_canon.specs.declared.canonical.Canonical.{Canonical}
use Rattle.capn_canon.specs.declared.length.CanonicalLength.{CanonicalLength}
use Rattle.capn_canon.specs.declared.message_refusal.IntoRefusal.{IntoRefusal}
use Rattle.capn_canon.specs.declared.message_refusal.IntoRefusal.TheVariants as intos
use Rattle.capn_layout.specs.Layout.{canon}
use Rattle.capn_canon.specs.Denotes.{Denotes, Answers}
use Rattle.capn_canon.specs.CanonicalLength.{IsCanonicalLength}

-- ---- the theorem of `canonical_into`, on what it returns for a message, limits and a buffer

-- `r` is `Ok` if and only if `message` denotes a value without capabilities within `limits`, and that value has at most
-- `room` canonical bytes.
abbrev pub AnsweredInto : List (List ℕ) → Bounds → (room : ℕ) → Result CanonicalLength IntoRefusal → Type 0
AnsweredInto message limits room r =
    IsOk r ↔ ((v : Tree) × IsValueOf message limits v × (first_cap v ≡ None) × (length (canon v) ≤ room))

-- `new` is `old` with the canonical bytes of `message` at the beginning. `c` has their length, the number of words paid
-- and the number of visits.
pub record WrittenInto (message : List (List ℕ)) (limits : Bounds) (old new : List ℕ) (c : CanonicalLength)
    : Type 0 where
  pub value : Tree
  pub is : IsCanonicalLength message limits value c
  pub room : length (canon value) ≤ length old
  pub written : new ≡ canon value ++ drop (length (canon value)) old

-- The refusal is true of `message`, and no earlier test refuses `message`. `Walk` says where and why the walk stops.
-- `Capability` has the index of the first capability. `NoRoom` has the length of the canonical bytes, which is above
-- `room`, and the number of words paid.
abbrev pub RefusedInto : List (List ℕ) → Bounds → (room : ℕ) → IntoRefusal → Type 0
RefusedInto message limits room (intos.Walk s) = IsWalkRefused message limits s.fault s.place s.paid s.visits
RefusedInto message limits room (intos.Capability k) = (v : Tree) × IsValueOf message limits v × (first_cap v ≡ Some k)
RefusedInto message limits room (intos.NoRoom n p) =
    (v : Tree) × IsValueOf message limits v × (first_cap v ≡ None) × (n ≡ length (canon v)) × (room < n)
    × (p ≡ paid message limits)

-- ---- read to here for the theorem

-- If `r` is not `Memory`, it is `Ok` if and only if `bs` denote a value without capabilities, in `form` and within
-- `limits`.
abbrev pub Answered : {A : Type 0} → Form → List ℕ → Bounds → Result (Canonical A) Refusal → Type 0
Answered form bs limits r =
    (r ≢ Err refusals.Memory) → IsOk r ↔ ((v : Tree) × Denotes form bs limits v × (first_cap v ≡ None))

-- Let `other` be an answer for any input `ds`, in any form and under any valid limits. Then `answer` equals `other` if
-- and only if `bs` and `ds` denote the same value, up to trailing zero words and trailing null pointers of structs.
abbrev pub EqualExactly : Form → List ℕ → Bounds → List ℕ → Type 0
EqualExactly form bs limits answer = (g : Form) (ds : List ℕ) (other_limits : Bounds) (other : List ℕ) (price : ℕ)
    (v w : Tree) → AreLimits other_limits.message_words other_limits.budget other_limits.depth
    → Answers g ds other_limits other price → Denotes form bs limits v → Denotes g ds other_limits w
    → (answer ≡ other) ↔ Same v w

-- Read bare under the same limits, the bytes of `c` denote a value that is the same as the value that `bs` denote
-- (`Same`). A second call on these bytes returns the same bytes, or `Memory`.
pub record OwnForm {A : Type 0} (form : Form) (bs : List ℕ) (limits : Bounds) (c : Canonical A) : Type 0 where
  pub denoted : Tree
  pub is : Denotes form bs limits denoted
  pub value : Tree
  pub reads_bare : Denotes forms.Bare c.bytes.items limits value
  pub same : Same value denoted
  pub itself : (first_cap value ≡ None) × (canon value ≡ c.bytes.items)
  pub second : (r : Result (Canonical A) Refusal)
      → IfOk r (λ d. Answers forms.Bare c.bytes.items limits d.bytes.items d.paid)
      → Answered forms.Bare c.bytes.items limits r
      → MatchResult r (λ d. d.bytes.items ≡ c.bytes.items) (λ e. e ≡ refusals.Memory)

-- The number of words paid, in an `Ok` or in a `Walk`, is at most `limits.budget`.
abbrev pub WithinBudget : {A : Type 0} → Bounds → Result (Canonical A) Refusal → Type 0
WithinBudget limits r = MatchResult r (λ c. c.paid ≤ limits.budget)
    (λ e. (s : Stopped) → e ≡ refusals.Walk s → s.paid ≤ limits.budget)
