-- The results of private calls on a message, and on bytes in a form.
use Rattle.std.specs.Prelude.{◌≡◌, ◌≢◌, ℕ, ◌+◌, ◌*◌, ◌<◌, ◌≤◌, List, length, Option, Some, None, Result, IfOk, IfErr}
use Rattle.std.specs.Prelude.{OnErr, IsErrOf, MatchResult}
use Rattle.capn_value.specs.Tree.{Tree}
use Rattle.capn_value.specs.FirstCap.{first_cap}
use Rattle.capn_walk.specs.Accepted.{IsValueOf, IsBounded}
use Rattle.capn_walk.specs.declared.survey_answer.Surveyed.{Surveyed}
use Rattle.capn_walk.specs.Surveyed.{IsSurvey}
use Rattle.capn_walk.specs.Limits.{Bounds}
use Rattle.capn_canon.specs.declared.form.Form.{Form}
use Rattle.capn_canon.specs.declared.refusal.Refusal.{Refusal}
use Rattle.capn_canon.specs.declared.refusal.Refusal.TheVariants as refusals
use Rattle.capn_layout.specs.Layout.{canon}
use Rattle.capn_canon.specs.Denotes.{AnswersMessage, Answers}
use Rattle.capn_canon.specs.SurveyedBytes.{Surveys}
use Rattle.capn_canon.specs.Refusal.{IsRefusedMessage, IsRefused, IsUnaccepted, IsUnacceptedIn, IsPaidWithin}
use Rattle.capn_canon.specs.declared.length.CanonicalLength.{CanonicalLength}
use Rattle.capn_canon.specs.declared.message_refusal.MessageRefusal.{MessageRefusal}
use Rattle.capn_canon.specs.declared.message_refusal.IntoRefusal.{IntoRefusal}
use Rattle.capn_canon.specs.CanonicalLength.{IsCanonicalLength}
use Rattle.capn_canon.specs.MessageRefusal.{HasNoBytes, IsMessagePaidWithin, IsIntoPaidWithin}
use Rattle.capn_canon.specs.Theorem.{WrittenInto, RefusedInto}
use Rattle.capn_canon.specs.MemoryNeed.{MayNeedMemory, MayNeedBytes, MayNeedBytesIn}

-- If `r` is `Ok`, it has the canonical bytes of `message` and the price. If `r` is an `Err`, its refusal is true of
-- `message` (`IsRefusedMessage`), and is `Memory` only if `message` has canonical bytes. The number of words paid, in
-- an `Ok` or in a `Walk`, is at most the budget.
pub record IsCanonicalised {T : Type 0} (message : List (List ℕ)) (limits : Bounds) (r : Result T Refusal)
    (bytes : T → List ℕ) (price : T → ℕ) : Type 0 where
  pub found : IfOk r (λ c. AnswersMessage message limits (bytes c) (price c))
  pub only : (v : Tree) → IsValueOf message limits v → first_cap v ≡ None
      → MatchResult r (λ c. bytes c ≡ canon v) (λ e. e ≡ refusals.Memory)
  pub refused : IfErr r (λ e. IsRefusedMessage message limits e)
  pub wanted : IsErrOf r refusals.Memory → MayNeedBytes message limits
  pub bounded : MatchResult r (λ c. price c ≤ limits.budget) (λ e. IsPaidWithin limits.budget e)

-- If `r` is `Ok`, it has the canonical bytes of `bs` and the price. If `r` is an `Err`, its refusal is true of `bs`
-- (`IsRefused`), and is `Memory` only if memory may be needed (`MayNeedBytesIn`). The number of words paid, in an `Ok`
-- or in a `Walk`, is at most the budget.
pub record AreCanonicalised {T : Type 0} (form : Form) (bs : List ℕ) (limits : Bounds) (r : Result T Refusal)
    (bytes : T → List ℕ) (price : T → ℕ) : Type 0 where
  pub found : IfOk r (λ c. Answers form bs limits (bytes c) (price c))
  pub refused : IfErr r (λ e. IsRefused form bs limits e)
  pub wanted : IsErrOf r refusals.Memory → MayNeedBytesIn form bs limits
  pub bounded : MatchResult r (λ c. price c ≤ limits.budget) (λ e. IsPaidWithin limits.budget e)

-- If `r` is `Ok`, it is the survey of `bs`. If `r` is an `Err`, its refusal is true of `bs` (`IsUnacceptedIn`), and is
-- `Memory` only if reading `bs` may need memory. The number of words paid, in an `Ok` or in a `Walk`, is at most the
-- budget.
pub record AreSurveyed (form : Form) (bs : List ℕ) (limits : Bounds) (r : Result Surveyed Refusal) : Type 0 where
  pub found : IfOk r (λ s. Surveys form bs limits s)
  pub refused : IfErr r (λ e. IsUnacceptedIn form bs limits e)
  pub wanted : IsErrOf r refusals.Memory → MayNeedMemory form bs limits
  pub bounded : MatchResult r (λ s. IsBounded limits.budget s.paid s.visits) (λ e. IsPaidWithin limits.budget e)

-- If `r` is `Ok`, it is the survey of `message`. If `r` is an `Err`, it says why `message` is not accepted, and is not
-- `Memory`. The number of words paid, in an `Ok` or in a `Walk`, is at most the budget.
pub record IsSurveyed (message : List (List ℕ)) (limits : Bounds) (r : Result Surveyed Refusal) : Type 0 where
  pub found : IfOk r (λ s. IsSurvey message limits s)
  pub refused : IfErr r (λ e. IsUnaccepted message limits e)
  pub no_memory : IfErr r (λ e. e ≢ refusals.Memory)
  pub bounded : MatchResult r (λ s. IsBounded limits.budget s.paid s.visits) (λ e. IsPaidWithin limits.budget e)

-- A count of reads grows from `old` to `new`, by at most `n * (limits.budget + 1)`. If `r` is `Ok`, the count grows by
-- at most `n * (price c + 1)`.
abbrev pub ReadsWithin : {T E : Type 0} → ℕ → Bounds → Result T E → (T → ℕ) → ℕ → ℕ → Type 0
ReadsWithin n limits r price old new =
    IfOk r (λ c. new ≤ old + n * (price c + 1)) × (new ≤ old + n * (limits.budget + 1))

-- The option is `Some n` if `n` is above `room`, and otherwise `None`.
abbrev pub IsBeyond : ℕ → ℕ → Option ℕ → Type 0
IsBeyond n room (Some k) = (k ≡ n) × (room < n)
IsBeyond n room None = n ≤ room

-- If `r` is `Ok`, it has the length of the canonical bytes of `message`. If `r` is an `Err`, it says why `message` has
-- no canonical bytes. The number of words paid, in an `Ok` or in a `Walk`, is at most the budget.
pub record IsLengthTold (message : List (List ℕ)) (limits : Bounds) (r : Result CanonicalLength MessageRefusal)
    : Type 0 where
  pub found : IfOk r (λ c. (v : Tree) × IsCanonicalLength message limits v c)
  pub refused : IfErr r (λ e. HasNoBytes message limits e)
  pub bounded : MatchResult r (λ c. IsBounded limits.budget c.paid c.visits) (λ e. IsMessagePaidWithin limits.budget e)

-- If `r` is `Ok`, the canonical bytes of `message` are written to the buffer (`WrittenInto`). If `r` is an `Err`, its
-- refusal is true of `message` (`RefusedInto`), and the buffer is as before. The number of words paid, in an `Ok`, a
-- `Walk` or a `NoRoom`, is at most the budget.
pub record IsInto (message : List (List ℕ)) (limits : Bounds) (old new : List ℕ)
    (r : Result CanonicalLength IntoRefusal) : Type 0 where
  pub written : IfOk r (λ c. WrittenInto message limits old new c)
  pub refused : IfErr r (λ e. RefusedInto message limits (length old) e)
  pub unchanged : OnErr r (new ≡ old)
  pub bounded : MatchResult r (λ c. IsBounded limits.budget c.paid c.visits) (λ e. IsIntoPaidWithin limits.budget e)
