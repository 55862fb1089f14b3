-- The results of the private functions for one message or two messages.
use Rattle.std.specs.Prelude.{IsTrue, ◌≡◌, ◌≢◌, ◌↔◌, ◌≤◌, ℕ, Bool, List, None}
use Rattle.std.specs.Prelude.{Result, IfOk, IfErr, IsOk, IsErrOf, MatchResult}
use Rattle.sha2.specs.Sha256.{sha256}
use Rattle.capn_words.specs.Message.{bytes, segment_at}
use Rattle.capn_value.specs.FirstCap.{first_cap}
use Rattle.capn_value.specs.Same.{Same}
use Rattle.capn_value.specs.Tree.{Tree}
use Rattle.capn_walk.specs.Accepted.{IsBounded, IsValueOf}
use Rattle.capn_walk.specs.Limits.{Bounds}
use Rattle.capn_walk.specs.Surveyed.{IsSurvey}
use Rattle.capn_show.specs.declared.style.Style.{Style}
use Rattle.capn_canon.specs.Denotes.{AnswersMessage}
use Rattle.capn_canon.specs.Measure.{IsCanonicalOf}
use Rattle.capn_canon.specs.CanonicalLength.{HasBytes}
use Rattle.capn_canon.specs.MemoryNeed.{MayNeedBytes, MayNeedMemory}
use Rattle.capn_canon.specs.Reads.{Reads}
use Rattle.capn_canon.specs.Refusal.{IsPaidWithin, IsRefused, IsRefusedMessage, IsUnaccepted}
use Rattle.capn_canon.specs.declared.form.Form.{Form}
use Rattle.capn_canon.specs.declared.refusal.Refusal.{Refusal}
use Rattle.capn_canon.specs.declared.refusal.Refusal.TheVariants as refusals
use Rattle.capn_c.specs.Figures.{AreFigures}
use Rattle.capn_c.specs.Shown.{ShowsMessage}
use Rattle.capn_c.specs.declared.figures.CapnFigures.{CapnFigures}
use Rattle.capn_c.specs.declared.message_digest.Digested.{Digested}
use Rattle.capn_c.specs.declared.message_digest.Found.{Found}
use Rattle.capn_c.specs.declared.message_digest.Found.TheVariants as found
use Rattle.capn_c.specs.declared.message_text.ShownText.{ShownText}

-- If `r` is `Ok`, it has the text and the survey of `message`. If `r` is an `Err`, its refusal is true of `message`
-- (`IsUnaccepted`), and is `Memory` only if `message` is accepted. The number of words paid, in the survey or in a
-- refusal by the walk, is at most the budget.
pub record IsTextTold (message : List (List ℕ)) (limits : Bounds) (style : Style) (r : Result ShownText Refusal)
    : Type 0 where
  pub found : IfOk r (λ x. ShowsMessage message limits style x.text.items)
  pub surveyed : IfOk r (λ x. IsSurvey message limits x.survey)
  pub refused : IfErr r (λ e. IsUnaccepted message limits e)
  pub memory : IsErrOf r refusals.Memory → (v : Tree) × IsValueOf message limits v
  pub bounded : MatchResult r (λ x. IsBounded limits.budget x.survey.paid x.survey.visits)
      (λ e. IsPaidWithin limits.budget e)

-- The canonical bytes of `message` that were found: the bytes of its first segment, or bytes that were made.
abbrev pub found_bytes : List (List ℕ) → Found → List ℕ
found_bytes message (found.InPlace price) = bytes (segment_at message 0)
found_bytes message (found.Made c) = c.bytes.items

-- the price of the message whose canonical bytes were found
abbrev pub found_price : Found → ℕ
found_price (found.InPlace price) = price
found_price (found.Made c) = c.paid

-- If `r` is `Ok`, it has the canonical bytes of `message` and the price. If `r` is an `Err`, its refusal is true of
-- `message` (`IsRefusedMessage`), and is `Memory` only if `message` has canonical bytes but isn't canonical.
pub record IsFoundTold (message : List (List ℕ)) (limits : Bounds) (r : Result Found Refusal) : Type 0 where
  pub found : IfOk r (λ f. AnswersMessage message limits (found_bytes message f) (found_price f))
  pub refused : IfErr r (λ e. IsRefusedMessage message limits e)
  pub memory : IsErrOf r refusals.Memory → MayNeedBytes message limits
  pub made : IsErrOf r refusals.Memory → (v : Tree) → IsValueOf message limits v → IsCanonicalOf message v → ⊥
  pub bounded : MatchResult r (λ f. found_price f ≤ limits.budget) (λ e. IsPaidWithin limits.budget e)

-- If `r` is `Ok`, it has the digest of the canonical bytes of `message` and the price. If `r` is an `Err`, its refusal
-- is true of `message` (`IsRefusedMessage`), and is `Memory` only if `message` has canonical bytes but isn't canonical.
pub record IsDigestTold (message : List (List ℕ)) (limits : Bounds) (r : Result Digested Refusal) : Type 0 where
  pub found : IfOk r (λ d. (text : List ℕ) × AnswersMessage message limits text d.paid × (d.digest ≡ sha256 text))
  pub refused : IfErr r (λ e. IsRefusedMessage message limits e)
  pub memory : IsErrOf r refusals.Memory → MayNeedBytes message limits
  pub made : IsErrOf r refusals.Memory → (v : Tree) → IsValueOf message limits v → IsCanonicalOf message v → ⊥
  pub bounded : MatchResult r (λ d. d.paid ≤ limits.budget) (λ e. IsPaidWithin limits.budget e)

-- If `r` is `Ok`, it has the figures of `message`. If `r` is an `Err`, its refusal says why `message` is not accepted,
-- and is not `Memory`. The number of words paid, in an `Ok` or in a refusal by the walk, is at most the budget.
pub record AreFiguresFound (message : List (List ℕ)) (limits : Bounds) (r : Result CapnFigures Refusal) : Type 0 where
  pub found : IfOk r (λ f. AreFigures message limits f)
  pub only : (v : Tree) → IsValueOf message limits v → IsOk r
  pub refused : IfErr r (λ e. IsUnaccepted message limits e)
  pub no_memory : IfErr r (λ e. e ≢ refusals.Memory)
  pub bounded : MatchResult r (λ f. IsBounded limits.budget f.paid f.visits) (λ e. IsPaidWithin limits.budget e)

-- If `r` is `Ok`, `are` holds of the figures in it. If `r` is an `Err`, `reason` holds of the refusal in it, which is
-- `Memory` only if `needed` holds. The number of words paid, in an `Ok` or in a refusal by the walk, is at most
-- `budget`.
pub record AreFiguresTold (are : CapnFigures → Type 0) (reason : Refusal → Type 0) (needed : Type 0) (budget : ℕ)
    (r : Result CapnFigures Refusal) : Type 0 where
  pub found : IfOk r (λ f. are f)
  pub refused : IfErr r (λ e. reason e)
  pub memory : IsErrOf r refusals.Memory → needed
  pub bounded : MatchResult r (λ f. IsBounded budget f.paid f.visits) (λ e. IsPaidWithin budget e)

-- If `r` is `Ok`, `told` holds of the result in it. If `r` is an `Err`, its refusal says why `message` has no canonical
-- bytes, and is not `Memory`.
pub record IsToldOf {T : Type 0} (message : List (List ℕ)) (limits : Bounds) (told : T → Type 0) (r : Result T Refusal)
    : Type 0 where
  pub found : IfOk r (λ x. told x)
  pub refused : IfErr r (λ e. IsRefusedMessage message limits e)
  pub no_memory : IfErr r (λ e. e ≢ refusals.Memory)
  pub bounded : IfErr r (λ e. IsPaidWithin limits.budget e)

-- `second` has a value without capabilities. `told` says whether that value is the same as the value of `first`.
abbrev pub IsSameTo : List (List ℕ) → List (List ℕ) → Bounds → Bool → Type 0
IsSameTo first second limits told = (w : Tree) × IsValueOf second limits w × (first_cap w ≡ None)
    × ((v : Tree) → IsValueOf first limits v → IsTrue told ↔ Same v w)

-- `bs` are read as a message whose value has no capabilities. `told` says whether that value is the same as the value
-- of `first`.
abbrev pub IsSameIn : List (List ℕ) → Form → List ℕ → Bounds → Bool → Type 0
IsSameIn first form bs limits told = (second : List (List ℕ)) × Reads form bs limits.message_words second
    × IsSameTo first second limits told

-- If `r` is `Ok`, it says whether `bs` have the value of the message `first`. If `r` is an `Err`, its refusal is true
-- of `bs` (`IsRefused`), and is `Memory` only if reading `bs` may need memory.
pub record IsSecondTold (first : List (List ℕ)) (form : Form) (bs : List ℕ) (limits : Bounds) (r : Result Bool Refusal)
    : Type 0 where
  pub found : IfOk r (λ told. IsSameIn first form bs limits told)
  pub refused : IfErr r (λ e. IsRefused form bs limits e)
  pub memory : IsErrOf r refusals.Memory → MayNeedMemory form bs limits
  pub bounded : IfErr r (λ e. IsPaidWithin limits.budget e)

-- If `message` has canonical bytes, `r` is the result of its comparison with `bs`. Otherwise `r` says why `message` has
-- no canonical bytes.
abbrev pub IsComparedTo : Form → List ℕ → List (List ℕ) → Bounds → Result (Result Bool Refusal) Refusal → Type 0
IsComparedTo form bs message limits r =
    IsToldOf message limits (λ s. HasBytes message limits × IsSecondTold message form bs limits s) r

-- `bs` are read as a message that has canonical bytes, and `r` is the result of its comparison with `ds`.
pub record IsCompared (form : Form) (bs ds : List ℕ) (limits : Bounds) (r : Result Bool Refusal) : Type 0 where
  pub message : List (List ℕ)
  pub reads : Reads form bs limits.message_words message
  pub has : HasBytes message limits
  pub second : IsSecondTold message form ds limits r
