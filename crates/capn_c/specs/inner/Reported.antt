-- The results of the private functions of the calls for C: a status, a report, and what is written.
use Rattle.std.specs.Prelude.{IsTrue, ◌≡◌, ◌≢◌, ◌⊎◌, ℕ, ◌+◌, ◌*◌, ◌<◌, ◌≤◌, Bool, false, List, None, ◌++◌, length, take}
use Rattle.std.specs.Prelude.{drop, Result, MatchResult}
use Rattle.capn_value.specs.FirstCap.{first_cap}
use Rattle.capn_value.specs.Tree.{Tree}
use Rattle.capn_stream.specs.FrameRefusal.{most_few}
use Rattle.capn_walk.specs.Accepted.{IsAccepted, IsBounded, IsValueOf}
use Rattle.capn_walk.specs.Index.{index_of}
use Rattle.capn_walk.specs.Limits.{Bounds}
use Rattle.capn_walk.specs.Surveyed.{IsSurvey}
use Rattle.capn_walk.specs.declared.survey_answer.Surveyed.{Surveyed}
use Rattle.capn_canon.specs.Canonicity.{IsCanonicalForm}
use Rattle.capn_canon.specs.Denotes.{Answers, AnswersMessage, Denotes}
use Rattle.capn_canon.specs.Layout.{canon}
use Rattle.capn_canon.specs.Refusal.{IsRefused, IsRefusedMessage, IsUnaccepted, IsUnacceptedIn}
use Rattle.capn_canon.specs.SurveyedBytes.{Surveys}
use Rattle.capn_canon.specs.declared.form.Form.{Form}
use Rattle.capn_canon.specs.declared.refusal.Refusal.{Refusal}
use Rattle.capn_abi.specs.Calls.{Delivers}
use Rattle.capn_abi.specs.StatusCodes.{Reports, answered, is_status}
use Rattle.capn_abi.specs.declared.report.CapnReport.{CapnReport}
use Rattle.capn_c.specs.Entries.{IndexedIn, c_index, table_length}
use Rattle.capn_c.specs.Held.{AnswersHeld, DenotesHeld, IsRefusedHeld, IsUnacceptedHeld}
use Rattle.capn_c.specs.declared.entries.CapnEntry.{CapnEntry}

-- `is_status` is true of `status`. `budget` bounds the price and the visits in `report` (`IsBounded`). If `status` is
-- at least 8, `status` and `report` describe a refusal for which `reason` holds. `status` is 8 only if `needed` holds.
pub record IsReported (reason : Refusal → Type 0) (needed : Type 0) (budget status : ℕ) (report : CapnReport)
    : Type 0 where
  pub listed : IsTrue (is_status status)
  pub refused : 8 ≤ status → (e : Refusal) × Reports status report e × reason e
  pub memory : status ≡ 8 → needed
  pub bounded : IsBounded budget report.paid report.visits

-- ---- calls with one success, of status 0

-- `status` is 0 only if `done` holds. Any other `status` reports a refusal (`IsReported`). If `value` holds of some
-- value, `status` is 0 or 8.
pub record IsDone (done : Type 0) (value : Tree → Type 0) (reason : Refusal → Type 0) (needed : Type 0)
    (budget status : ℕ) (report : CapnReport) : Type 0 where
  pub possible : (status ≡ 0) ⊎ (8 ≤ status)
  pub found : status ≡ 0 → done
  pub only : (v : Tree) → value v → (status ≡ 0) ⊎ (status ≡ 8)
  pub reported : IsReported reason needed budget status report

-- `IsDone` for a call on the bytes `bs` in `form`. A reported refusal is `Memory`, or says why `bs` are not accepted.
abbrev pub IsDoneIn : Form → List ℕ → Bounds → (done needed : Type 0) → ℕ → CapnReport → Type 0
IsDoneIn form bs limits done needed status report =
    IsDone done (Denotes form bs limits) (IsUnacceptedIn form bs limits) needed limits.budget status report

-- `IsDone` for a call on the segments of `message`. A refusal that is reported says why the segments are not accepted.
-- `status` is never 8.
abbrev pub IsDoneHeld : List (List ℕ) → Bounds → (done : Type 0) → ℕ → CapnReport → Type 0
IsDoneHeld message limits done status report =
    IsDone done (DenotesHeld message limits) (IsUnacceptedHeld message limits) ⊥ limits.budget status report

-- ---- calls for canonical bytes

-- `status` is 0 only if canonical bytes are written to `new`, and 1 only if the buffer is too short for them. If
-- `status` is at least 8, `status` and `report` describe a refusal. If `status` is not 0, `new` is `old`.
pub record IsFilled (value : Tree → Type 0) (answer : List ℕ → ℕ → Type 0) (reason : Refusal → Type 0)
    (needed : Type 0) (limits : Bounds) (old new : List ℕ) (status : ℕ) (report : CapnReport) : Type 0 where
  pub possible : (status ≤ 1) ⊎ (8 ≤ status)
  pub found : status ≤ 1 → (text : List ℕ) × answer text report.paid × Delivers text status report.length old new
  pub only : (v : Tree) → value v → first_cap v ≡ None → (status ≡ 8) ⊎ Delivers (canon v) status report.length old new
  pub rest : status ≤ 1 → report ≡ answered report.length report.paid 0
  pub reported : IsReported reason needed limits.budget status report
  pub short : status ≤ 1 → report.length ≤ 8 * (report.paid + 1)
  pub kept : status ≢ 0 → new ≡ old
  pub canonical : status ≡ 0 → (v : Tree) → value v → IsCanonicalForm (take report.length new) limits v

-- `IsFilled` for the segments of `message`. `status` is never 8.
abbrev pub IsFilledHeld : List (List ℕ) → Bounds → (old new : List ℕ) → ℕ → CapnReport → Type 0
IsFilledHeld message limits old new status report =
    IsFilled (DenotesHeld message limits) (AnswersHeld message limits) (IsRefusedHeld message limits) ⊥ limits old new
    status report

-- The result `r` is `Ok` with a status, and `IsFilled` holds of it for `message`. No memory is needed.
abbrev pub IsFilledOf : List (List ℕ) → Bounds → (old new : List ℕ) → CapnReport → Result ℕ Refusal → Type 0
IsFilledOf message limits old new report r = MatchResult r
    (λ status. IsFilled (IsValueOf message limits) (AnswersMessage message limits) (IsRefusedMessage message limits) ⊥
    limits old new status report)
    (λ e. ⊥)

-- `IsFilled` for the message that `bs` encode in `form`. A refusal that is reported says why `bs` have no canonical
-- bytes.
abbrev pub IsFilledIn : Form → List ℕ → Bounds → (needed : Type 0) → (old new : List ℕ) → ℕ → CapnReport → Type 0
IsFilledIn form bs limits needed old new status report =
    IsFilled (Denotes form bs limits) (Answers form bs limits) (IsRefused form bs limits) needed limits old new status
    report

-- ---- calls for an index

-- `message` is accepted, and its index has at most `room` entries.
pub record HasRoom (message : List (List ℕ)) (limits : Bounds) (room : ℕ) : Type 0 where
  pub accepted : IsAccepted message limits
  pub fits : length (index_of message limits) ≤ room

-- `new` begins with the index of `message`. The entries after the index are the same as in `old`. The message comes
-- after a table of `table` bytes.
abbrev pub IsIndex : (table : ℕ) → List (List ℕ) → Bounds → (old new : List CapnEntry) → Type 0
IsIndex table message limits old new =
    new ≡ c_index table message limits ++ drop (length (index_of message limits)) old

-- If `is_written` is true, the index is written, as `IsIndex` says. Otherwise `new` is `old`.
pub record IsIndexOr (table : ℕ) (message : List (List ℕ)) (limits : Bounds) (old new : List CapnEntry)
    (is_written : Bool) : Type 0 where
  pub written : IsTrue is_written → IsIndex table message limits old new
  pub kept : is_written ≡ false → new ≡ old

-- `status` is 0 only if the index of a surveyed message is written, and 1 only if the buffer is too short for it. If
-- `status` is at least 8, `status` and `report` describe a refusal.
pub record IsIndexed (survey : Surveyed → Type 0) (index : Type 0) (value : Tree → Type 0) (reason : Refusal → Type 0)
    (needed : Type 0) (budget : ℕ) (old new : List CapnEntry) (status : ℕ) (report : CapnReport) : Type 0 where
  pub possible : (status ≤ 1) ⊎ (8 ≤ status)
  pub counted : status ≤ 1 → (s : Surveyed) × survey s × (report ≡ answered (24 * s.visits) s.paid s.visits)
  pub written : status ≡ 0 → (report.visits ≤ length old) × index
  pub no_room : status ≡ 1 → length old < report.visits
  pub only : (v : Tree) → value v → (status ≤ 1) ⊎ (status ≡ 8)
  pub reported : IsReported reason needed budget status report
  pub kept : status ≢ 0 → new ≡ old

-- The result `r` is `Ok` with a status, and `IsIndexed` holds of it for `message`, which is read in `form`.
abbrev pub IsIndexedOf : Form → List (List ℕ) → Bounds → (old new : List CapnEntry) → CapnReport → Result ℕ Refusal
    → Type 0
IsIndexedOf form message limits old new report r = MatchResult r
    (λ status. IsIndexed (IsSurvey message limits) (IsIndex (table_length form message) message limits old new)
    (IsValueOf message limits) (IsUnaccepted message limits) (most_few < length message) limits.budget old new status
    report)
    (λ e. ⊥)

-- `IsIndexed` for the message that `bs` encode in `form`. A refusal that is reported says why `bs` are not accepted.
abbrev pub IsIndexedIn : Form → List ℕ → Bounds → (needed : Type 0) → (old new : List CapnEntry) → ℕ → CapnReport
    → Type 0
IsIndexedIn form bs limits needed old new status report =
    IsIndexed (Surveys form bs limits) (IndexedIn form bs limits old new) (Denotes form bs limits)
    (IsUnacceptedIn form bs limits) needed limits.budget old new status report
