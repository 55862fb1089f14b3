-- The results of the private functions of `capn_canonical_with_scratch`.
use Rattle.std.specs.Prelude.{IsTrue, ◌≡◌, ◌≢◌, ◌⊎◌, ℕ, ◌+◌, ◌*◌, ◌≤◌, List, None, take}
use Rattle.capn_value.specs.FirstCap.{first_cap}
use Rattle.capn_value.specs.Tree.{Tree}
use Rattle.capn_walk.specs.Accepted.{IsBounded}
use Rattle.capn_walk.specs.Limits.{Bounds}
use Rattle.capn_canon.specs.Canonicity.{IsCanonicalForm}
use Rattle.capn_canon.specs.Denotes.{Answers, Denotes}
use Rattle.capn_canon.specs.Layout.{canon}
use Rattle.capn_canon.specs.Refusal.{IsRefused}
use Rattle.capn_canon.specs.declared.form.Form.{Form}
use Rattle.capn_canon.specs.declared.refusal.Refusal.{Refusal}
use Rattle.capn_scratch.specs.Laws.{most_scratch}
use Rattle.capn_scratch.specs.Needs.{HasScratch}
use Rattle.capn_abi.specs.Calls.{Delivers}
use Rattle.capn_abi.specs.StatusCodes.{Reports, answered, at_number}
use Rattle.capn_abi.specs.declared.report.CapnReport.{CapnReport}
use Rattle.capn_c.specs.Lent.{LacksScratch, is_lent_status}

-- The contract of `capn_canonical_with_scratch` holds, for one form and for limits that are in range.
pub record IsLent (form : Form) (bs : List ℕ) (limits : Bounds) (scratch : ℕ) (old new : List ℕ) (status : ℕ)
    (report : CapnReport) : Type 0 where
  pub possible : (status ≤ 1) ⊎ (9 ≤ status)
  pub found : status ≤ 1 → (text : List ℕ) × Answers form bs limits text report.paid × HasScratch form bs scratch
      × Delivers text status report.length old new
  pub only : (v : Tree) → Denotes form bs limits v → first_cap v ≡ None → HasScratch form bs scratch
      → Delivers (canon v) status report.length old new
  pub rest : status ≤ 1 → report ≡ answered report.length report.paid 0
  pub listed : IsTrue (is_lent_status status)
  pub lacking : status ≡ 9 → (report ≡ at_number report.at)
      × LacksScratch form bs limits.message_words scratch report.at
  pub lacked : (n : ℕ) → LacksScratch form bs limits.message_words scratch n
      → (status ≡ 9) × (report ≡ at_number n)
  pub enough : status ≡ 9 → report.at ≤ most_scratch form limits.message_words
  pub refused : 10 ≤ status → (e : Refusal) × Reports status report e × IsRefused form bs limits e
  pub bounded : IsBounded limits.budget report.paid report.visits
  pub short : status ≤ 1 → report.length ≤ 8 * (report.paid + 1)
  pub kept : status ≢ 0 → new ≡ old
  pub canonical : status ≡ 0 → (v : Tree) → Denotes form bs limits v → IsCanonicalForm (take report.length new) limits v
