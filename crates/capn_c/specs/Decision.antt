-- The results of two calls with the same arguments. (Our own.)
use Rattle.std.specs.Prelude.{◌≡◌, ◌≢◌, ℕ}
use Rattle.capn_abi.specs.declared.report.CapnReport.{CapnReport}

-- One call returns the status `s` and the report `r`, another the status `t` and the report `q`. If neither status is
-- 8, the statuses are equal and the reports are equal.
abbrev pub Agree : (s : ℕ) → (r : CapnReport) → (t : ℕ) → (q : CapnReport) → Type 0
Agree s r t q = s ≢ 8 → t ≢ 8 → (s ≡ t) × (r ≡ q)
