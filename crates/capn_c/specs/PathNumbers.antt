-- The numbers of a path in the caller's buffer, and the report of the path's length. (Our own.)
use Rattle.std.specs.Prelude.{◌≡◌, ◌⊎◌, ℕ, ◌*◌, ◌≤◌, List, length}
use Rattle.capn_walk.specs.declared.walk_answer.Stopped.{Stopped}
use Rattle.capn_canon.specs.declared.refusal.Refusal.TheVariants as refusals
use Rattle.capn_abi.specs.Calls.{IsWritten, HasNoRoom}
use Rattle.capn_abi.specs.StatusCodes.{Reports}
use Rattle.capn_abi.specs.declared.report.CapnReport.{CapnReport}

-- If `numbers` fit into the buffer `old`, `new` is `old` with its first numbers replaced by `numbers`. Otherwise `new`
-- is `old`.
abbrev pub ArePlaced : List ℕ → List ℕ → List ℕ → Type 0
ArePlaced numbers old new =
    ((length numbers ≤ length old) × IsWritten numbers old new) ⊎ HasNoRoom numbers old new

-- The report `r` with its length replaced by `n`.
abbrev pub with_length : ℕ → CapnReport → CapnReport
with_length n r =
    record { length = n; at = r.at; segment = r.segment; word = r.word; paid = r.paid; visits = r.visits }

-- `status` and `report` describe `stopped`, except that the length in `report` is 4 bytes for each number of `path`.
-- `path` is at the start of `new` if `path` fits.
pub record TellsPath (status : ℕ) (report : CapnReport) (stopped : Stopped) (path old new : List ℕ) : Type 0 where
  pub reports : Reports status (with_length 0 report) (refusals.Walk stopped)
  pub long : report.length ≡ 4 * length path
  pub placed : ArePlaced path old new
