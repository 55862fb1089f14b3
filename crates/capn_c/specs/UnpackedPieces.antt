-- The first groups of a packed text, unpacked into a buffer. (Our own.)
use Rattle.std.specs.Prelude.{◌≡◌, ℕ, ◌-◌, ◌*◌, ◌/◌, ◌^◌, List, [], length, min}
use Rattle.capn_pack.specs.WholeGroups.{UnpacksSome}
use Rattle.capn_pack.specs.declared.whole_groups.Next.{Next}
use Rattle.capn_pack.specs.declared.whole_groups.Next.TheVariants as nexts
use Rattle.capn_abi.specs.Calls.{IsWritten}
use Rattle.capn_abi.specs.declared.report.CapnReport.{CapnReport}

-- The number of complete words that fit into `room` bytes, at most 2^32 - 1.
abbrev pub words_in : ℕ → ℕ
words_in room = min (room / 8) (2 ^ 32 - 1)

-- The status for what follows the unpacked groups: 0 for the end, 32 for an incomplete group, or 33 for a group that
-- doesn't fit.
abbrev pub next_code : Next → ℕ
next_code nexts.End = 0
next_code nexts.Cut = 32
next_code nexts.TooLong = 33

-- A report of `written` bytes written to the buffer, and of groups that take `taken` bytes of the text.
abbrev pub progressed : ℕ → ℕ → CapnReport
progressed written taken = record { length = written; at = taken; segment = 0; word = 0; paid = 0; visits = 0 }

-- The first groups of `bytes` are unpacked into the buffer, as many as are complete and fit. The report has the number
-- of bytes written and the length of these groups. The status says what follows these groups.
pub record UnpacksInto (bytes : List ℕ) (status : ℕ) (report : CapnReport) (old new : List ℕ) : Type 0 where
  pub content : List ℕ
  pub words : ℕ
  pub next : Next
  pub some : UnpacksSome bytes (words_in (length old)) [] content report.at words next
  pub length_is : length content ≡ 8 * words
  pub written : IsWritten content old new
  pub told : report ≡ progressed (8 * words) report.at
  pub status_is : status ≡ next_code next
