-- The status and the numbers that report a refusal. (Our own.)
use Rattle.std.specs.Prelude.{◌≡◌, ◌≢◌, ℕ, Bool, ◌||◌, ◌&&◌, nat_eq, nat_lt}
use Rattle.capn_words.specs.declared.bare.BareFault.{BareFault}
use Rattle.capn_words.specs.declared.bare.BareFault.TheVariants as bare
use Rattle.capn_pack.specs.declared.fault.UnpackFault.{UnpackFault}
use Rattle.capn_pack.specs.declared.fault.UnpackFault.TheVariants as packed
use Rattle.capn_stream.specs.declared.fault.FrameFault.{FrameFault}
use Rattle.capn_stream.specs.declared.fault.FrameFault.TheVariants as frame
use Rattle.capn_target.specs.declared.target.Fault.{Fault}
use Rattle.capn_target.specs.declared.target.Fault.TheVariants as walk
use Rattle.capn_canon.specs.declared.refusal.Refusal.{Refusal}
use Rattle.capn_canon.specs.declared.refusal.Refusal.TheVariants as refusals
use Rattle.capn_abi.specs.declared.report.CapnReport.{CapnReport}

-- A report with the number `n` in `at`, and 0 in all other fields.
abbrev pub at_number : ℕ → CapnReport
at_number n = record { length = 0; at = n; segment = 0; word = 0; paid = 0; visits = 0 }

-- A report of an answer: its length in bytes, the number of words that the walk paid, and the number of visits.
abbrev pub answered : ℕ → ℕ → ℕ → CapnReport
answered length paid visits = record { length = length; at = 0; segment = 0; word = 0; paid = paid; visits = visits }

-- The status of a fault of bare bytes.
abbrev pub bare_code : BareFault → ℕ
bare_code (bare.NotWhole n) = 16
bare_code (bare.TooLong n) = 17

-- The number in the report of a fault of bare bytes.
abbrev pub bare_number : BareFault → ℕ
bare_number (bare.NotWhole n) = n
bare_number (bare.TooLong n) = n

-- The status of a fault of packed bytes. `Failed` is never returned.
abbrev pub packed_code : UnpackFault → ℕ
packed_code packed.Memory = 8
packed_code (packed.Cut at) = 32
packed_code (packed.TooLong at) = 33
packed_code packed.Failed = 254

-- The number in the report of a fault of packed bytes.
abbrev pub packed_number : UnpackFault → ℕ
packed_number packed.Memory = 0
packed_number (packed.Cut at) = at
packed_number (packed.TooLong at) = at
packed_number packed.Failed = 0

-- The status of a fault of a frame. `Failed` is never returned.
abbrev pub frame_code : FrameFault → ℕ
frame_code frame.Memory = 8
frame_code frame.Empty = 48
frame_code (frame.TooManySegments n) = 49
frame_code (frame.TooManyWords n) = 50
frame_code frame.Cut = 51
frame_code frame.Failed = 255

-- The number in the report of a fault of a frame.
abbrev pub frame_number : FrameFault → ℕ
frame_number frame.Memory = 0
frame_number frame.Empty = 0
frame_number (frame.TooManySegments n) = n
frame_number (frame.TooManyWords n) = n
frame_number frame.Cut = 0
frame_number frame.Failed = 0

-- The status of a fault of a walk.
abbrev pub walk_code : Fault → ℕ
walk_code walk.NoRoot = 64
walk_code walk.RootKind = 65
walk_code walk.Reserved = 66
walk_code walk.NoSegment = 67
walk_code walk.PadRange = 68
walk_code walk.BadPad = 69
walk_code walk.Range = 70
walk_code walk.BadTag = 71
walk_code walk.TagOverrun = 72
walk_code walk.TooDeep = 73
walk_code walk.OverBudget = 74
walk_code walk.Memory = 8

-- The status of a refusal.
abbrev pub code : Refusal → ℕ
code (refusals.Bare e) = bare_code e
code (refusals.Packed e) = packed_code e
code (refusals.Frame e) = frame_code e
code (refusals.Trailing at) = 52
code (refusals.Walk s) = walk_code s.fault
code (refusals.Capability k) = 80
code refusals.Memory = 8

-- The report of a refusal.
abbrev pub report_of : Refusal → CapnReport
report_of (refusals.Bare e) = at_number (bare_number e)
report_of (refusals.Packed e) = at_number (packed_number e)
report_of (refusals.Frame e) = at_number (frame_number e)
report_of (refusals.Trailing at) = at_number at
report_of (refusals.Walk s) =
    record { length = 0; at = 0; segment = s.place.segment; word = s.place.word; paid = s.paid; visits = s.visits }
report_of (refusals.Capability k) = at_number k
report_of refusals.Memory = at_number 0

-- `status` and `report` describe the refusal `e`. If `status` is not 8, no other refusal has this status and this
-- report.
pub record Reports (status : ℕ) (report : CapnReport) (e : Refusal) : Type 0 where
  pub status_is : status ≡ code e
  pub report_is : report ≡ report_of e
  pub alone : status ≢ 8 → (f : Refusal) → status ≡ code f → report ≡ report_of f → f ≡ e

-- `status` and `report` describe the fault `e` of packed bytes. If `status` is not 8, no other fault of packed bytes
-- has this status and this report.
pub record ReportsPacked (status : ℕ) (report : CapnReport) (e : UnpackFault) : Type 0 where
  pub status_is : status ≡ packed_code e
  pub report_is : report ≡ at_number (packed_number e)
  pub alone : status ≢ 8 → (f : UnpackFault) → status ≡ packed_code f → report ≡ at_number (packed_number f) → f ≡ e

-- True if `n` is one of the statuses other than 9, which only `capn_canonical_with_scratch` returns.
abbrev pub is_status : ℕ → Bool
is_status n =
    nat_lt n 9 || nat_eq n 16 || nat_eq n 17 || nat_eq n 32 || nat_eq n 33 || (nat_lt 47 n && nat_lt n 53)
    || (nat_lt 63 n && nat_lt n 75) || nat_eq n 80
