-- The report for a fault in the first frame of a stream. (Our own.)
use Rattle.std.specs.Prelude.{◌≡◌, ◌≢◌, ℕ, List}
use Rattle.capn_stream.specs.declared.fault.FrameFault.{FrameFault}
use Rattle.capn_stream.specs.declared.fault.FrameFault.TheVariants as frame
use Rattle.capn_abi.specs.StatusCodes.{answered, at_number, frame_code}
use Rattle.capn_c.specs.FrameNeed.{needed}
use Rattle.capn_abi.specs.declared.report.CapnReport.{CapnReport}

-- The report for the fault of a frame that begins with `bs`. If the frame is incomplete, the report has the number of
-- bytes that the frame needs. Otherwise it has the number of the fault.
abbrev pub frame_report : List ℕ → FrameFault → CapnReport
frame_report bs frame.Empty = answered (needed bs) 0 0
frame_report bs frame.Cut = answered (needed bs) 0 0
frame_report bs (frame.TooManySegments n) = at_number n
frame_report bs (frame.TooManyWords n) = at_number n
frame_report bs frame.Memory = at_number 0
frame_report bs frame.Failed = at_number 0

-- `status` and `report` describe the fault `e` of the frame in `bs`. If `status` is not 8, no other fault has this
-- status and this report.
pub record ReportsFrame (bs : List ℕ) (status : ℕ) (report : CapnReport) (e : FrameFault) : Type 0 where
  pub status_is : status ≡ frame_code e
  pub report_is : report ≡ frame_report bs e
  pub alone : status ≢ 8 → (f : FrameFault) → status ≡ frame_code f → report ≡ frame_report bs f → f ≡ e
