-- The displayed texts of faults. (Our own.)
use Rattle.std.specs.Prelude.{ℕ, List, ◌++◌, codes}
use Rattle.std.specs.Fmt.{decimal}
use Rattle.capn_stream.specs.declared.fault.FrameFault.{FrameFault}
use Rattle.capn_stream.specs.declared.fault.FrameFault.TheVariants as frames
use Rattle.capn_stream.specs.declared.fault.ReadFault.{ReadFault}
use Rattle.capn_stream.specs.declared.fault.ReadFault.TheVariants as reads
use Rattle.capn_stream.specs.declared.segments_fault.SegmentsFault.{SegmentsFault}
use Rattle.capn_stream.specs.declared.segments_fault.SegmentsFault.TheVariants as segments_faults

-- the displayed text of the reason why bytes are no frame
abbrev pub frame_text : FrameFault → List ℕ
frame_text frames.Memory = codes "out of memory"
frame_text frames.Empty = codes "Empty"
frame_text (frames.TooManySegments n) = codes "TooManySegments(" ++ decimal n ++ codes ")"
frame_text (frames.TooManyWords n) = codes "TooManyWords(" ++ decimal n ++ codes ")"
frame_text frames.Cut = codes "Cut"
frame_text frames.Failed = codes "Failed"

-- the displayed text of the reason why no message was read
abbrev pub read_text : ReadFault → List ℕ
read_text reads.Memory = codes "out of memory"
read_text reads.Io = codes "input or output failed"
read_text (reads.Frame fault) = codes "frame: " ++ frame_text fault

-- the displayed text of the reason why segments are no message, equal to the text of the same fault of a frame
abbrev pub segments_text : SegmentsFault → List ℕ
segments_text segments_faults.Empty = codes "Empty"
segments_text (segments_faults.TooManySegments n) = codes "TooManySegments(" ++ decimal n ++ codes ")"
segments_text (segments_faults.TooManyWords n) = codes "TooManyWords(" ++ decimal n ++ codes ")"
