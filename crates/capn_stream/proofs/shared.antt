-- Lemmas that other crates may cite.
pub mod Cutting
pub mod Ends
pub mod Entries
pub mod FrameLaws
pub mod Longer
pub mod SegmentBytes
pub mod Wanting
pub mod WholeFrames
