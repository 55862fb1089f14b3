-- Definitions that are not used in the contract of any public function.
pub mod StoredWords
pub mod FrameOutput
pub mod Stages
pub mod KeptEnds
