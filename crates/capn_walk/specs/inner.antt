-- Definitions that are not used in the contract of any public function.
pub mod SlotsLeft
pub mod Reach
pub mod IndexRoom
pub mod Outcomes
pub mod Verdict
pub mod OwnReads
pub mod Told
