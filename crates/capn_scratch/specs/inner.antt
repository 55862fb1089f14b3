-- Definitions that are not used in the contract of any public function.
pub mod Ends
pub mod Groups
pub mod Outcomes
pub mod WalkWork
