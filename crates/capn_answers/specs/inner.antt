-- Definitions that are not used in the contract of any public function.
pub mod Answered
pub mod Filled
