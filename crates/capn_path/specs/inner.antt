-- Definitions that are not used in the contract of any public function.
pub mod Seeks
pub mod Tested
pub mod Numbered
pub mod Followed
