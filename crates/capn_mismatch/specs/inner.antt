-- Definitions that are not used in the contract of any public function.
pub mod Difference
pub mod Made
pub mod Owned
pub mod Reached
pub mod Search
