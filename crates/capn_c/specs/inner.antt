-- Definitions that are not used in the contract of any public function.
pub mod Told
pub mod Lent
pub mod Reported
pub mod RunHeld
pub mod Written
pub mod Indexing
