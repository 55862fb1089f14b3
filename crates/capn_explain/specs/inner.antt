-- Definitions that are not used in the contract of any public function.
pub mod Closing
pub mod Figures
