-- Definitions that are not used in the contract of any public function.
pub mod Picker
pub mod Holding
pub mod Serving
pub mod IntakeRun
pub mod Intakes
pub mod Last
