-- Definitions that are not used in the contract of any public function.
pub mod BareTold
pub mod Due
pub mod InPlace
pub mod OneSegment
pub mod Outcomes
pub mod PassReads
pub mod WordsOfLayout
