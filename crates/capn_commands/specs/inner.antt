-- Definitions that are not used in the contract of any public function.
pub mod MessageTexts
pub mod OneServing
pub mod Pending
pub mod ReadInput
pub mod AddedParts
