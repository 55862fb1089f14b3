-- Definitions that are not used in the contract of any public function.
pub mod Draft
pub mod PaddedBytes
pub mod Source
pub mod TreeSlots
