pub mod Paths
pub mod Walked
pub mod Mismatches
pub mod LineRecords
pub mod Annotated
pub mod inner
