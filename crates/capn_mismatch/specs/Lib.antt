pub mod inner
pub mod Difference
pub mod Owner
pub mod Capability
pub mod Mismatches
pub mod CanonicalLines
pub mod Laws
