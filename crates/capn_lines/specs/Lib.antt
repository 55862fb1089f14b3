pub mod inner
pub mod Kinds
pub mod Sums
pub mod Lines
pub mod Lists
pub mod Counts
pub mod Laws
