pub mod shared
pub mod Splits
pub mod Searches
pub mod Counts
pub mod Unique
pub mod Stopping
pub mod Holding
pub mod Followed
