pub mod inner
pub mod Paths
pub mod Steps
pub mod Finds
pub mod Holders
pub mod Laws
