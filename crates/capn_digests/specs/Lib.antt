pub mod Tag
pub mod Buckets
pub mod Digests
