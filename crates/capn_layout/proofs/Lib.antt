pub mod shared
pub mod writer
