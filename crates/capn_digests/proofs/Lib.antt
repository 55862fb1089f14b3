pub mod Marks
pub mod Home
pub mod Kept
pub mod Found
pub mod Sets
pub mod Grown
