pub mod inner
pub mod Numbers
pub mod Parts
pub mod Cuts
pub mod Covers
pub mod Cover
