pub mod shared
pub mod Anywhere
pub mod Apart
pub mod Cases
pub mod Copies
pub mod Costs
pub mod Decided
pub mod FirstCaps
pub mod FirstMisfit
pub mod Fronts
pub mod Heights
pub mod Inverse
pub mod Kept
pub mod Lists
pub mod Depths
pub mod Digits
pub mod Numbered
pub mod OnceTrimmed
pub mod Pairwise
pub mod Shown
pub mod Sized
mod WorkedTrees
mod WorkedGetters
mod Nulls
