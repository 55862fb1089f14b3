-- Lemmas on objects that are laid out canonically.
pub mod Standing
pub mod Compared
pub mod ComparedList
pub mod ComparedRows
pub mod InPlace
pub mod NumbersInPlace
pub mod CanonicalWords
