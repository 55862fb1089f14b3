-- Lemmas that other crates may cite.
pub mod Choices
pub mod FieldBits
pub mod OneSegment
pub mod Pointers
pub mod Words
