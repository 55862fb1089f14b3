-- Lemmas that other crates may cite.
pub mod Appended
pub mod BareTexts
pub mod Ends
pub mod FoundKinds
pub mod FoundTexts
pub mod PlainTexts
pub mod ReadBytes
pub mod Sequels
pub mod Steps
pub mod Within
