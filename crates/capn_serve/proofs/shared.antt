-- Lemmas that other crates may cite.
pub mod Said
pub mod Adding
pub mod Appending
pub mod Given
pub mod OneServing
pub mod Until
pub mod AfterMessages
pub mod Wrote
pub mod Finishes
pub mod PlainEnds
pub mod SkipFaults
