-- Lemmas that other crates may cite.
pub mod BareCanon
pub mod MemoryNeeds
pub mod OneReading
pub mod NotRefused
pub mod NotUnaccepted
pub mod OneRefusal
