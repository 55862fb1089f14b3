-- Lemmas that other crates may cite.
pub mod Inside
pub mod NeverNull
pub mod OneBare
pub mod Present
pub mod Ranges
pub mod Segments
pub mod Ways
