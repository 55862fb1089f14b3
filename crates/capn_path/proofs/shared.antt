-- Lemmas that other crates cite.
pub mod Steps
pub mod Passing
