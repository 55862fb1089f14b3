-- Lemmas that other crates may cite.
pub mod Reading
pub mod TaskRuns
pub mod OneCount
