-- Lemmas that other crates may cite.
pub mod OneMessageLaws
pub mod OneShown
