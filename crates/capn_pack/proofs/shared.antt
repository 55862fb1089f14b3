-- Lemmas that other crates may cite.
pub mod ChosenLaws
pub mod FirstParts
pub mod GroupLaws
pub mod GroupLemmas
pub mod RefusalLaws
pub mod SplitLaws
pub mod SpreadLemmas
pub mod StreamLemmas
