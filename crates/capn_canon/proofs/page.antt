-- Lemmas on the canonical form by the rules of the encoding page.
pub mod Rules
pub mod Ends
pub mod PointerWords
pub mod Stands
pub mod LaidFollows
pub mod Denoted
pub mod SamePlaces
pub mod ThePage
