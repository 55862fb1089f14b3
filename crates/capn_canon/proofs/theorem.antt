-- Lemmas on canonical bytes as a canonical form of values, and worked examples.
pub mod CanonOfTrimmed
pub mod CapOfTrimmed
pub mod EqualExactlySame
pub mod Headline
pub mod TheTheorem
pub mod WorkedCanon
pub mod WorkedObjects
pub mod WorkedPacked
pub mod WorkedPage
pub mod Told
pub mod IntoDecided
