-- Lemmas that other crates may cite.
pub mod Bits
pub mod Cuts
pub mod Fitting
pub mod Prices
pub mod Ranges
pub mod SameTrimmed
pub mod StaysFit
pub mod Tariffs
pub mod Told
pub mod Trimmed
