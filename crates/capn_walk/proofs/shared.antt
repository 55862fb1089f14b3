-- Lemmas that other crates may cite.
pub mod CapsMet
pub mod Costs
pub mod Elements
pub mod Fitting
pub mod InRangeAt
pub mod Judge
pub mod Listed
pub mod Numbers
pub mod Plain
pub mod RowWalks
pub mod Shifts
pub mod SlotPrices
pub mod Stops
pub mod Unique
pub mod Walks
