-- Lemmas about the steps of a comparison.
pub mod Words
pub mod Blocks
pub mod Bits
pub mod Numbers
pub mod Kinds
pub mod Slots
pub mod RowsApart
pub mod Contents
pub mod Verdicts
