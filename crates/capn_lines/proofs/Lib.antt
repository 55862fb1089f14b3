pub mod shared
mod Sums
mod Numbered
mod Counted
mod Covers
mod Orders
mod Objects
mod SameObjects
mod Places
mod Together
mod LineWalks
mod Lines
mod OneLine
mod WorkedLines
