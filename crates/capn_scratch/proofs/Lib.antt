mod Agreed
mod Decided
mod EndWords
mod Forms
mod Groups
mod Spread
