-- Definitions that are not used in the contract of any public function.
pub mod Stops
pub mod Tokens
pub mod Values
pub mod QuotedLines
