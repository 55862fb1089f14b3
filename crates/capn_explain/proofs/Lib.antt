pub mod Accounts
pub mod Closings
pub mod Reporters
pub mod Zeros
pub mod AtLeast
pub mod Faithful
pub mod NothingWritten
