pub mod shared
pub mod Filling
pub mod Came
pub mod Waiting
pub mod Received
pub mod Sent
pub mod ReadFirst
pub mod FrameRows
pub mod OneSegment
mod Joined
mod Held
pub mod Runs
mod WorkedRuns
