-- Lemmas on the results of the calls, for a message and for bytes in each form.
pub mod AtRoot
pub mod OfMessages
pub mod Answered
pub mod InEachForm
pub mod Accounted
pub mod Measured
pub mod OnlySegment
pub mod ReadInput
pub mod Compared
pub mod IntoBuffers
pub mod Verdicts
