pub mod inner
pub mod LinesApart
pub mod ShownText
pub mod CmpMessages
pub mod CmpRun
pub mod FaultText
pub mod Laws
