pub mod inner
pub mod FaultText
pub mod WrittenValue
pub mod MadeInput
pub mod Endings
pub mod MakeRun
pub mod MadeTexts
pub mod Laws
