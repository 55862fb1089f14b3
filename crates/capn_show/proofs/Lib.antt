pub mod shared
mod TextDigits
mod LineTexts
mod TextBytes
mod Grown
mod SlotTexts
mod ItemTexts
mod EmittedItems
mod EmittedTexts
mod PartSteps
mod BlockDigits
mod BitDigits
mod JsonEmitted
mod JsonDigits
mod OneJson
