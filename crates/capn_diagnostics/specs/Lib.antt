pub mod Texts
pub mod PlaceByte
pub mod Slot
pub mod SlotTexts
pub mod MessageTexts
pub mod Refusal
