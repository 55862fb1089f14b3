-- Lemmas on the writer of layouts: its buffers of words, the steps of a layout, and the slots of a tree and of a
-- message.
pub mod Bytes
pub mod PackedBits
pub mod PackedBytes
pub mod FoundNear
pub mod Cells
pub mod Flags
pub mod Patched
pub mod Drafted
pub mod Laid
pub mod Blocks
pub mod Opened
pub mod Stepwise
pub mod Sized
pub mod Weighed
pub mod TreeItems
pub mod MessageItems
