-- Lemmas that other crates may cite: on the lengths of a layout, on `kept_words` and `kept_slots`, and on words that
-- are copied from a message.
pub mod Fronts
pub mod KeptLengths
pub mod LayLengths
pub mod Cut
pub mod Sound
pub mod Room
pub mod PackedElements
pub mod Shaped
pub mod Nulls
pub mod EachRow
pub mod Copied
pub mod Counted
pub mod FirstBits
