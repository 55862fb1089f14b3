-- Lemmas on reading canonical words: the targets of the pointers, and the value that the words denote.
pub mod StandsIn
pub mod OneSegment
pub mod LaidPointers
pub mod Tight
pub mod ReadBack
pub mod ReadBare
