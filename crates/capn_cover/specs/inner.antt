pub mod Known
pub mod Knows
pub mod Laid
pub mod Marked
