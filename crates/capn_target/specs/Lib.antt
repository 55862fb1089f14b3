pub mod Target
pub mod Shapes
pub mod Ways
pub mod Display
