pub mod Message
pub mod Pointers
pub mod Watched
pub mod Laws
pub mod Display
