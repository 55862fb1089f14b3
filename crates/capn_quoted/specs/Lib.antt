pub mod Texts
pub mod Hidden
pub mod Escapes
pub mod Reading
pub mod Laws
