pub mod inner
pub mod Needs
pub mod Work
pub mod FormRefusal
pub mod Theorem
pub mod Display
pub mod Laws
pub mod Agreement
