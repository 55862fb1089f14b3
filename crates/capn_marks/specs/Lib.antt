pub mod Annotation
pub mod Laws
pub mod Marked
pub mod MarkedPart
pub mod MarkedPlaces
