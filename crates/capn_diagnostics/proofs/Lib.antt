pub mod ListedParts
pub mod PlacesOnPaths
pub mod PlaceWithin
pub mod PathParts
pub mod WordDigits
