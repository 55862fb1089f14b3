pub mod Written
pub mod Carried
pub mod EndedOrders
pub mod OneAlone
pub mod Shown
pub mod UnorderedEnds
