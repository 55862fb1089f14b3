pub mod stepwise
