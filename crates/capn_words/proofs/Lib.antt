pub mod shared
mod Written
pub mod PointerRows
