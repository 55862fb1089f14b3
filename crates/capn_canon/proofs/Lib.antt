pub mod shared
pub mod reading
pub mod places
pub mod check
pub mod theorem
pub mod calls
pub mod page
