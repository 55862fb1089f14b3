pub mod Calls
pub mod StatusCodes
pub mod Styles
