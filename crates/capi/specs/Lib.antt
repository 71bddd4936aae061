pub mod Codes
pub mod Tells
