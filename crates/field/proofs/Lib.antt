pub mod Passed
pub mod Ahead
