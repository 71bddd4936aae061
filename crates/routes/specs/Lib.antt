pub mod Stock
pub mod Routes
pub mod Refusals
pub mod Came
pub mod Took
