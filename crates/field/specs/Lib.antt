pub mod Checking
pub mod Cells
pub mod Means
pub mod Laws
