pub mod Trails
pub mod Views
pub mod Lefts
pub mod Steps
