pub mod Nodes
pub mod Kept
pub mod Steps
