pub mod Below
pub mod Kept
pub mod LayersPile
pub mod Routes
