pub mod Kind
pub mod Cell
pub mod Millis
pub mod Trims
