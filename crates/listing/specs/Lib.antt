pub mod Routes
pub mod Odometer
pub mod Sinks
pub mod Handing
