pub mod Holding
pub mod Stops
pub mod Views
