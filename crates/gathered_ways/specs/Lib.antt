pub mod Sums
pub mod Sides
