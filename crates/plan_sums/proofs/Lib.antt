pub mod Cutting
pub mod Searching
pub mod Taking
pub mod Tallies
