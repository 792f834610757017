pub mod Closings
pub mod Files
pub mod Halls
pub mod Scripted
pub mod SetUp
pub mod Tallies
