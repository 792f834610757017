pub mod Moves
pub mod Possible
pub mod Touched
pub mod Changed
pub mod Drafted
pub mod Rearranged
pub mod Laws
