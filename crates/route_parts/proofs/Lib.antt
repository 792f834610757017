pub mod Carried
pub mod Counts
pub mod Keeping
pub mod Meeting
pub mod Nothing
